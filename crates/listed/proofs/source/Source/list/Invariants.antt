-- The invariant: the rules of the first q places are listed behind the first words, whatever was done before.
use Rattle.std.proofs.Common.{◌≡◌, ◌+◌, ◌≤◌, length}
use Rattle.listed.specs.Listed.{Progress, done, Listed, Listing}
use Rattle.listed.proofs.source.Source.list.Given as goal

abbrev pub invariant-loop-q : goal.invariant-loop-q
invariant-loop-q g l = record {
  few : length l.rules.items ≤ length l.initial.rules.items + l.q;
  listing : (p : Progress) → done p l.group ≡ l.places.start → Listed l.self p l.initial.rules.items → Listing l.self p l.group l.places.start l.places.end l.q l.rules.items;
}
