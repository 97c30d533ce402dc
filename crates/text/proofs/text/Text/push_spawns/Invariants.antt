-- The lines of those before n stand behind what there was.
use Rattle.std.proofs.Common.{◌≡◌, ◌+◌, ◌*◌, ◌≤◌, ◌++◌, length}
use Rattle.text.specs.Listing.{joined}
use Rattle.text.specs.Chosen.{node_text}
use Rattle.text.proofs.text.Text.push_spawns.Given as goal

abbrev pub invariant-loop-n : goal.invariant-loop-n
invariant-loop-n l = record {
  appended : l.self.0.bytes ≡ l.initial.self.0.bytes ++ joined (node_text l.chosen) l.n;
  room : length l.self.0.bytes ≤ length l.initial.self.0.bytes + 117 * l.n;
}
