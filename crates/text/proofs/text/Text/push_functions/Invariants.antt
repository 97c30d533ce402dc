-- The lines of those before f stand behind what there was.
use Rattle.std.proofs.Common.{◌≡◌, ◌+◌, ◌*◌, ◌≤◌, ◌++◌, length}
use Rattle.text.specs.Listing.{joined}
use Rattle.text.specs.Chosen.{function_text}
use Rattle.text.proofs.text.Text.push_functions.Given as goal

abbrev pub invariant-loop-f : goal.invariant-loop-f
invariant-loop-f l = record {
  appended : l.self.0.bytes ≡ l.initial.self.0.bytes ++ joined (function_text l.chosen) l.f;
  room : length l.self.0.bytes ≤ length l.initial.self.0.bytes + 107 * l.f;
}
