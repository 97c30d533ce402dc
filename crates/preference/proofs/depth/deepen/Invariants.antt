-- The invariant: the nodes below n were looked at.
use mathlib.Core.Path.{◌≡◌}
use lib.ListN.{length}
use Rattle.table.specs.Program.{program_of}
use Rattle.preference.specs.Levels.{found_in, Deepening}
use Rattle.preference.proofs.depth.deepen.Given as goal

abbrev pub invariant-loop-n : goal.invariant-loop-n
invariant-loop-n l = record {
  passed : Deepening (program_of l.program.table.now) l.level l.n (found_in l.found) (found_in l.depth) l.grew;
  long : length l.depth ≡ 64;
}
