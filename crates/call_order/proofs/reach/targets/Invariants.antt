-- The invariant: the calls in the nodes below n are gathered.
use Rattle.table.specs.Program.{program_of}
use Rattle.call_order.proofs.Rows.{Gathered}
use Rattle.call_order.proofs.reach.targets.Given as goal

abbrev pub invariant-loop-n : goal.invariant-loop-n
invariant-loop-n l = Gathered (program_of l.program.table.now) l.back l.n l.rows
