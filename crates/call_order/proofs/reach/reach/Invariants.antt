-- The invariant: the functions below k were gone through.
use Rattle.table.specs.Program.{program_of}
use Rattle.call_order.proofs.Rows.{Through}
use Rattle.call_order.proofs.reach.reach.Given as goal

abbrev pub invariant-loop-k : goal.invariant-loop-k
invariant-loop-k l = Through (program_of l.program.table.now) l.k l.rows
