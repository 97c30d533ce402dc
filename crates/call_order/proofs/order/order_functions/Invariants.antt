-- The invariant: the first i places have their functions, and these are the ones placed.
use Rattle.table.specs.Program.{program_of}
use Rattle.call_order.proofs.Placing.{Placing}
use Rattle.call_order.proofs.order.order_functions.Given as goal

abbrev pub invariant-loop-i : goal.invariant-loop-i
invariant-loop-i l = Placing (program_of l.program.table.now) l.i l.order l.placed
