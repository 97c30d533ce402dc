-- The invariant: the work stands, and the program and the order have not changed.
use Rattle.table.specs.Program.{program_of}
use Rattle.call_order.specs.CallOrder.{places, CallOrder}
use Rattle.sync.specs.Room.{room}
use Rattle.sync.proofs.Settling.{Settling}
use Rattle.sync.proofs.settle.settle.Given as goal

abbrev pub invariant-loop-set : goal.invariant-loop-set
invariant-loop-set l = (o : CallOrder (program_of l.program.table.now) (places l.order)) × Settling l.program.table.now l.program.ready.accepted_is (places l.order) o l.set l.pass l.passes

abbrev pub decreases-loop-set : goal.decreases-loop-set
decreases-loop-set l = room l.set
