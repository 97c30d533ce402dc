-- The invariant: the functions at the places before i are looked at.
use Rattle.call_order.specs.CallOrder.{places}
use Rattle.table.specs.Program.{program_of}
use Rattle.sync.specs.Passing.{PassedBy}
use Rattle.sync.proofs.ways.Ways.pass.Given as goal

abbrev pub invariant-loop-i : goal.invariant-loop-i
invariant-loop-i l = PassedBy (program_of l.self.program.table.now) (places l.order) l.fn.from l.i l.pass
