-- The invariant: the calls that the walk has passed are added.
use Rattle.links.specs.Links.{left}
use Rattle.table.specs.Program.{program_of}
use Rattle.sync.specs.Pass.{call_of}
use Rattle.sync.proofs.Calls.{Adding}
use Rattle.sync.proofs.ways.Ways.with_calls.Given as goal

abbrev pub invariant-loop-next : goal.invariant-loop-next
invariant-loop-next l = Adding (call_of (program_of l.self.program.table.now) l.f) l.self.program.of.nodes l.fn.from l.set l.next

abbrev pub decreases-loop-next : goal.decreases-loop-next
decreases-loop-next l = left l.next
