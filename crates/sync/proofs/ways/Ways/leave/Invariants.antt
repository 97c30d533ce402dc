-- The invariant: the nodes are offered that the edges lead to which the walk has passed.
use Rattle.links.specs.Links.{left}
use Rattle.sync.specs.Words.{member}
use Rattle.sync.proofs.Leaving.{Leaving}
use Rattle.sync.proofs.ways.Ways.leave.Given as goal

abbrev pub invariant-loop-next : goal.invariant-loop-next
invariant-loop-next l = Leaving l.self.program.table.now l.self.program.of l.self.program.ready (member l.avoid) l.a l.fn.found l.found l.next

abbrev pub decreases-loop-next : goal.decreases-loop-next
decreases-loop-next l = left l.next
