use native.Mathlib.Omega.{arith}
use Rattle.sync.proofs.Offering.{finds_first}
use Rattle.sync.proofs.Leaving.{left_none, left_more, left_all}
use Rattle.sync.proofs.ways.Ways.reach.Goals as goal

pub loop-left-init : goal.loop-left-init
loop-left-init c = left_none _ _ _ _ (finds_first _ _ _ c.new-found.result _ c.new-found.ensures.nodes c.new-found.ensures.set c.add.ensures.nodes c.add.ensures.set)

pub loop-left-preserved : goal.loop-left-preserved
loop-left-preserved c = left_more _ _ _ _ _ _ c.loop-left.invariant (omega arith) (rw (c.from.ensures, c.as_slice.ensures.value) at c.leave.ensures)

pub returns : goal.returns
returns c = left_all _ _ _ _ c.loop-left.found c.loop-left.invariant (omega arith)
