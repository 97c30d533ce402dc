use mathlib.Core.Path.{◌∙◌}
use Rattle.links.proofs.Walks.{walk_next}
use Rattle.sync.proofs.Leaving.{leaving_starts, item, leaving_falls, leaving_more, leaving_ends}
use Rattle.sync.proofs.ways.Ways.leave.Goals as goal

pub loop-next-init : goal.loop-next-init
loop-next-init c = leaving_starts _ _ c.args.self.now.program.ready _ _ _ _ (c.first-next.ensures ∙ c.args.self.now.edges_are.starts c.args.a)

pub edge_to-requires : goal.edge_to-requires
edge_to-requires c = (item _ _ c.args.self.now.program.ready _ _ _ _ _ c.loop-next.invariant _ c.in-Some.is).0

pub loop-next-smaller : goal.loop-next-smaller
loop-next-smaller c =
    let i = c.loop-next.invariant in
    leaving_falls _ _ c.args.self.now.program.ready _ _ _ _ _ i _ c.in-Some.is _
    (c.next-next.ensures ∙ walk_next _ _ _ _ c.args.self.now.edges_are c.args.a _ _ i.walk _ c.in-Some.is)

pub loop-next-preserved : goal.loop-next-preserved
loop-next-preserved c =
    let i = c.loop-next.invariant in
    leaving_more _ _ c.args.self.now.program.ready _ _ _ _ _ i _ c.in-Some.is _ _
    (c.next-next.ensures ∙ walk_next _ _ _ _ c.args.self.now.edges_are c.args.a _ _ i.walk _ c.in-Some.is)
    (rw c.edge_to.ensures.0 at c.offer.ensures)

pub returns : goal.returns
returns c = leaving_ends _ _ c.args.self.now.program.ready _ _ _ _ _ c.loop-next.invariant c.in_default.is
