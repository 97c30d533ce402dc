use mathlib.Core.Path.{◌∙◌}
use native.Mathlib.Omega.{arith}
use Rattle.links.proofs.Walks.{walk_next}
use Rattle.sync.proofs.Calls.{adding_starts, adding_item, adding_falls, adding_more, adding_ends, call_of_exists}
use Rattle.sync.proofs.ways.Ways.with_calls.Goals as goal

pub loop-next-init : goal.loop-next-init
loop-next-init c = adding_starts _ _ _ _ (c.first-next.ensures ∙ c.args.self.now.calls_are.starts c.args.f)

pub insert-requires : goal.insert-requires
insert-requires c = omega (arith, (adding_item _ _ _ _ _ c.loop-next.invariant _ c.in-Some.is).0, c.args.self.now.program.few_nodes)

pub loop-next-smaller : goal.loop-next-smaller
loop-next-smaller c =
    let i = c.loop-next.invariant in
    adding_falls _ _ _ _ _ i _ c.in-Some.is _ (c.next-next.ensures ∙ walk_next _ _ _ _ c.args.self.now.calls_are c.args.f _ _ i.walk _ c.in-Some.is)

pub loop-next-preserved : goal.loop-next-preserved
loop-next-preserved c =
    let i = c.loop-next.invariant in
    adding_more _ _ _ _ _ i _ c.in-Some.is _ (c.next-next.ensures ∙ walk_next _ _ _ _ c.args.self.now.calls_are c.args.f _ _ i.walk _ c.in-Some.is) _ c.insert.ensures

pub returns : goal.returns
returns c =
    let p = c.args.self.now.program in
    adding_ends _ _ _ _ _ c.loop-next.invariant c.in_default.is (λ n h. omega (arith, call_of_exists p.table.now c.args.f n h, p.nodes_are))
