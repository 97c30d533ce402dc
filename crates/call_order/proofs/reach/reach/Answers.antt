use mathlib.Core.Path.{◌≡◌}
use native.Mathlib.Omega.{arith}
use Rattle.table.specs.Program.{program_of}
use Rattle.table.proofs.Laws.{well_formed}
use Rattle.table.proofs.Ready.{functions_are}
use Rattle.call_order.proofs.Rows.{through_none, through_more, through_all}
use Rattle.call_order.proofs.reach.reach.Goals as goal

pub loop-k-init : goal.loop-k-init
loop-k-init c = through_none _ 64 _ c.targets-rows.ensures

pub loop-k-preserved : goal.loop-k-preserved
loop-k-preserved c = through_more _ _ _ _ c.loop-k.invariant c.join_through.ensures

pub returns : goal.returns
returns c =
    let p = c.args.program.now in
    let e : c.loop-k.k ≡ (program_of p.table.now).functions = omega (arith, functions_are _ _ p.ready) in
    through_all _ (well_formed _ p.ready.accepted_is) _ (rw e at c.loop-k.invariant)
