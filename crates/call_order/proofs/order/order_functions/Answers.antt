use native.Mathlib.Omega.{arith}
use Rattle.table.proofs.Laws.{well_formed}
use Rattle.table.proofs.Ready.{functions_are}
use Rattle.call_order.proofs.Placing.{placing_none, placing_more, some_due, due_next, lowest_some}
use Rattle.call_order.proofs.order.order_functions.Goals as goal

pub loop-i-init : goal.loop-i-init
loop-i-init c = placing_none _

pub unwrap-f-requires : goal.unwrap-f-requires
unwrap-f-requires c =
    let p = c.args.program.now in
    let e = functions_are _ _ p.ready in
    let L = c.loop-i in
    lowest_some _ _ c.next.result c.next.ensures (rw (← e) at (some_due _ (well_formed _ p.ready.accepted_is) _ _ c.reach.ensures c.targets-waits.ensures L.placed L.i L.order L.invariant (omega arith)))

pub loop-i-preserved : goal.loop-i-preserved
loop-i-preserved c =
    let p = c.args.program.now in
    let L = c.loop-i in
    let next = rw c.unwrap-f.ensures at c.next.ensures in
    let formed = well_formed _ p.ready.accepted_is in
    placing_more _ L.i L.order L.placed L.invariant (omega (arith, p.few_functions)) c.unwrap-f.result c.with-placed.result
    (due_next _ formed _ _ c.reach.ensures c.targets-waits.ensures L.placed L.i L.order L.invariant c.unwrap-f.result (omega (arith, next.0, functions_are _ _ p.ready)) next.1 next.2)
    c.with-placed.ensures
