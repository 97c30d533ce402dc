use Rattle.table.proofs.Booleans.{not_both}
use Rattle.sync.proofs.Settling.{settling_starts, settling_falls, settling_more, settling_ends, settling_few}
use Rattle.sync.proofs.settle.settle.Goals as goal

pub pass-pass-requires : goal.pass-pass-requires
pass-pass-requires c = rw c.new-ways.ensures c.order_functions-order.ensures.call_order

pub loop-set-init : goal.loop-set-init
loop-set-init c =
    let o = c.order_functions-order.ensures.call_order in
    let p = rw c.new-ways.ensures at c.pass-pass.ensures in
    (o, settling_starts _ c.args.program.ready.accepted_is _ o _ _ c.syncs-set.ensures (record { by = p.passed; whole = p.whole }))

pub pass-pass-requires-in-loop-set : goal.pass-pass-requires-in-loop-set
pass-pass-requires-in-loop-set c = rw c.new-ways.ensures c.order_functions-order.ensures.call_order

pub loop-set-smaller : goal.loop-set-smaller
loop-set-smaller c =
    let i = c.loop-set.invariant in
    settling_falls _ c.args.program.ready.accepted_is _ i.0 _ _ _ i.1 c.is_same.ensures.long.1 c.is_same.ensures.long.0 (λ h. not_both c.is_same.result (c.is_same.ensures.same.1 h) c.loop-set-test.true)

pub loop-set-preserved : goal.loop-set-preserved
loop-set-preserved c =
    let i = c.loop-set.invariant in
    let p = rw c.new-ways.ensures at c.pass-pass-in-loop-set.ensures in
    (i.0, settling_more _ c.args.program.ready.accepted_is _ i.0 _ _ _ i.1 c.is_same.ensures.long.1 c.is_same.ensures.long.0 (λ h. not_both c.is_same.result (c.is_same.ensures.same.1 h) c.loop-set-test.true) _ (record { by = p.passed; whole = p.whole }))

pub returns-clause-looked : goal.returns-clause-looked
returns-clause-looked c =
    let i = c.loop-set.invariant in
    settling_ends _ c.args.program.ready.accepted_is _ i.0 _ _ _ i.1 (c.is_same.ensures.same.0 c.loop-set-test.false)

pub returns-clause-few : goal.returns-clause-few
returns-clause-few c =
    let i = c.loop-set.invariant in
    settling_few _ c.args.program.ready.accepted_is _ i.0 _ _ _ i.1
