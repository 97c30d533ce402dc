use Prim.Native.Nat.{◌<◌}
use mathlib.Core.Path.{◌≡◌, sym, ◌∙◌}
use native.Mathlib.Omega.{arith}
use Rattle.table.specs.Program.{program_of}
use Rattle.table.proofs.Ready.{nodes_are}
use Rattle.call_order.proofs.Rows.{gathered_none, gathered_pass, gathered_more, gathered_all}
use Rattle.call_order.proofs.reach.targets.Goals as goal
use Rattle.call_order.proofs.reach.targets.Goals.{then-is_one_way, else-is_one_way}

pub loop-n-init : goal.loop-n-init
loop-n-init c = gathered_none _ _

pub loop-n-preserved : goal.loop-n-preserved
loop-n-preserved c =
    let L = c.loop-n in
    let p = c.args.program.now in
    let g = program_of p.table.now in
    elim c.if-is_one_way.branch [
      | then-is_one_way w ↦
          let exists : L.n < g.nodes = omega (arith, nodes_are _ _ p.ready) in
          let few : w.owner-owner.result < 64 = omega (arith, w.owner-owner.ensures, p.few_functions) in
          let it = sym c.is_one_way.ensures ∙ w.if-is_one_way.true in
          rw w.rows-is (gathered_more g _ L.n L.rows L.invariant _ _ w.with.result exists it w.owner-owner.ensures.0 w.target.ensures.0 few w.with.ensures)
      | else-is_one_way w ↦ rw w.rows-is (gathered_pass g _ L.n L.rows L.invariant (sym c.is_one_way.ensures ∙ w.if-is_one_way.false))
    ]

pub returns : goal.returns
returns c =
    let p = c.args.program.now in
    let e : c.loop-n.n ≡ (program_of p.table.now).nodes = omega (arith, nodes_are _ _ p.ready) in
    gathered_all _ _ _ (rw e at c.loop-n.invariant)
