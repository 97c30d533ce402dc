use Prim.Native.Nat.{◌<◌}
use mathlib.Core.Path.{◌≡◌, sym, ◌∙◌}
use native.Mathlib.Omega.{arith}
use lib.ListN.{length-set}
use Rattle.table.specs.Program.{program_of}
use Rattle.table.proofs.Laws.{well_formed}
use Rattle.table.proofs.Ready.{functions_are, nodes_are}
use Rattle.preference.proofs.Levels.{deepened_pass, deepened_more, deepened_all}
use Rattle.preference.proofs.depth.deepen.Goals as goal
use Rattle.preference.proofs.depth.deepen.Goals.{then-leads_down, else-leads_down}

pub loop-n-preserved : goal.loop-n-preserved
loop-n-preserved c =
    let L = c.loop-n in
    let p = c.args.program.now in
    let g = program_of p.table.now in
    let formed = well_formed p.table.now p.ready.accepted_is in
    let exists : L.n < g.nodes = omega (arith, nodes_are _ _ p.ready) in
    elim c.if-leads_down.branch [
      | then-leads_down w ↦ rw (w.depth-is, w.grew-is, w.target.ensures.0) (record { passed = deepened_more g c.args.level L.n _ c.requires.levels formed exists L.depth L.grew L.invariant.passed (omega (arith, functions_are _ _ p.ready, p.few_functions)) (sym c.leads_down.ensures ∙ w.if-leads_down.true); long = length-set L.depth _ _ ∙ L.invariant.long })
      | else-leads_down w ↦ rw (w.depth-is, w.grew-is) (record { passed = deepened_pass g c.args.level L.n _ c.requires.levels formed exists L.depth L.grew L.invariant.passed (sym c.leads_down.ensures ∙ w.if-leads_down.false); long = L.invariant.long })
    ]

pub returns : goal.returns
returns c =
    let p = c.args.program.now in
    let e : c.loop-n.n ≡ (program_of p.table.now).nodes = omega (arith, nodes_are _ _ p.ready) in
    deepened_all _ _ _ (well_formed p.table.now p.ready.accepted_is) _ _ _ (rw e at c.loop-n.invariant.passed) c.then_some.ensures
