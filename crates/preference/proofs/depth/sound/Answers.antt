use native.Mathlib.Omega.{arith}
use Rattle.table.proofs.Laws.{well_formed}
use Rattle.table.proofs.Ready.{functions_are}
use Rattle.preference.proofs.Levels.{levels_done, sounding_first, sounding_next}
use Rattle.preference.proofs.depth.sound.Goals as goal

pub loop-deeper-init : goal.loop-deeper-init
loop-deeper-init c =
    let p = c.args.program.now in
    sounding_first _ _ (well_formed _ p.ready.accepted_is) (λ f h. c.start-depth.ensures f (omega (arith, functions_are _ _ p.ready)))

pub loop-deeper-preserved : goal.loop-deeper-preserved
loop-deeper-preserved c = sounding_next _ _ _ _ (well_formed _ c.args.program.now.ready.accepted_is) c.loop-deeper.invariant c.in-Some.ensures

pub returns : goal.returns
returns c = levels_done _ _ _ c.loop-deeper.invariant.levels_are (well_formed _ c.args.program.now.ready.accepted_is) c.in_default.ensures
