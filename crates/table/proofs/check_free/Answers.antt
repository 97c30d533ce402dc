use Rattle.table.proofs.Told.{none_yet, passed, stopped, all_passed, broken_stops}
use Rattle.table.proofs.check_free.Goals as goal

pub returns-then-t-ne0 : goal.returns-then-t-ne0
returns-then-t-ne0 c = broken_stops _ c.if-t-ne0.true

pub loop-cause-init : goal.loop-cause-init
loop-cause-init c = none_yet _

pub returns-in-Some : goal.returns-in-Some
returns-in-Some c = stopped _ _ _ _ c.loop-cause.invariant c.loop-cause-test.true _ c.in-Some.ensures

pub loop-cause-preserved : goal.loop-cause-preserved
loop-cause-preserved c = passed _ _ _ _ c.loop-cause.invariant c.loop-cause-test.true c.in_default.ensures

pub returns : goal.returns
returns c = all_passed c.loop-cause.invariant c.loop-cause-test.false c.tally-of.ensures
