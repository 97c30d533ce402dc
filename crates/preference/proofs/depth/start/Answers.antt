use Rattle.preference.proofs.Levels.{started_none}
use Rattle.preference.proofs.depth.start.Goals as goal

pub loop-f-init : goal.loop-f-init
loop-f-init c = started_none _
