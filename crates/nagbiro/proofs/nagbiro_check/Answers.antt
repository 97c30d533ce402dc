use Rattle.nagbiro.proofs.Telling.{counted}
use Rattle.nagbiro.proofs.nagbiro_check.Goals as goal

pub returns-in-Ok-clause-counts : goal.returns-in-Ok-clause-counts
returns-in-Ok-clause-counts c = counted _ _ c.in-Ok.ensures
