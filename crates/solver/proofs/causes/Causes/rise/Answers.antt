use mathlib.Core.Path.{refl}
use native.Mathlib.Omega.{arith}
use Rattle.solver.specs.Causes.{rises}
use Rattle.solver.specs.Rounds.{never, cause_of}
use Rattle.solver.proofs.Rises.{put_set}
use Rattle.solver.proofs.causes.Causes.rise.Goals as goal

pub returns-clause-risen : goal.returns-clause-risen
returns-clause-risen c = rises c.later-cause.result c.later-cause.ensures (put_set cause_of never c.args.self.now.rises c.args.x _ (omega arith)) refl
