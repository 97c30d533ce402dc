use mathlib.Core.Path.{ap}
use Rattle.std.proofs.lemmas.List.{get_or-replicate}
use Rattle.solver.specs.Rounds.{never, cause_of}
use Rattle.solver.proofs.causes.Causes.none.Goals as goal

pub returns : goal.returns
returns c = λ x h. ap cause_of (get_or-replicate 3840 x never never h)
