use mathlib.Core.Path.{ap}
use native.Mathlib.Omega.{arith}
use Rattle.size.specs.Size.{value_of}
use Rattle.size.proofs.Values.{value_size}
use Rattle.rules.proofs.sums.frame_size.Goals as goal

pub returns : goal.returns
returns c = omega (arith, ap value_of c.from_number.ensures, value_size c.frame.result, c.frame.ensures.0, c.frame.ensures.1)
