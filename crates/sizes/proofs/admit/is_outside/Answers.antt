use Rattle.std.proofs.Common.{refl}
use Rattle.sizes.specs.Call.{outside}
use Rattle.sizes.proofs.admit.is_outside.Goals as goal

pub returns : goal.returns
unfolding outside
returns c = rw c.is_spawn-spawn.ensures refl
