use native.Mathlib.Omega.{arith}
use borrow.Author.Tests.{eqb-true, eq-eqb}
use Rattle.word.proofs.Bits.{within_all, within_each}
use Rattle.word.proofs.is_within.Goals as goal

pub returns : goal.returns
returns c = (λ h. within_each c.args.x c.args.y (eqb-true _ _ h), λ h. eq-eqb _ _ (within_all c.args.x c.args.y (omega arith) h))
