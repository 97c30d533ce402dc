use mathlib.Core.Path.{sym, ap}
use Prim.Native.Nat.{ℕ, ◌/◌, ◌^◌}
use native.Mathlib.Omega.{arith}
use lib.Dec.{eqb}
use lib.Bits.{and_mask}
use Rattle.word.specs.Bit.{bit}
use Rattle.word.proofs.Bits.{bit_past}
use Rattle.word.proofs.has.Goals as goal

pub returns-then-k-ge64 : goal.returns-then-k-ge64
returns-then-k-ge64 c = sym (bit_past c.args.x c.args.k (omega arith) (omega arith))

pub returns : goal.returns
unfolding bit
returns c = ap (λ (n : ℕ). eqb n 1) (and_mask (c.args.x / 2 ^ c.args.k) 1)
