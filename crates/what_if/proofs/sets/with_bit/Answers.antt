use native.Mathlib.Omega.{arith}
use Rattle.word.proofs.Bits.{bit_set}
use Rattle.what_if.proofs.sets.with_bit.Goals as goal

pub returns : goal.returns
returns c = bit_set 16 c.args.bits c.args.i (omega arith)
