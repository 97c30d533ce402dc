use native.Mathlib.Omega.{arith}
use Rattle.word.proofs.Bits.{bit_set}
use Rattle.word.proofs.with.Goals as goal

pub returns : goal.returns
returns c = bit_set 64 c.args.x c.args.k (omega arith)
