use native.Mathlib.Omega.{arith}
use Rattle.word.proofs.Bits.{bit_past, bit_below, none_from, first_is, none_before}
use Rattle.word.proofs.first_from.Goals as goal

pub returns-then-k-ge64 : goal.returns-then-k-ge64
returns-then-k-ge64 c = λ j h. bit_past c.args.x j (omega arith) (omega arith)

pub returns-then-rest-eq0 : goal.returns-then-rest-eq0
returns-then-rest-eq0 c = none_from c.args.x c.args.k (omega arith)

pub returns : goal.returns
returns c =
    let is = first_is c.args.x c.args.k (omega arith) (omega arith) in
    record { starts = omega arith; low = bit_below c.args.x _ (omega arith) is; is_in = is; first = none_before c.args.x c.args.k (omega arith) (omega arith) }
