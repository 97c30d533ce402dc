use Rattle.word.proofs.Bits.{bit_or_lem}
use Rattle.word.proofs.union.Goals as goal

pub returns : goal.returns
returns c = λ j. bit_or_lem c.args.x c.args.y j
