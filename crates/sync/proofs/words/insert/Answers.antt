use native.Mathlib.Omega.{arith}
use Rattle.word.proofs.Words.{member_with}
use Rattle.sync.proofs.words.insert.Goals as goal

pub returns : goal.returns
returns c = member_with c.args.set.now c.args.n c.with.result (omega arith) c.with.ensures
