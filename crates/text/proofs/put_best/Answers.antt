use Rattle.std.proofs.Common.{arith}
use Rattle.text.proofs.Whole.{none_refused, listed}
use Rattle.text.proofs.put_best.Goals as goal

pub returns-in_err-best-clause-err : goal.returns-in_err-best-clause-err
returns-in_err-best-clause-err c =
    let e = c.in_err-best in
    absurd (none_refused c.in_ok-program.program _ _ _ _ e.field-0.0 (omega arith) (omega arith) e.ensures.answer e.ensures.leaves)

pub returns-clause-ok : goal.returns-clause-ok
returns-clause-ok c = listed _ _ _ _ _ c.in_ok-best.ensures.leaves c.in_ok-program.ensures.of_table c.requires.short c.push_listing.ensures
