use Rattle.std.proofs.lemmas.Result.{err_from_is_err_and}
use Rattle.table.proofs.Results.{table_refused}
use Rattle.choice.specs.Call.{best_call, best_checks, best_result}
use Rattle.choice.proofs.admit.admit.Goals as goal

pub returns-in_err-known-clause-answer : goal.returns-in_err-known-clause-answer
unfolding best_result best_checks
returns-in_err-known-clause-answer c =
    let e = err_from_is_err_and c.from_residual.result c.from_residual.ensures.1 in
    rw (e.1, e.2) (table_refused _ _ (best_call c.args.t.now c.args.verdicts c.args.buffer) c.in_err-known.ensures.answer)
