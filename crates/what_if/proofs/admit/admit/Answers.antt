use Rattle.std.proofs.lemmas.Result.{err_from_is_err_and}
use Rattle.table.proofs.Results.{table_refused}
use Rattle.what_if.specs.Call.{list_call, what_if_checks, what_if_result}
use Rattle.what_if.proofs.admit.admit.Goals as goal

pub returns-in_err-known-clause-answer : goal.returns-in_err-known-clause-answer
unfolding what_if_result what_if_checks
returns-in_err-known-clause-answer c =
    let a = c.args in
    let e = err_from_is_err_and c.from_residual.result c.from_residual.ensures.1 in
    rw (e.1, e.2) (table_refused _ _ (list_call a.t.now a.number a.choices.now a.buffer) c.in_err-known.ensures.answer)
