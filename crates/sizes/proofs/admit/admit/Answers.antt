use Rattle.std.proofs.lemmas.Result.{err_from_is_err_and}
use Rattle.sizes.specs.Call.{call, call_checks, call_result}
use Rattle.table.proofs.Results.{table_refused}
use Rattle.sizes.proofs.admit.admit.Goals as goal

pub returns-in_err-known-clause-answer : goal.returns-in_err-known-clause-answer
unfolding call_result call_checks
returns-in_err-known-clause-answer c =
    let e = err_from_is_err_and c.from_residual.result c.from_residual.ensures.1 in
    rw (e.1, e.2) (table_refused _ _ (call c.args.t.now c.args.choice.now c.args.buffer) c.in_err-known.ensures.answer)
