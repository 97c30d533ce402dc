use mathlib.Core.Path.{refl}
use native.Mathlib.Omega.{arith}
use Rattle.std.specs.Prelude.{Err}
use Rattle.std.proofs.lemmas.Result.{err_from_is_err_and}
use Rattle.table.proofs.Laws.{answer_accepted}
use Rattle.table.proofs.Ready.{few_functions}
use Rattle.table.proofs.Results.{table_refused, checked_result}
use Rattle.stack_usage.specs.Call.{frames_call, usage_checks, frames_checks, frames_result}
use Rattle.stack_usage.proofs.Calls.{name_refused, usage_refused, once_refused, none_refuses}
use Rattle.stack_usage.proofs.Counting.{said_named, first_odd, none_odd, counts_are}
use Rattle.stack_usage.proofs.counts.judge.Goals as goal

pub returns-in_err-table-clause-answer : goal.returns-in_err-table-clause-answer
unfolding frames_result frames_checks
returns-in_err-table-clause-answer c =
    let a = c.args in
    let e = err_from_is_err_and c.from_residual.result c.from_residual.ensures.1 in
    rw (e.1, e.2) (table_refused _ usage_checks (frames_call a.t.now a.names.now a.report.now) (checked_result a.t.now (Err c.in_err-table.field-0.0) c.in_err-table.ensures))

pub read_names-requires : goal.read_names-requires
read_names-requires c = few_functions _ _ (answer_accepted _ c.in_ok-table.table c.in_ok-table.ensures)

pub returns-in_err-list-clause-answer : goal.returns-in_err-list-clause-answer
returns-in_err-list-clause-answer c =
    let a = c.args in
    let ready = answer_accepted _ c.in_ok-table.table c.in_ok-table.ensures in
    let e = err_from_is_err_and c.from_residual-in_err-list.result c.from_residual-in_err-list.ensures.1 in
    let wrong = c.in_err-list.ensures.refused in
    rw (e.1, e.2, wrong.0) (name_refused (frames_call a.t.now a.names.now a.report.now) ready.accepted_is ready.counts_are.functions_are wrong.1 _ refl)

pub read_report-requires : goal.read_report-requires
read_report-requires c =
    let few = few_functions _ _ (answer_accepted _ c.in_ok-table.table c.in_ok-table.ensures) in
    omega (arith, few, c.in_ok-list.ensures.named.functions_are)

pub returns-in_err-mentions-clause-answer : goal.returns-in_err-mentions-clause-answer
returns-in_err-mentions-clause-answer c =
    let a = c.args in
    let ready = answer_accepted _ c.in_ok-table.table c.in_ok-table.ensures in
    let e = err_from_is_err_and c.from_residual-in_err-mentions.result c.from_residual-in_err-mentions.ensures.1 in
    let named = c.in_ok-list.ensures.named in
    let wrong = c.in_err-mentions.ensures.refused in
    rw (e.1, e.2, wrong.0, wrong.3, named.functions_are)
    (usage_refused (frames_call a.t.now a.names.now a.report.now) ready.accepted_is ready.counts_are.functions_are named.none_wrong refl wrong.2 _ refl)

pub each_once-requires : goal.each_once-requires
each_once-requires c = few_functions _ _ (answer_accepted _ c.in_ok-table.table c.in_ok-table.ensures)

pub returns-in_err-counts-clause-answer : goal.returns-in_err-counts-clause-answer
returns-in_err-counts-clause-answer c =
    let a = c.args in
    let ready = answer_accepted _ c.in_ok-table.table c.in_ok-table.ensures in
    let e = err_from_is_err_and c.from_residual-in_err-counts.result c.from_residual-in_err-counts.ensures.1 in
    let named = c.in_ok-list.ensures.named in
    let read = c.in_ok-mentions.ensures in
    let odd = c.in_err-counts.ensures.refused in
    rw (e.1, e.2, odd.0)
    (once_refused (frames_call a.t.now a.names.now a.report.now) ready.accepted_is ready.counts_are.functions_are named.none_wrong refl read.read refl
    (first_odd a.names.now a.report.now _ _ (said_named a.names.now a.report.now _ named read.said) odd.1) _ refl)

pub returns-clause-answer : goal.returns-clause-answer
returns-clause-answer c =
    let a = c.args in
    let ready = answer_accepted _ c.in_ok-table.table c.in_ok-table.ensures in
    let named = c.in_ok-list.ensures.named in
    let read = c.in_ok-mentions.ensures in
    let said = said_named a.names.now a.report.now _ named read.said in
    none_refuses (frames_call a.t.now a.names.now a.report.now) ready.accepted_is ready.counts_are.functions_are named.none_wrong refl read.read refl
    (none_odd a.names.now a.report.now _ _ said _ c.in_ok-counts.ensures.counts) refl

pub returns-clause-counted : goal.returns-clause-counted
returns-clause-counted c =
    let a = c.args in
    let ready = answer_accepted _ c.in_ok-table.table c.in_ok-table.ensures in
    let many = ready.counts_are.functions_are in
    let counts = c.in_ok-counts.ensures.counts in
    let said = said_named a.names.now a.report.now _ c.in_ok-list.ensures.named c.in_ok-mentions.ensures.said in
    record {
      accepted_is = ready.accepted_is;
      functions_are = many;
      few = few_functions _ _ ready;
      long = counts.0;
      count_is = λ f h. counts_are a.names.now a.report.now _ _ said _ counts f (omega (arith, h, many));
    }
