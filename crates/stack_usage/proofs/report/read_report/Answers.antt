use mathlib.Core.Path.{refl}
use native.Mathlib.Omega.{arith}
use Rattle.std.proofs.lemmas.List.{get_or-replicate}
use Rattle.stack_usage.proofs.Reading.{report_start, report_stops, report_more, report_end, report_said}
use Rattle.stack_usage.proofs.report.read_report.Goals as goal

pub loop-cut-init : goal.loop-cut-init
loop-cut-init c = (refl, omega arith, report_start _ _ _ (λ f h. get_or-replicate 64 f _ _ (omega (arith, h, c.requires))))

pub returns-in_default-usage_of-clause-refused : goal.returns-in_default-usage_of-clause-refused
returns-in_default-usage_of-clause-refused c =
    (refl, c.loop-cut.line, report_stops c.loop-cut.invariant.2 c.in-Some.cut c.in-Some.ensures c.in_default-usage_of.ensures, refl)

pub loop-cut-preserved : goal.loop-cut-preserved
loop-cut-preserved c =
    let before = c.loop-cut.invariant in
    (c.note.array_long, omega (arith, before.1, c.in-Some.ensures.4), report_more before.2 c.in-Some.cut c.in-Some.ensures c.in-Some-usage_of.ensures c.note.ensures)

pub returns-clause-said : goal.returns-clause-said
returns-clause-said c = report_said c.loop-cut.invariant.2 c.in_default.ensures

pub returns-clause-read : goal.returns-clause-read
returns-clause-read c = report_end c.loop-cut.invariant.2 c.in_default.ensures
