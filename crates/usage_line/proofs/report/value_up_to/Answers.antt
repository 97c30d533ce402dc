use Rattle.std.proofs.Common.{◌+◌, ◌*◌, min, ap, ◌∙◌}
use Rattle.usage_line.proofs.Counts.{digit_low, value_more}
use Rattle.usage_line.proofs.report.value_up_to.Goals as goal

pub overflow_sub-digit : goal.overflow_sub-digit
overflow_sub-digit c = digit_low c.args.digits.now c.requires _ c.loop-digit-test.true

pub loop-digit-preserved : goal.loop-digit-preserved
loop-digit-preserved c =
    c.min-value.ensures
    ∙ ap (λ d. min (c.loop-digit.value * 10 + d) 65536) c.from.ensures
    ∙ value_more c.args.digits.now c.requires _ c.loop-digit-test.true _ c.loop-digit.invariant
