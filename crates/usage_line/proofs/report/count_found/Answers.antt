use Rattle.std.proofs.Common.{ℕ, ◌+◌, ◌-◌, ◌≤◌, length, min, slice_range, ap, ◌∙◌, arith, rules}
use Rattle.usage_line.specs.Bytes.{is_count, value}
use Rattle.usage_line.specs.Line.{count_in}
use Rattle.usage_line.proofs.Forms.{room, formed}
use Rattle.usage_line.proofs.Counts.{count_by}
use Rattle.usage_line.proofs.report.count_found.Goals as goal

pub overflow_sub-end : goal.overflow_sub-end
overflow_sub-end c = omega (arith, room c.args.line.now c.requires)

pub slice_bounds-value_up_to-count : goal.slice_bounds-value_up_to-count
slice_bounds-value_up_to-count c = omega (arith, room c.args.line.now c.requires, c.first_tab-start.ensures.is)

pub slice_bounds-value_up_to-start : goal.slice_bounds-value_up_to-start
slice_bounds-value_up_to-start c = let r = room c.args.line.now c.requires in let s : c.first_tab-start.result + 1 ≤ length c.args.line.now - 7 = omega (arith, r, c.first_tab-start.ensures.is) in search rules

pub value_up_to-requires : goal.value_up_to-requires
value_up_to-requires c = ap (λ (e : ℕ). is_count (slice_range c.args.line.now (e + 1) (length c.args.line.now - 7))) c.first_tab-start.ensures.is ∙ (formed c.args.line.now c.requires).count

pub returns : goal.returns
unfolding count_in
returns c =
    let value_is = c.value_up_to.ensures ∙ ap (λ (e : ℕ). min (value (slice_range c.args.line.now (e + 1) (length c.args.line.now - 7))) 65536) c.first_tab-start.ensures.is in
    rw c.ok.ensures.value (count_by _ _ value_is _ c.try_from.ensures)
