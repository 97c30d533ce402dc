use Rattle.std.proofs.lemmas.Bool.{and_left, and_right, and_from, le-leb, lt-leb}
use Rattle.usage_line.specs.Line.{is_usage}
use Rattle.usage_line.proofs.Forms.{form_from_some, form_from_none}
use Rattle.usage_line.proofs.report.usage.Goals as goal

pub returns-then-is_empty : goal.returns-then-is_empty
unfolding is_usage
returns-then-is_empty c = and_left _ _ (form_from_none c.args.line.now _ c.name_found-name.ensures cc)

pub count_found-requires : goal.count_found-requires
count_found-requires c = form_from_some c.args.line.now _ c.name_found-name.ensures cc

pub returns-in_err-count : goal.returns-in_err-count
unfolding is_usage
returns-in_err-count c = rw c.from_residual.ensures (and_right _ _ (lt-leb _ 65535 c.in_err-count.ensures))

pub returns : goal.returns
unfolding is_usage
returns c = (and_from _ _ (form_from_some c.args.line.now _ c.name_found-name.ensures cc) (le-leb _ 65535 c.in_ok-count.ensures.0), c.name_found-name.ensures, c.in_ok-count.ensures.1)
