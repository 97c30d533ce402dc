use Rattle.std.proofs.Common.{◌∙◌, sym, arith}
use Rattle.std.proofs.lemmas.Bool.{and_left, and_right}
use Rattle.usage_line.proofs.Parts.{no_count}
use Rattle.usage_line.proofs.name.has_count.Goals as goal
use Rattle.usage_line.proofs.name.has_count.Goals.{then-end-line, else-end-line}

pub returns-else-is_qualified : goal.returns-else-is_qualified
returns-else-is_qualified c =
    elim c.if-end-line.branch [
      | then-end-line w ↦ c.if-is_qualified.false ∙ sym (and_right _ _ (sym w.is_qualified.ensures ∙ sym w.value-is ∙ c.if-is_qualified.false))
      | else-end-line w ↦ c.if-is_qualified.false ∙ sym (and_left _ _ (no_count c.args.line.now (omega (arith, w.if-end-line.false, c.requires.is))))
    ]
