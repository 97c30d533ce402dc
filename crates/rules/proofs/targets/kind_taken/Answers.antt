use mathlib.Core.Path.{sym, ◌∙◌}
use borrow.Author.Rules.{rules}
use borrow.Author.Tests.{eqb-true, eqb-false}
use Rattle.rules.proofs.Taking.{taken_call, taken_other}
use Rattle.rules.proofs.targets.kind_taken.Goals as goal

pub returns-then-is_call : goal.returns-then-is_call
returns-then-is_call c = (sym (taken_call _ _ _ (eqb-true _ _ (sym c.is_call.ensures ∙ c.if-is_call.true))), search rules)

pub returns-else-is_call : goal.returns-else-is_call
returns-else-is_call c = (sym (taken_other _ _ _ (eqb-false _ _ (sym c.is_call.ensures ∙ c.if-is_call.false))), search rules)
