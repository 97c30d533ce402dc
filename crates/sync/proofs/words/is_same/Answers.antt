use Prim.Native.Nat.{ℕ}
use mathlib.Core.Path.{sym, ap, ◌∙◌}
use mathlib.Core.List.{List}
use mathlib.Core.Logic.{⊎_elim}
use borrow.Author.Rules.{rules}
use Rattle.std.specs.Cmp.Lexicographic.{same_text, other_text}
use Rattle.table.proofs.Booleans.{either_way}
use Rattle.sync.specs.Words.{member}
use Rattle.sync.proofs.Members.{words_same}
use Rattle.sync.proofs.words.is_same.Goals as goal

pub returns-clause-same : goal.returns-clause-same
returns-clause-same c = (
  λ h n. ap (λ (w : List ℕ). member w n) (same_text c.args.x c.args.y (sym h ∙ c.eq.ensures)),
  λ same. ⊎_elim (λ t. t) (λ f. absurd (other_text c.args.x c.args.y (sym f ∙ c.eq.ensures) (words_same _ _ (search rules) (search rules) same))) (either_way c.eq.result),
)
