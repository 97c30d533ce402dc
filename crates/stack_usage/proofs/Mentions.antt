-- What one more line makes of what the lines before it say of a function.
use Prim.Native.Nat.{ℕ, ◌+◌}
use mathlib.Core.Path.{◌≡◌, refl}
use mathlib.Core.Bool.{true, false}
use mathlib.Core.List.{List}
use native.Mathlib.Omega.{arith}
use borrow.Author.Tests.{ne_eqb}
use Rattle.table.specs.Below.{count}
use Rattle.table.proofs.Below.{count_none, count_more, earliest_some}
use Rattle.usage_line.specs.Lines.{lines, line}
use Rattle.usage_line.specs.Line.{count_in}
use Rattle.stack_usage.specs.Call.{about, not_once, counted}
use Rattle.stack_usage.specs.declared.mention.Mention.{Mention}
use Rattle.stack_usage.specs.declared.mention.Mention.TheVariants.{Never, Once, More}
use Rattle.stack_usage.specs.Mention.{more, Says}
use Rattle.table.proofs.Below.{earliest_stays, uncounted}

module _ (names report : List ℕ) (f : ℕ) where
  pub says_none : Says names report f 0 Never
  says_none = count_none (about names report f)

  -- a line that is about another
  pub says_same : (j : ℕ) (m : Mention) → about names report f j ≡ false → Says names report f j m → Says names report f (j + 1) m
  says_same j Never e s = omega (arith, s, rw e at (count_more (about names report f) j))
  says_same j (Once c) e s = (omega (arith, s.0, rw e at (count_more (about names report f) j)), s.1, earliest_stays (about names report f) j s.2, s.3)
  says_same j More e s = omega (arith, s, rw e at (count_more (about names report f) j))

  -- a line about it
  pub says_more : (j c : ℕ) (m : Mention) → about names report f j ≡ true → c ≡ count_in (line report j) → Says names report f j m → Says names report f (j + 1) (more m c)
  says_more j c Never e is s =
      (omega (arith, s, rw e at (count_more (about names report f) j)), j, earliest_some (about names report f) (j + 1) j (omega arith) (uncounted (about names report f) j s) e, is)
  says_more j c (Once b) e is s = omega (arith, s.0, rw e at (count_more (about names report f) j))
  says_more j c More e is s = omega (arith, s, rw e at (count_more (about names report f) j))

  -- what all lines say
  pub once_counted : (c : ℕ) → Says names report f (lines report) (Once c) → (not_once names report f ≡ false) × (c ≡ counted names report f)
  unfolding not_once counted
  once_counted c s = (rw s.0 refl, rw s.2 s.3)

  pub never_once : Says names report f (lines report) Never → not_once names report f ≡ true
  unfolding not_once
  never_once s = rw s refl

  pub more_once : Says names report f (lines report) More → not_once names report f ≡ true
  unfolding not_once
  more_once s = rw (ne_eqb (count (about names report f) (lines report)) 1 (λ q. omega (arith, q, s))) refl
