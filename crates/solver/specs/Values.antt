-- The values of all entries, as the code's four arrays have them, and what is promised of them.
use Rattle.std.specs.Prelude.{ℕ, ◌-◌, cond, List, length, map, ltb}
use Rattle.size.specs.Size.{value_of}
use Rattle.size.specs.Numbers.{at}
use Rattle.solver.specs.System.{Solves}
use Rattle.solver.specs.Words.{item_form}
use Rattle.solver.specs.declared.solution.Solution.{Solution}

pub record Values : Type 0 where
  pub sizes : List ℕ
  pub after : List ℕ
  pub before : List ℕ
  pub through : List ℕ

-- The value of entry x is read from one of the four arrays:
abbrev pub picked : ℕ → ℕ → ℕ → ℕ → ℕ → ℕ
picked x a b c d = cond (ltb x 2304) a (cond (ltb x 2816) b (cond (ltb x 3328) c d))

unfoldable pub value_at : Values → ℕ → ℕ
value_at v x = picked x (at v.sizes x) (at v.after (x - 2304)) (at v.before (x - 2816)) (at v.through (x - 3328))

-- a solution's
abbrev pub values_of : Solution → Values
values_of s = record { sizes = map value_of s.sizes; after = map value_of s.after; before = map value_of s.before; through = map value_of s.through }

abbrev pub number_at : Solution → ℕ → ℕ
number_at s = value_at (values_of s)

-- The first of some numbers, and zeros.
unfoldable pub starts_from : ℕ → List ℕ → ℕ → ℕ
starts_from taken numbers x = cond (ltb x taken) (at numbers x) 0

-- What going round the rules comes to: the least values that meet them all.
abbrev pub Settles : List ℕ → (ℕ → ℕ) → Solution → Type 0
Settles rules from found = Solves (item_form rules (length rules) from) (number_at found)
