-- Systems of rules. Each rule says that one entry is at least a base and other entries, added up; entries and rules may be anything.
use Rattle.std.specs.Prelude.{ℕ, ◌+◌, ◌≤◌, ◌≡◌, List, [], ◌∷◌}
use Rattle.size.specs.Size.{cap}

-- What a rule says: its head is at least its base and the entries of its body, added up.
pub record Form (E : Type 0) : Type 0 where
  pub head : E
  pub base : ℕ
  pub body : List E

abbrev pub sum_of : {E : Type 0} → (E → ℕ) → List E → ℕ
sum_of v [] = 0
sum_of v (x ∷ l) = v x + sum_of v l

-- what a rule gives from the entries' present values
abbrev pub gives : {E : Type 0} → (E → ℕ) → Form E → ℕ
gives v f = cap (f.base + sum_of v f.body)

-- what the rules derive: 0, and what a rule gives from derived values, or less
pub data Derives {E R : Type 0} (form : R → Form E) : E → ℕ → Type 0 where
  none : {x : E} → Derives form x 0
  rule : {x : E} {t : ℕ} (r : R) (v : E → ℕ) → x ≡ (form r).head → ((y : E) → Derives form y (v y)) → t ≤ gives v (form r) → Derives form x t

-- Values that are derived, and from which no rule raises anything: the least that meet the rules.
pub record Solves {E R : Type 0} (form : R → Form E) (v : E → ℕ) : Type 0 where
  pub derived : (x : E) → Derives form x (v x)
  pub closed : (r : R) → gives v (form r) ≤ v (form r).head
