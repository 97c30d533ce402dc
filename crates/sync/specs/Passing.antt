-- For the contracts of a pass. Helps proofs only: no public promise rests on it.
use Rattle.std.specs.Prelude.{ℕ, ◌<◌, ◌≡◌, true, List, ◌⊎◌, ◌↔◌}
use Rattle.table.specs.Program.{Program}
use Rattle.sync.specs.declared.pass.Pass.{Pass}
use Rattle.sync.specs.Pass.{Through, Look, Looks}
use Rattle.sync.specs.Words.{member}

-- a look at f, and what it has reached past the set as it stood
pub record LookedAt (g : Program) (f : ℕ) (before after : Pass) : Type 0 where
  pub look : Look g f (member before.set) (member after.set)
  pub reach : (n : ℕ) → (member after.reached n ≡ true) ↔ ((member before.reached n ≡ true) ⊎ Through g (member before.set) (g.first f) n)

-- Looks at the first k functions of an order: what they have reached, a path past the set from which the pass started leads to, and what a path past the
-- set as it is now leads to, they have reached.
pub record PassedBy (g : Program) (order : ℕ → ℕ) (from : List ℕ) (k : ℕ) (p : Pass) : Type 0 where
  pub looks : Looks g order (member from) k (member p.set)
  pub sound : (n : ℕ) → member p.reached n ≡ true → (i : ℕ) × (i < k) × Through g (member from) (g.first (order i)) n
  pub complete : (i n : ℕ) → i < k → Through g (member p.set) (g.first (order i)) n → member p.reached n ≡ true
