-- The conditions as the code tests them. Helps proofs only.
use Rattle.std.specs.Prelude.{ℕ, ◌+◌, ◌*◌, ◌<◌, ◌≡◌, Bool, true}
use Rattle.table.specs.Record.{spawn}
use Rattle.table.specs.Program.{Program}
use Rattle.size.specs.Size.{unbounded}

-- Post of the target of every spawn below n is 0
pub record PostsBelow (g : Program) (sizes : ℕ → ℕ) (n : ℕ) : Type 0 where
  pub zero_below : (m : ℕ) → m < n → g.sort m ≡ spawn → sizes (4 * g.target m + 1) ≡ 0

-- no edge has unbounded sums on both sides
pub record EdgesBounded (g : Program) (after before : ℕ → ℕ) : Type 0 where
  pub not_both : (p n : ℕ) → g.edge p n ≡ true → after p ≡ unbounded → before n ≡ unbounded → ⊥

-- a test says whether something holds
pub record Tells (r : Bool) (P : Type 0) : Type 0 where
  pub yes_if : r ≡ true → P
  pub only_if : P → r ≡ true
