-- Document 01, "Synchronising nodes": paths, and the nodes on them.
use Rattle.std.specs.Prelude.{ℕ, ◌≡◌, Bool, true, false, ◌⊎◌}
use Rattle.table.specs.Program.{Program}

-- "Paths run along edges inside one function; a single node is a path, and a path may pass a node more than once."
-- A path from a to n. That it stays inside one function is a law: an edge joins two nodes of one function (`path_owner`).
pub data Path (g : Program) : ℕ → ℕ → Type 0 where
  stop : {n : ℕ} → Path g n n
  step : {a p n : ℕ} → Path g a p → g.edge p n ≡ true → Path g a n

-- y is a node of the path
abbrev pub On : {g : Program} {a n : ℕ} → ℕ → Path g a n → Type 0
On y (stop {n}) = y ≡ n
On y (step {n = n} p e) = On y p ⊎ (y ≡ n)

-- the path holds a member of the set
abbrev pub Holds : {g : Program} {a n : ℕ} → (ℕ → Bool) → Path g a n → Type 0
Holds set p = (y : ℕ) × On y p × (set y ≡ true)

-- no node after the first is a member of the set
abbrev pub Clear : {g : Program} {a n : ℕ} → (ℕ → Bool) → Path g a n → Type 0
Clear set stop = Unit {0}
Clear set (step {n = n} p e) = Clear set p × (set n ≡ false)

-- "A path is open if no node strictly between its two ends is synchronising." (Document 01's word; the source says unsynchronised path.)
-- Strictly between the ends of a path with a last step stand the nodes before that step but the first.
abbrev pub Open : {g : Program} {a n : ℕ} → (ℕ → Bool) → Path g a n → Type 0
Open set stop = Unit {0}
Open set (step p e) = Clear set p
