-- Document 01, "Preference and the best choice": the depth of a function.
use Rattle.std.specs.Prelude.{ℕ, zero, suc, ◌<◌, ◌≤◌, ◌≡◌, true, ◌⊎◌}
use Rattle.table.specs.Record.{has_target}
use Rattle.table.specs.Program.{Program}

-- "calls and spawns from an entry to it": k of them lead from an entry to f. One in any node of a function counts.
abbrev pub Away : Program → ℕ → ℕ → Type 0
Away g f zero = g.entry f ≡ true
Away g f (suc k) = (n : ℕ) × (n < g.nodes) × (has_target (g.sort n) ≡ true) × (g.target n ≡ f) × Away g (g.owner n) k

-- "the fewest calls and spawns from an entry to it"
pub record Fewest (g : Program) (f d : ℕ) : Type 0 where
  pub reached : Away g f d
  pub fewest : (k : ℕ) → Away g f k → d ≤ k

-- "A function's depth is the fewest calls and spawns from an entry to it; entries have 0, and so has one that no entry reaches."
abbrev pub DepthOf : Program → ℕ → ℕ → Type 0
DepthOf g f d = Fewest g f d ⊎ ((d ≡ 0) × ((k : ℕ) → Away g f k → ⊥))

-- the depth of every function
pub record DepthsOf (g : Program) (depth : ℕ → ℕ) : Type 0 where
  pub depth_of : (f : ℕ) → f < g.functions → DepthOf g f (depth f)
