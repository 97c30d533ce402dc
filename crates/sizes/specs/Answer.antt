-- What finding sizes gives.
use Rattle.std.specs.Prelude.{ℕ, ◌<◌, Bool}
use Rattle.table.specs.Program.{Program}
use Rattle.rules.specs.Rules.{Least}
use Rattle.rules.specs.Sums.{LargestAfter, LargestBefore}

-- The least table that meets the rules, and the largest sums along open paths.
pub record SizesOf (g : Program) (set : ℕ → Bool) (choice sizes after before : ℕ → ℕ) : Type 0 where
  pub least : Least g set choice sizes
  pub after_is : (n : ℕ) → n < g.nodes → LargestAfter g set sizes n (after n)
  pub before_is : (n : ℕ) → n < g.nodes → LargestBefore g set sizes n (before n)
