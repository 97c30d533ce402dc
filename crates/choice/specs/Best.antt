-- What the search gives, in the words of the promise. Helps proofs only.
use Rattle.std.specs.Prelude.{ℕ}
use Rattle.table.specs.Program.{Program}
use Rattle.size.specs.Numbers.{at}
use Rattle.rules.specs.Rules.{LeastSizes, entries}
use Rattle.std.specs.Prelude.{◌<◌, ◌≡◌}
use Rattle.sizes.specs.Call.{choice_of}
use Rattle.search.specs.declared.found.Found.{Found}
use Rattle.choice.specs.Beats.{Returned}

-- the choice found is the one to return, and its sizes come with it
pub record BestOf (g : Program) (found : Found) : Type 0 where
  pub returned : Returned g (choice_of found.verdicts)
  pub sizes : ℕ → ℕ
  pub least : LeastSizes g (choice_of found.verdicts) sizes
  pub sizes_are : (x : ℕ) → x < entries g → at found.sizes x ≡ sizes x
