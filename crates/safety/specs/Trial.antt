-- What a trial tells the search for the best choice.
use Rattle.std.specs.Prelude.{ℕ, ◌≡◌, Bool, true, false, List}
use Rattle.rules.specs.Choice.{AtMost}
use Rattle.sizes.specs.Trials.{known_program, Holds}
use Rattle.sizes.specs.declared.trials.Prepared.{Prepared}
use Rattle.safety.specs.Safety.{Safe}

-- The choice tried is safe, and its sizes stand in the numbers; or no choice at or above it is safe, and the numbers are as they were.
pub data Tried (p : Prepared) (choice : ℕ → ℕ) (old new : List ℕ) : Bool → Type 0 where
  adopted : {r : Bool} → r ≡ true → Safe (known_program p.known) choice → Holds p choice new → Tried p choice old new r
  rejected : {r : Bool} → r ≡ false → ((d : ℕ → ℕ) → AtMost (known_program p.known) choice d → Safe (known_program p.known) d → ⊥) → new ≡ old → Tried p choice old new r
