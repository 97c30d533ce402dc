-- Demand 3: which of two choices beats the other, and the choice returned.
use Rattle.std.specs.Prelude.{ℕ, ◌<◌, ◌≤◌, ◌≡◌, ◌⊎◌, ◌↔◌}
use Rattle.table.specs.Program.{Program}
use Rattle.rules.specs.Choice.{guarded, unguarded, ChoiceFor}
use Rattle.safety.specs.Safety.{Safe}
use Rattle.preference.specs.Preference.{IsSpawn, ComesFirst}

-- Merging a spawn is a verdict of `guarded` or more, leaving it unguarded one of `unguarded` (`Merges`, `LeavesUnguarded`):
-- what follows is said once, of verdicts of k or more. Both choices give spawn n such a verdict, or neither does.
abbrev pub Alike : ℕ → (ℕ → ℕ) → (ℕ → ℕ) → ℕ → Type 0
Alike k c d n = (k ≤ c n) ↔ (k ≤ d n)

-- "the first spawn [..] where just one does so": there c does, and d doesn't
pub record Wins (g : Program) (k : ℕ) (c d : ℕ → ℕ) : Type 0 where
  pub at : ℕ
  pub spawn_is : IsSpawn g at
  pub does : k ≤ c at
  pub doesn't : d at < k
  pub first : (m : ℕ) → IsSpawn g m → ComesFirst g m at → Alike k c d m

-- "If some spawn is merged by just one of them, the one that merges the first such spawn beats the other. If both merge the same spawns,
-- the one that leaves unguarded the first spawn where just one does so beats the other. In no other case does one choice beat another."
abbrev pub Beats : Program → (ℕ → ℕ) → (ℕ → ℕ) → Type 0
Beats g c d = Wins g guarded c d ⊎ (((n : ℕ) → IsSpawn g n → Alike guarded c d n) × Wins g unguarded c d)

-- "it is safe and no safe choice for that table beats it"
pub record Best (g : Program) (c : ℕ → ℕ) : Type 0 where
  pub safe : Safe g c
  pub unbeaten : (d : ℕ → ℕ) → ChoiceFor g d → Safe g d → Beats g d c → ⊥

-- "For every accepted table and every choice for it, that choice is the one returned exactly when it is safe and no safe choice for that
-- table beats it." The one returned is a choice for the table: "there is one for every accepted table".
pub record Returned (g : Program) (returned : ℕ → ℕ) : Type 0 where
  pub choice_for : ChoiceFor g returned
  pub exactly_when : (c : ℕ → ℕ) → ChoiceFor g c → ((n : ℕ) → n < g.nodes → returned n ≡ c n) ↔ Best g c
