-- The two walks of the search for the best choice. Helps proofs only.
use Rattle.std.specs.Prelude.{◌≡◌, ℕ, suc, ◌-◌, ◌<◌, ◌≤◌, cond, ◌⊎◌, ◌==◌, ◌≢◌, List, replicate}
use Rattle.table.specs.Record.{spawn}
use Rattle.table.specs.Program.{Program}
use Rattle.size.specs.Numbers.{Written}
use Rattle.rules.specs.Choice.{unmerged, guarded, unguarded}
use Rattle.sizes.specs.Call.{choice_of}
use Rattle.sizes.specs.Trials.{known_program, Holds}
use Rattle.sizes.specs.declared.trials.Prepared.{Prepared}
use Rattle.safety.specs.Safety.{Safe}
use Rattle.preference.specs.Preference.{IsSpawn, InOrder}
use Rattle.search.specs.declared.found.Found.{Found}

-- nodes that are no spawns have the verdict 0
abbrev pub OthersZero : Program → (ℕ → ℕ) → Type 0
OthersZero g c = (n : ℕ) → n < g.nodes → (g.sort n ≢ spawn) → c n ≡ 0

-- unmerged everywhere
pub record Unmerged (g : Program) (c : ℕ → ℕ) : Type 0 where
  pub spawns : (n : ℕ) → IsSpawn g n → c n ≡ unmerged
  pub others : OthersZero g c

-- From where a search starts: unmerged everywhere, with zeros for the sizes.
abbrev pub Starts : Program → Found → Type 0
Starts g found = Unmerged g (choice_of found.verdicts) × (found.sizes ≡ replicate 2304 0)

-- the verdict k for the one below it, and every other as it is
abbrev pub raised_to : ℕ → ℕ → ℕ
raised_to k verdict = cond (verdict == k - 1) k verdict

-- the verdicts of all nodes so raised, and the bytes past them as they were
abbrev pub Raised : Program → ℕ → List ℕ → List ℕ → Type 0
Raised g k old new = Written g.nodes (λ n. raised_to k (choice_of old n)) old new

-- A walk that has gone over the first i spawns of the order: each that had one less has verdict k, or no safe choice that does for those
-- before it what the walk did gives it k.
pub record Walked (g : Program) (k i : ℕ) (order from to : ℕ → ℕ) : Type 0 where
  pub safe : Safe g to
  pub moved : (n : ℕ) → n < g.nodes → (to n ≡ from n) ⊎ ((suc (from n) ≡ k) × (to n ≡ k) × ((j : ℕ) × (j < i) × (order j ≡ n)))
  pub blocked : (j : ℕ) → j < i → suc (from (order j)) ≡ k → to (order j) < k → (d : ℕ → ℕ) → Safe g d → ((n : ℕ) → n < g.nodes → from n ≤ d n) → ((l : ℕ) → l < j → k ≤ to (order l) → k ≤ d (order l)) → k ≤ d (order j) → ⊥

-- what the first walk comes to
pub record Merged (g : Program) (count : ℕ) (order to : ℕ → ℕ) : Type 0 where
  pub start : ℕ → ℕ
  pub unmerged_is : Unmerged g start
  pub walked : Walked g guarded count order start to

-- What the search comes to: two walks over the spawns in order lead to the choice found, and its sizes are in the numbers.
pub record Searched (p : Prepared) (found : Found) : Type 0 where
  pub count : ℕ
  pub order : ℕ → ℕ
  pub in_order : InOrder (known_program p.known) count order
  pub middle : ℕ → ℕ
  pub merged : Merged (known_program p.known) count order middle
  pub walked : Walked (known_program p.known) unguarded count order middle (choice_of found.verdicts)
  pub holds : Holds p (choice_of found.verdicts) found.sizes
