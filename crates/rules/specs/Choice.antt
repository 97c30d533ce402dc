-- Document 01, "Sizes and their rules" and "Preference and the best choice": choices. (Document 01's word; a choice is a map of verdicts.)
use Rattle.std.specs.Prelude.{ℕ, ◌<◌, ◌≤◌, ◌≡◌}
use Rattle.table.specs.Record.{spawn}
use Rattle.table.specs.Program.{Program}

-- "else 1 unmerged, 2 merged guarded, 3 merged unguarded"
abbrev pub unmerged : ℕ
unmerged = 1

abbrev pub guarded : ℕ
guarded = 2

abbrev pub unguarded : ℕ
unguarded = 3

-- "A choice gives one byte for each node: 0 if it is no spawn; else 1 unmerged, 2 merged guarded, 3 merged unguarded."
pub record ChoiceFor (g : Program) (choice : ℕ → ℕ) : Type 0 where
  pub others : (n : ℕ) → n < g.nodes → (g.sort n ≡ spawn → ⊥) → choice n ≡ 0
  pub spawns : (n : ℕ) → n < g.nodes → g.sort n ≡ spawn → (unmerged ≤ choice n) × (choice n ≤ unguarded)

-- "A choice merges a spawn whose byte is 2 or 3, and leaves it unguarded if the byte is 3."
abbrev pub Merges : (ℕ → ℕ) → ℕ → Type 0
Merges choice n = guarded ≤ choice n

abbrev pub LeavesUnguarded : (ℕ → ℕ) → ℕ → Type 0
LeavesUnguarded choice n = unguarded ≤ choice n

-- One choice is at or below another, node by node: it gives no spawn a larger verdict.
abbrev pub AtMost : Program → (ℕ → ℕ) → (ℕ → ℕ) → Type 0
AtMost g c d = (n : ℕ) → n < g.nodes → c n ≤ d n
