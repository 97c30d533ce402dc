-- What is counted for the functions of a table. Helps proofs only.
use Rattle.std.specs.Prelude.{ℕ, ◌<◌, ◌≤◌, ◌≡◌, ◌≢◌, List, length, get_or}
use Rattle.table.specs.Record.{functions}
use Rattle.table.specs.Checks.{Accepted}
use Rattle.stack_usage.specs.Call.{FramesCall, counted}
use Rattle.stack_usage.specs.declared.mention.Mention.{Mention}
use Rattle.stack_usage.specs.declared.mention.Mention.TheVariants.{Never, Once}
use Rattle.stack_usage.specs.declared.counts.Counted.{Counted}

-- one line is about each of so many functions, and it has this count
abbrev pub EachOnce : List Mention → ℕ → List ℕ → Type 0
EachOnce mentions functions counts = (length counts ≡ 64) × ((f : ℕ) → f < functions → get_or mentions f Never ≡ Once (get_or counts f 0))

-- function p is the first of them of which that is not so
pub record FirstOdd (mentions : List Mention) (functions p : ℕ) : Type 0 where
  pub within : p < functions
  pub odd : (c : ℕ) → get_or mentions p Never ≢ Once c
  pub before : (f : ℕ) → f < p → (c : ℕ) × (get_or mentions f Never ≡ Once c)

-- the table is accepted, and these are its functions' counts
pub record CountedFor (x : FramesCall) (found : Counted) : Type 0 where
  pub accepted_is : Accepted x.table
  pub functions_are : found.functions ≡ functions x.table
  pub few : found.functions ≤ 64
  pub long : length found.counts ≡ 64
  pub count_is : (f : ℕ) → f < functions x.table → get_or found.counts f 0 ≡ counted x.names x.report f
