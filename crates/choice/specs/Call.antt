-- Document 01, "Refused tables": the checks of the best-choice call, and what it leaves in the lent buffers.
use Rattle.std.specs.Prelude.{ℕ, ◌≡◌, Bool, List, [], ◌∷◌, ◌++◌, map, ltb}
use Rattle.table.specs.Refusal.{Check, of_whole, over, refusal}
use Rattle.table.specs.Checks.{checks}
use Rattle.table.specs.Program.{program_of}
use Rattle.size.specs.Numbers.{Written}
use Rattle.rules.specs.Rules.{entries}
use Rattle.table.specs.Result.{Result, done, refused, result_for, result_of, room_row}
use Rattle.sizes.specs.Call.{choice_of, LeavesFor}
use Rattle.std.specs.Prelude.{Result as CodeResult}
use Rattle.table.specs.declared.refusal.Refused.{Refused}
use Rattle.choice.specs.Beats.{Returned}

pub record BestCall : Type 0 where
  pub table : List ℕ
  -- how many bytes the verdict buffer has, and how many numbers the sizes buffer
  pub verdicts : ℕ
  pub buffer : ℕ

abbrev pub best_call : List ℕ → ℕ → ℕ → BestCall
best_call t verdicts buffer = record { table = t; verdicts = verdicts; buffer = buffer }

-- 10: "verdict buffer shorter than the node count"
unfoldable pub few_verdicts : BestCall → Bool
few_verdicts x = ltb x.verdicts (program_of x.table).nodes

-- 10 and 11. Place: "length needed".
unfoldable pub buffer_checks : List (Check BestCall)
buffer_checks =
    record { number = 10; place = of_whole few_verdicts (λ x. (program_of x.table).nodes) }
    ∷ room_row (λ (x : BestCall). entries (program_of x.table)) (λ (x : BestCall). x.buffer)
    ∷ []

-- "The lowest number wins": those on the table itself first.
unfoldable pub best_checks : List (Check BestCall)
best_checks = map (over (λ (x : BestCall). x.table)) checks ++ buffer_checks

-- what the call comes to
unfoldable pub best_result : BestCall → Result
best_result x = result_for (refusal best_checks x)

-- what it leaves in both buffers
pub record LeavesBest (t old_verdicts new_verdicts old_sizes new_sizes : List ℕ) : Type 0 where
  -- "The choice returned is the first bytes of the verdict buffer, one per node, as that call leaves them"
  pub returned : Returned (program_of t) (choice_of new_verdicts)
  -- "Longer buffers keep their tail."
  pub written : Written (program_of t).nodes (choice_of new_verdicts) old_verdicts new_verdicts
  -- "and its sizes into the sizes buffer"
  pub sizes : LeavesFor t new_verdicts old_sizes done new_sizes

-- "A refusal writes nothing."
abbrev pub LeavesBothFor : List ℕ → List ℕ → List ℕ → List ℕ → List ℕ → Result → Type 0
LeavesBothFor t old_verdicts new_verdicts old_sizes new_sizes done = LeavesBest t old_verdicts new_verdicts old_sizes new_sizes
LeavesBothFor t old_verdicts new_verdicts old_sizes new_sizes (refused number place) = (new_verdicts ≡ old_verdicts) × (new_sizes ≡ old_sizes)

abbrev pub LeavesBoth : {X : Type 0} → List ℕ → List ℕ → List ℕ → List ℕ → List ℕ → CodeResult X Refused → Type 0
LeavesBoth t old_verdicts new_verdicts old_sizes new_sizes answer = LeavesBothFor t old_verdicts new_verdicts old_sizes new_sizes (result_of answer)
