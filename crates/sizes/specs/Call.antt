-- Document 01, "Refused tables": the checks of a call that is handed a choice and a sizes buffer, and what it answers.
use Rattle.std.specs.Prelude.{ℕ, ◌≡◌, Bool, not, ◌&&◌, ◌||◌, List, [], ◌∷◌, ◌++◌, map, eqb, leb, length, get_or}
use Rattle.table.specs.Refusal.{Check, of_whole, of_each, over, refusal}
use Rattle.table.specs.Record.{spawn}
use Rattle.table.specs.Checks.{checks}
use Rattle.table.specs.Program.{program_of}
use Rattle.table.specs.Result.{Result, done, refused, result_for, result_of, room_row}
use Rattle.rules.specs.Choice.{unmerged, unguarded}
use Rattle.rules.specs.Rules.{entries, LeastSizes}
use Rattle.size.specs.Numbers.{Written}
use Rattle.std.specs.Prelude.{Result as CodeResult}
use Rattle.table.specs.declared.refusal.Refused.{Refused}

pub record Call : Type 0 where
  pub table : List ℕ
  pub choice : List ℕ
  -- how many numbers the sizes buffer has
  pub buffer : ℕ

-- a call with this table, this choice and a sizes buffer of so many numbers
abbrev pub call : List ℕ → List ℕ → ℕ → Call
call t choice buffer = record { table = t; choice = choice; buffer = buffer }

-- the choice that bytes give
abbrev pub choice_of : List ℕ → ℕ → ℕ
choice_of bytes n = get_or bytes n 0

-- 9: "choice not one byte per node"
unfoldable pub wrong_length : Call → Bool
wrong_length x = not (eqb (length x.choice) (program_of x.table).nodes)

-- 9: "or a byte outside its list", that of node n: "0 if it is no spawn; else 1 unmerged, 2 merged guarded, 3 merged unguarded"
unfoldable pub outside : List ℕ → ℕ → ℕ → Bool
outside t n byte =
    not
    ((eqb ((program_of t).sort n) spawn && leb unmerged byte && leb byte unguarded)
    || (not (eqb ((program_of t).sort n) spawn) && eqb byte 0))

-- "in 9 a wrong length goes before a wrong byte", "the earliest [..] node"
unfoldable pub choice_checks : List (Check Call)
choice_checks =
    record { number = 9; place = of_whole wrong_length (λ x. (program_of x.table).nodes) }
    ∷ record { number = 9; place = of_each (λ x n. outside x.table n (choice_of x.choice n)) (λ x. (program_of x.table).nodes) }
    ∷ room_row (λ (x : Call). entries (program_of x.table)) (λ (x : Call). x.buffer)
    ∷ []

-- "The lowest number wins": those on the table itself first.
unfoldable pub call_checks : List (Check Call)
call_checks = map (over (λ (x : Call). x.table)) checks ++ choice_checks

-- what the call comes to
unfoldable pub call_result : Call → Result
call_result x = result_for (refusal call_checks x)

-- What the call leaves in the sizes buffer: the least sizes, and the old numbers past them; and "A refusal writes nothing."
abbrev pub LeavesFor : List ℕ → List ℕ → List ℕ → Result → List ℕ → Type 0
LeavesFor t choice old done new = (sizes : ℕ → ℕ) × LeastSizes (program_of t) (choice_of choice) sizes × Written (entries (program_of t)) sizes old new
LeavesFor t choice old (refused number place) new = new ≡ old

abbrev pub Leaves : {X : Type 0} → List ℕ → List ℕ → List ℕ → CodeResult X Refused → List ℕ → Type 0
Leaves t choice old answer new = LeavesFor t choice old (result_of answer) new
