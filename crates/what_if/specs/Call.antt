-- Document 02, "What-if lists": the checks of a call that is handed a number of choices for one table, and what it answers.
use Rattle.std.specs.Prelude.{ℕ, ◌*◌, ◌%◌, ◌<◌, ◌≤◌, ◌≡◌, ◌↔◌, Bool, true, false, not, ◌||◌, List, [], ◌∷◌, ◌++◌, map, eqb, ltb, length, take, drop, Ok, Err}
use Rattle.std.specs.Prelude.{Result as CodeResult}
use Rattle.table.specs.Refusal.{Check, of_whole, of_each, over, refusal}
use Rattle.table.specs.Checks.{checks}
use Rattle.table.specs.Program.{program_of}
use Rattle.table.specs.Answer.{number_of}
use Rattle.table.specs.declared.refusal.Refused.{Refused}
use Rattle.sync.specs.Words.{bit}
use Rattle.rules.specs.Rules.{entries}
use Rattle.table.specs.Result.{Result, done, refused, result_for, result_of, room_row}
use Rattle.sizes.specs.Call.{choice_of, outside, LeavesFor}
use Rattle.safety.specs.Safety.{Safe}

-- "They hand in a number of choices and then the choices, one after another"
pub record ListCall : Type 0 where
  pub table : List ℕ
  pub number : ℕ
  pub choices : List ℕ
  -- how many numbers the sizes buffer has
  pub buffer : ℕ

abbrev pub list_call : List ℕ → ℕ → List ℕ → ℕ → ListCall
list_call t number choices buffer = record { table = t; number = number; choices = choices; buffer = buffer }

-- how many bytes one choice has, and how many numbers one set of sizes
abbrev pub nodes_of : List ℕ → ℕ
nodes_of t = (program_of t).nodes

abbrev pub entries_of : List ℕ → ℕ
entries_of t = entries (program_of t)

-- part i of what stands one after another, each of the same length
abbrev pub part : (long i : ℕ) → List ℕ → List ℕ
part long i list = take long (drop (long * i) list)

-- 12: "no choice or more than 16"; place "the number handed in"
unfoldable pub wrong_number : ListCall → Bool
wrong_number x = eqb x.number 0 || ltb 16 x.number

-- 9: "for a wrong length the length wanted"
abbrev pub wanted : ListCall → ℕ
wanted x = nodes_of x.table * x.number

unfoldable pub wrong_list : ListCall → Bool
wrong_list x = not (eqb (length x.choices) (wanted x))

-- 9: "the place is the position in the whole list". The byte there belongs to a node: the first of a choice to node 0.
unfoldable pub outside_list : List ℕ → List ℕ → ℕ → Bool
outside_list t choices p = outside t (p % nodes_of t) (choice_of choices p)

-- 11: "length needed", for all sets of sizes
abbrev pub needed : ListCall → ℕ
needed x = entries_of x.table * x.number

-- "12 [..] comes before 9"
unfoldable pub list_checks : List (Check ListCall)
list_checks =
    record { number = 12; place = of_whole wrong_number (λ x. x.number) }
    ∷ record { number = 9; place = of_whole wrong_list wanted }
    ∷ record { number = 9; place = of_each (λ x. outside_list x.table x.choices) (λ x. length x.choices) }
    ∷ room_row needed (λ (x : ListCall). x.buffer)
    ∷ []

-- "[..] join document 01's table where it places them": after those on the table itself
unfoldable pub what_if_checks : List (Check ListCall)
what_if_checks = map (over (λ (x : ListCall). x.table)) checks ++ list_checks

-- what the call comes to
unfoldable pub what_if_result : ListCall → Result
what_if_result x = result_for (refusal what_if_checks x)

-- "Safety comes as a 16-bit number, bit 0 for the first choice, 1 for safe, unused bits 0"
pub record Safeties (t choices : List ℕ) (number bits : ℕ) : Type 0 where
  pub safe_is : (i : ℕ) → i < number → (bit bits i ≡ true) ↔ Safe (program_of t) (choice_of (part (nodes_of t) i choices))
  pub unused : (i : ℕ) → number ≤ i → bit bits i ≡ false

-- "answers [..] the safety [..] of each", or refused
abbrev pub Answers : ListCall → CodeResult ℕ Refused → Type 0
Answers x (Ok bits) = (done ≡ what_if_result x) × Safeties x.table x.choices x.number bits
Answers x (Err r) = refused (number_of r.cause) r.place ≡ what_if_result x

-- "the sizes stand one set after another": each is what the call for one choice leaves. Numbers behind the last keep their old content.
pub record LeavesSets (t choices : List ℕ) (number : ℕ) (old new : List ℕ) : Type 0 where
  pub long : length new ≡ length old
  pub set : (i : ℕ) → i < number → LeavesFor t (part (nodes_of t) i choices) (part (entries_of t) i old) done (part (entries_of t) i new)
  pub tail : drop (entries_of t * number) new ≡ drop (entries_of t * number) old

-- "A refusal writes nothing."
abbrev pub LeavesListFor : (t choices : List ℕ) → (number : ℕ) → List ℕ → Result → List ℕ → Type 0
LeavesListFor t choices number old done new = LeavesSets t choices number old new
LeavesListFor t choices number old (refused n place) new = new ≡ old

abbrev pub LeavesList : {X : Type 0} → (t choices : List ℕ) → (number : ℕ) → List ℕ → CodeResult X Refused → List ℕ → Type 0
LeavesList t choices number old answer new = LeavesListFor t choices number old (result_of answer) new
