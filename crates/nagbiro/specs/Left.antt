-- What the exported functions leave in the numbers and buffers that they are lent.
use Rattle.std.specs.Prelude.{ℕ, ◌<◌, ◌≡◌, true, List, ◌++◌, ◌⊎◌, length, take, drop}
use Rattle.table.specs.Answer.{Outcome, accepted, refused}
use Rattle.table.specs.Program.{Program, program_of}
use Rattle.call_order.specs.CallOrder.{places, CallOrder}
use Rattle.sync.specs.Synchronising.{Synchronising}
use Rattle.sync.specs.Words.{Eight, member}
use Rattle.table.specs.Result.{Result, done}
use Rattle.sizes.specs.Call.{Call, choice_of, call_result}
use Rattle.table.specs.Result.{refused as call-refused}
use Rattle.safety.specs.Safety.{Safe}
use Rattle.what_if.specs.Call.{ListCall, what_if_result, Safeties}
use Rattle.ordered_table.specs.Call.{WriterCall, length_written, writer_result}

-- a, b and c after a check: the numbers of functions, nodes and edges; or the place, and b and c as they were
abbrev pub Counted : Outcome → (old_b old_c a b c : ℕ) → Type 0
Counted (accepted functions nodes edges) old_b old_c a b c = (a ≡ functions) × (b ≡ nodes) × (c ≡ edges)
Counted (refused number place) old_b old_c a b c = (a ≡ place) × (b ≡ old_b) × (c ≡ old_c)

-- the eight words of a program's synchronising set
pub record SetWords (g : Program) (words : List ℕ) : Type 0 where
  pub eight : Eight words
  pub set : Synchronising g (member words)
  pub exists : (n : ℕ) → member words n ≡ true → n < g.nodes

-- the words buffer: as many of them as there is room for, and the old words behind; and "A refusal writes nothing."
abbrev pub LeavesWords : List ℕ → Result → List ℕ → List ℕ → Type 0
LeavesWords t done old new = (words : List ℕ) × SetWords (program_of t) words × (new ≡ take (length old) words ++ drop 8 old)
LeavesWords t (call-refused number place) old new = new ≡ old

-- the order buffer: one byte for each function in the call order, as many as there is room for, and the old bytes behind
abbrev pub LeavesOrder : List ℕ → Result → List ℕ → List ℕ → Type 0
LeavesOrder t done old new = (functions : List ℕ) × CallOrder (program_of t) (places functions) × (length functions ≡ (program_of t).functions) × (new ≡ take (length old) functions ++ drop (program_of t).functions old)
LeavesOrder t (call-refused number place) old new = new ≡ old

-- `safe` after the call for one choice: 1 for a safe choice, 0 for an unsafe one, and as it was where the call is refused
abbrev pub JudgesFor : Result → Call → ℕ → ℕ → Type 0
JudgesFor done x old new =
    ((new ≡ 1) × Safe (program_of x.table) (choice_of x.choice))
    ⊎ ((new ≡ 0) × (Safe (program_of x.table) (choice_of x.choice) → ⊥))
JudgesFor (call-refused number place) x old new = new ≡ old

abbrev pub Judges : Call → ℕ → ℕ → Type 0
Judges x old new = JudgesFor (call_result x) x old new

-- `safe` after a call with a list of choices: bit i says whether choice i is safe; and as it was where the call is refused
abbrev pub JudgesListFor : Result → ListCall → ℕ → ℕ → Type 0
JudgesListFor done x old new = Safeties x.table x.choices x.number new
JudgesListFor (call-refused number place) x old new = new ≡ old

abbrev pub JudgesList : ListCall → ℕ → ℕ → Type 0
JudgesList x old new = JudgesListFor (what_if_result x) x old new

-- `written` after a call of the writer: the length written, and as it was where the call is refused
abbrev pub SaysWrittenFor : Result → WriterCall → ℕ → ℕ → Type 0
SaysWrittenFor done x old new = new ≡ length_written x
SaysWrittenFor (call-refused number place) x old new = new ≡ old

abbrev pub SaysWritten : WriterCall → ℕ → ℕ → Type 0
SaysWritten x old new = SaysWrittenFor (writer_result x) x old new
