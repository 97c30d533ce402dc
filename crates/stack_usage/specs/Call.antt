-- Document 02, "Frames from the compiler's report": the checks of the call, and what it leaves.
use Rattle.std.specs.Prelude.{ℕ, ◌+◌, ◌≡◌, Bool, cond, not, eqb, ltb, List, [], ◌∷◌, ◌++◌, map, option_map, bytes_eq, unwrap_or}
use Rattle.std.specs.Prelude.{Result as CodeResult}
use Rattle.table.specs.Below.{earliest, count}
use Rattle.table.specs.Refusal.{Check, of_each, over, refusal}
use Rattle.table.specs.Record.{functions}
use Rattle.table.specs.Checks.{checks}
use Rattle.table.specs.Result.{Result, done, refused, result_for, result_of}
use Rattle.table.specs.declared.refusal.Refused.{Refused}
use Rattle.usage_line.specs.Bytes.{is_name}
use Rattle.usage_line.specs.Line.{name_in, count_in, is_usage}
use Rattle.usage_line.specs.Lines.{lines, piece_at, line, is_line}
use Rattle.frame_writer.specs.Frames.{WithFrames}

-- "Read it with a name list [..] and write the counts into the frames of a table."
pub record FramesCall : Type 0 where
  pub table : List ℕ
  pub names : List ℕ
  pub report : List ℕ

abbrev pub frames_call : List ℕ → List ℕ → List ℕ → FramesCall
frames_call t names report = record { table = t; names = names; report = report }

-- 13, in the name list, "one line per function in number order": a line "that isn't of its form [..] or a name list with a line too many or too few". A
-- line that is missing has no bytes, and so is no name; a line too many is the one of this number, behind those of all functions.
unfoldable pub wrong_name : (names : List ℕ) (functions : ℕ) → ℕ → Bool
wrong_name names functions k = cond (ltb k functions) (not (is_line is_name (piece_at names k))) (ltb k (lines names))

-- 13, in the report: a line "that isn't of its form, a count above 65,535"
unfoldable pub wrong_usage : (report : List ℕ) → ℕ → Bool
wrong_usage report j = not (is_line is_usage (piece_at report j))

-- "Names match byte for byte": line j of the report is about function f
unfoldable pub about : (names report : List ℕ) → ℕ → ℕ → Bool
about names report f j = bytes_eq (line names f) (name_in (line report j))

-- 14: "a function with no report line or more than one"
unfoldable pub not_once : (names report : List ℕ) → ℕ → Bool
not_once names report f = not (eqb (count (about names report f) (lines report)) 1)

-- "place the first such or missing line, counted from 0 with the name list's lines before those of the report", which are as many as there are functions
-- by then; "14 [..] place the function"
unfoldable pub usage_checks : List (Check FramesCall)
usage_checks =
    record { number = 13; place = of_each (λ x. wrong_name x.names (functions x.table)) (λ x. functions x.table + 1) }
    ∷ record { number = 13; place = λ x. option_map (λ j. functions x.table + j) (earliest (wrong_usage x.report) (lines x.report)) }
    ∷ record { number = 14; place = of_each (λ x. not_once x.names x.report) (λ x. functions x.table) }
    ∷ []

-- "Checks, after 1 to 8"
unfoldable pub frames_checks : List (Check FramesCall)
frames_checks = map (over (λ (x : FramesCall). x.table)) checks ++ usage_checks

-- what the call comes to
unfoldable pub frames_result : FramesCall → Result
frames_result x = result_for (refusal frames_checks x)

-- what is counted for function f: the count of the first line about it, which is the only one where nothing is refused
unfoldable pub counted : (names report : List ℕ) → ℕ → ℕ
counted names report f = count_in (line report (unwrap_or (earliest (about names report f) (lines report)) 0))

-- What the call leaves in the table's buffer: the counts in its frames, and nothing else is new; and "A refusal writes nothing."
abbrev pub LeavesFor : FramesCall → Result → List ℕ → Type 0
LeavesFor x done new = WithFrames x.table (counted x.names x.report) new
LeavesFor x (refused number place) new = new ≡ x.table

abbrev pub Leaves : {X : Type 0} → FramesCall → CodeResult X Refused → List ℕ → Type 0
Leaves x answer new = LeavesFor x (result_of answer) new
