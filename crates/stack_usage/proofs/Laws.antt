-- What a call has that is not refused: a caller may read the frames by this.
use Prim.Native.Nat.{ℕ, ◌+◌, ◌<◌, ◌≤◌}
use mathlib.Core.Path.{◌≡◌, refl, sym, ◌∙◌}
use mathlib.Core.Bool.{true, false}
use mathlib.Core.List.{List, [], Memᴰ}
use native.Mathlib.Decide.{dec_lt}
use native.Mathlib.Omega.{arith}
use borrow.Author.Tests.{eqb-true, not-false, lt-ltb, le-ltb, ltb-false}
use lib.ListN.{get_or-eq_default}
use Rattle.std.specs.Prelude.{Option, None, Some, option_map}
use Rattle.table.specs.Below.{earliest, count}
use Rattle.table.specs.Record.{functions}
use Rattle.table.specs.Refusal.{Check, refusal}
use Rattle.table.specs.Checks.{checks, Accepted}
use Rattle.table.specs.Result.{done}
use Rattle.table.proofs.Below.{earliest_passed, earliest_found}
use Rattle.table.proofs.Booleans.{some_not_none, not_both}
use Rattle.table.proofs.Refusals.{refusal_none, refusal_over_none, each_passes}
use Rattle.table.proofs.Results.{none_refused, table_accepted}
use Rattle.usage_line.specs.Bytes.{is_name}
use Rattle.usage_line.specs.Line.{count_in, is_usage}
use Rattle.usage_line.specs.Lines.{pieces, lines, line, piece_at, is_line}
use Rattle.stack_usage.specs.Call.{FramesCall, wrong_name, wrong_usage, about, not_once, usage_checks, frames_checks, frames_result, counted}
use Rattle.table.proofs.Below.{some_counted, only_one_counted}

-- line j of the report is the only one about function f, and its count is what is counted for the function
pub record OnlyLine (names report : List ℕ) (f j : ℕ) : Type 0 where
  pub within : j < lines report
  pub about_it : about names report f j ≡ true
  pub only : (i : ℕ) → i < lines report → about names report f i ≡ true → i ≡ j
  pub count_is : counted names report f ≡ count_in (line report j)

-- The table is accepted, the list has a name for each function and no line besides, each line of the report is of its form with a count in range, and
-- one of them is about each function.
pub record Valid (x : FramesCall) : Type 0 where
  pub accepted_is : Accepted x.table
  pub as_many : lines x.names ≡ functions x.table
  pub names_are : (k : ℕ) → k < functions x.table → is_line is_name (piece_at x.names k) ≡ true
  pub usages_are : (j : ℕ) → j < lines x.report → is_line is_usage (piece_at x.report j) ≡ true
  pub only_line : (f : ℕ) → f < functions x.table → (j : ℕ) × OnlyLine x.names x.report f j

-- the row of the report
abbrev report_row : Check FramesCall
report_row = record { number = 13; place = λ y. option_map (λ j. functions y.table + j) (earliest (wrong_usage y.report) (lines y.report)) }

ruleset in_List = (Memᴰ.head, Memᴰ.tail)

unmapped : (n : ℕ) (o : Option ℕ) → option_map (λ j. n + j) o ≡ None → o ≡ None
unmapped n None e = refl
unmapped n (Some j) e = absurd (some_not_none (n + j) e)

module _ (x : FramesCall) (e : refusal usage_checks x ≡ None) where
  none_wrong : (k : ℕ) → k < functions x.table + 1 → wrong_name x.names (functions x.table) k ≡ false
  unfolding usage_checks
  none_wrong = each_passes x 13 (λ y. wrong_name y.names (functions y.table)) (λ y. functions y.table + 1) usage_checks e (search in_List depth 40)

  named : (k : ℕ) → k < functions x.table → is_line is_name (piece_at x.names k) ≡ true
  unfolding wrong_name
  named k h = not-false _ (rw (lt-ltb k (functions x.table) h) at (none_wrong k (omega arith)))

  no_more : lines x.names ≤ functions x.table
  unfolding wrong_name
  no_more = ltb-false _ _ (rw (le-ltb (functions x.table) (functions x.table) (omega arith)) at (none_wrong (functions x.table) (omega arith)))

  used : (j : ℕ) → j < lines x.report → is_line is_usage (piece_at x.report j) ≡ true
  unfolding usage_checks wrong_usage
  used j h =
      not-false _ (earliest_passed (wrong_usage x.report) (lines x.report) (unmapped (functions x.table) (earliest (wrong_usage x.report) (lines x.report)) (refusal_none x usage_checks e report_row (search in_List depth 40))) j h)

  once : (f : ℕ) → f < functions x.table → count (about x.names x.report f) (lines x.report) ≡ 1
  unfolding usage_checks not_once
  once f h = eqb-true _ _ (not-false _ (each_passes x 14 (λ y. not_once y.names y.report) (λ y. functions y.table) usage_checks e (search in_List depth 40) f h))

  only : (f : ℕ) → f < functions x.table → (j : ℕ) × OnlyLine x.names x.report f j
  unfolding counted
  only f h =
      let test = about x.names x.report f in
      let first = some_counted test (lines x.report) (once f h) in
      let found = earliest_found test (lines x.report) first.0 first.1 in (
        first.0,
        record {
          within = found.0;
          about_it = found.1;
          only = λ i l p. only_one_counted test (lines x.report) (once f h) i first.0 l found.0 p found.1;
          count_is = rw first.1 refl;
        },
      )

  as_many : lines x.names ≡ functions x.table
  as_many = go (dec_lt (lines x.names) (functions x.table))
    where
      -- a line that is missing is no name
      missing : is_line is_name (piece_at x.names (lines x.names)) ≡ false
      missing = rw (get_or-eq_default (pieces x.names) [] {n = lines x.names} (omega arith)) refl

      go : Dec (lines x.names < functions x.table) → lines x.names ≡ functions x.table
      go (yes l) = not_both (is_line is_name (piece_at x.names (lines x.names))) (named (lines x.names) l) missing
      go (no n) = omega (arith, n, no_more)

pub done_valid : (x : FramesCall) → done ≡ frames_result x → Valid x
unfolding frames_result frames_checks
done_valid x e =
    let n = none_refused frames_checks x e in
    let a = table_accepted (λ (y : FramesCall). y.table) usage_checks x n in
    let c = sym (refusal_over_none (λ (y : FramesCall). y.table) usage_checks x checks a) ∙ n in
    record { accepted_is = a; as_many = as_many x c; names_are = named x c; usages_are = used x c; only_line = only x c }
