-- The checks of the call, one after another.
use Prim.Native.Nat.{ℕ, ◌+◌}
use mathlib.Core.Path.{◌≡◌, refl, ◌∙◌}
use lib.ListN.{drop}
use Rattle.std.specs.Prelude.{Option, None, Some}
use Rattle.table.specs.Below.{earliest}
use Rattle.table.specs.Record.{functions}
use Rattle.table.specs.Refusal.{refusal}
use Rattle.table.specs.Checks.{checks, Accepted}
use Rattle.table.specs.Result.{done, refused}
use Rattle.table.proofs.Refusals.{refusal_pass, refusal_here, refusal_over_none}
use Rattle.table.proofs.Results.{told_refused, told_done}
use Rattle.usage_line.specs.Lines.{lines}
use Rattle.stack_usage.specs.Call.{FramesCall, wrong_name, wrong_usage, not_once, usage_checks, frames_checks, frames_result}

module _ (x : FramesCall) (a : Accepted x.table) where
  past_table : refusal frames_checks x ≡ refusal usage_checks x
  unfolding frames_checks
  past_table = refusal_over_none (λ (y : FramesCall). y.table) usage_checks x checks a

  -- n is the number of functions
  module _ {n : ℕ} (many : n ≡ functions x.table) {name : Option ℕ} (f : earliest (wrong_name x.names n) (n + 1) ≡ name) where
    pub name_refused : (k : ℕ) → name ≡ Some k → refused 13 k ≡ frames_result x
    unfolding frames_result usage_checks
    name_refused k e = told_refused frames_checks x 13 k (past_table ∙ refusal_here x _ _ (rw (← many) (f ∙ e)))

    past_names : name ≡ None → refusal frames_checks x ≡ refusal (drop 1 usage_checks) x
    unfolding usage_checks
    past_names e = past_table ∙ refusal_pass x _ _ (rw (← many) (f ∙ e))

    module _ (named : name ≡ None) {usage : Option ℕ} (g : earliest (wrong_usage x.report) (lines x.report) ≡ usage) where
      pub usage_refused : (j : ℕ) → usage ≡ Some j → refused 13 (n + j) ≡ frames_result x
      unfolding frames_result usage_checks
      usage_refused j e = rw many (told_refused frames_checks x 13 (functions x.table + j) (past_names named ∙ refusal_here x _ _ (rw (g ∙ e) refl)))

      past_report : usage ≡ None → refusal frames_checks x ≡ refusal (drop 2 usage_checks) x
      unfolding usage_checks
      past_report e = past_names named ∙ refusal_pass x _ _ (rw (g ∙ e) refl)

      module _ (read : usage ≡ None) {odd : Option ℕ} (h : earliest (not_once x.names x.report) n ≡ odd) where
        pub once_refused : (m : ℕ) → odd ≡ Some m → refused 14 m ≡ frames_result x
        unfolding frames_result usage_checks
        once_refused m e = told_refused frames_checks x 14 m (past_report read ∙ refusal_here x _ _ (rw (← many) (h ∙ e)))

        past_mentions : odd ≡ None → refusal frames_checks x ≡ refusal (drop 3 usage_checks) x
        unfolding usage_checks
        past_mentions e = past_report read ∙ refusal_pass x _ _ (rw (← many) (h ∙ e))

        pub none_refuses : odd ≡ None → done ≡ frames_result x
        unfolding frames_result usage_checks refusal
        none_refuses e = told_done frames_checks x (past_mentions e)
