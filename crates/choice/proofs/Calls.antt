-- The checks of the best-choice call, one after another.
use Prim.Native.Nat.{ℕ, ◌<◌, ◌≤◌}
use mathlib.Core.Path.{◌≡◌, sym, ◌∙◌}
use mathlib.Core.List.Memᴰ
use Rattle.std.specs.Prelude.{None}
use native.Mathlib.Omega.{arith}
use lib.ListN.{drop}
use borrow.Author.Tests.{lt-ltb, le-ltb, ltb-false}
use Rattle.table.specs.Refusal.{refusal}
use Rattle.table.specs.Checks.{checks, Accepted}
use Rattle.table.specs.Program.{program_of}
use Rattle.table.proofs.Refusals.{whole_here, whole_pass, whole_passes, refusal_over_none}
use Rattle.rules.specs.Rules.{entries}
use Rattle.table.specs.Result.{done, refused, room_result}
use Rattle.table.proofs.Results.{told_refused, none_refused, table_accepted}
use Rattle.table.proofs.Results.{last_row, room_fits}
use Rattle.choice.specs.Call.{BestCall, few_verdicts, buffer_checks, best_checks, best_result}

module _ (x : BestCall) (a : Accepted x.table) where
  past_table : refusal best_checks x ≡ refusal buffer_checks x
  unfolding best_checks
  past_table = refusal_over_none (λ (y : BestCall). y.table) buffer_checks x checks a

  module _ (nodes : ℕ) (m : nodes ≡ (program_of x.table).nodes) where
    pub verdicts_refused : x.verdicts < nodes → refused 10 nodes ≡ best_result x
    unfolding best_result buffer_checks few_verdicts
    verdicts_refused h =
        let s : x.verdicts < (program_of x.table).nodes = omega arith in
        told_refused best_checks x 10 nodes (rw m (past_table ∙ whole_here x 10 few_verdicts _ _ (lt-ltb x.verdicts (program_of x.table).nodes s)))

    past_verdicts : nodes ≤ x.verdicts → refusal best_checks x ≡ refusal (drop 1 buffer_checks) x
    unfolding buffer_checks few_verdicts
    past_verdicts h =
        let s : (program_of x.table).nodes ≤ x.verdicts = omega arith in
        past_table ∙ whole_pass x 10 few_verdicts _ _ (le-ltb x.verdicts (program_of x.table).nodes s)

    pub sizes_decide : nodes ≤ x.verdicts → (needed : ℕ) → needed ≡ entries (program_of x.table) → room_result needed x.buffer ≡ best_result x
    unfolding best_result buffer_checks
    sizes_decide h = last_row _ _ x best_checks (past_verdicts h)

-- ---- a call that is not refused

ruleset in_List = (Memᴰ.head, Memᴰ.tail)

verdicts_fit : (x : BestCall) → refusal buffer_checks x ≡ None → (program_of x.table).nodes ≤ x.verdicts
unfolding buffer_checks few_verdicts
verdicts_fit x e =
    ltb-false _ _ (whole_passes x 10 few_verdicts (λ y. (program_of y.table).nodes) buffer_checks e (search in_List depth 40))

-- both results fit
pub record Fits (x : BestCall) : Type 0 where
  pub verdicts : (program_of x.table).nodes ≤ x.verdicts
  pub sizes : entries (program_of x.table) ≤ x.buffer

pub done_fits : (x : BestCall) → done ≡ best_result x → Fits x
unfolding best_result best_checks buffer_checks
done_fits x d =
    let n = none_refused best_checks x d in
    let t = table_accepted (λ (y : BestCall). y.table) buffer_checks x n in
    let b = sym (past_table x t) ∙ n in
    record {
      verdicts = verdicts_fit x b;
      sizes = room_fits (λ (y : BestCall). entries (program_of y.table)) (λ (y : BestCall). y.buffer) x buffer_checks (search in_List depth 40) b;
    }
