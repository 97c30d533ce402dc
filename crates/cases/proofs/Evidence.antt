-- What is computed for a choice: its sizes by a plan, whether it is safe, and whether it is the best.
use Prim.Native.Nat.{ℕ, suc, min}
use mathlib.Core.Path.{◌≡◌}
use mathlib.Core.Bool.{Bool, true, cond, not, ◌&&◌}
use mathlib.Core.List.{List, []}
use lib.Dec.{ltb}
use lib.ListN.{length, get_or}
use borrow.Author.Tests.{lt-ltb, not-true}
use Rattle.table.specs.WellFormed.{WellFormed}
use Rattle.table.proofs.Booleans.{not_both, and_true_left, and_true_right}
use Rattle.sizes.specs.Answer.{SizesOf}
use Rattle.size.specs.Numbers.{at}
use Rattle.rules.specs.Choice.{guarded, unguarded}
use Rattle.solver.specs.Values.{Values}
use Rattle.rules.specs.Rules.{LeastSizes}
use Rattle.safety.specs.Safety.{Safe}
use Rattle.choice.specs.Beats.{Returned}
use Rattle.cases.proofs.Rows.{Rows, program_from}
use Rattle.cases.proofs.Every.{every, every_each, cond_true}
use Rattle.cases.proofs.Sets.{has, set_of, reach_of, sets_test, sets_found}
use Rattle.cases.proofs.Solving.{Move, run, settled, run_sizes}
use Rattle.cases.proofs.Safety.{safe_test, safe_told}
use Rattle.cases.proofs.Order.{order_test, order_found}
use Rattle.cases.proofs.Choosing.{choice_test, choice_found, obstacle, Unsafe, returned_by}

-- the values that a plan comes to for a choice
abbrev pub values : Rows → (ℕ → ℕ) → List Move → Values
values r c plan = run r (has (set_of r)) (has (reach_of r (set_of r))) c plan

-- the plan gives a choice's sizes
abbrev pub solved : Rows → (ℕ → ℕ) → List Move → Bool
solved r c plan = settled r (has (set_of r)) (has (reach_of r (set_of r))) c (values r c plan)

-- it does, and the choice is safe; or it is not
abbrev safe_by : Rows → (ℕ → ℕ) → List Move → Bool
safe_by r c plan = solved r c plan && safe_test r (values r c plan)

abbrev pub unsafe_by : Rows → (ℕ → ℕ) → List Move → Bool
unsafe_by r c plan = solved r c plan && not (safe_test r (values r c plan))

-- What a claim is shown by, as far as it needs it: a choice; a plan for its sizes; and, where the choice is to be the best, the depths of the
-- functions, the spawns in preference order, and plans for the choice with no spawn left unguarded and for what stands in the way of one verdict
-- more at each spawn of the order.
pub record Evidence : Type 0 where
  pub choice : List ℕ
  pub plan : List Move
  pub depths : List ℕ
  pub order : List ℕ
  pub merging : List Move
  pub more : List (List Move)

-- item j of the order is left unguarded, or what stands in the way of one verdict more for it is unsafe
abbrev blocked : Rows → List ℕ → Evidence → ℕ → Bool
blocked r c x j =
    cond (ltb (at c (at x.order j)) unguarded)
    (unsafe_by r (obstacle (at x.order) (suc (at c (at x.order j))) j (at c)) (get_or x.more j []))
    true

unfoldable pub best_test : Rows → List ℕ → Evidence → Bool
unfolding every
best_test r c x =
    choice_test r c
    && (order_test r x.depths x.order
    && (safe_by r (at c) x.plan
    && (safe_by r (λ n. min (at c n) guarded) x.merging
    && every (blocked r c x) (length x.order))))

module _ (r : Rows) (w : WellFormed (program_from r)) (t : sets_test r ≡ true) where
  sizes_by_lem : (c : ℕ → ℕ) (plan : List Move) → solved r c plan ≡ true → SizesOf (program_from r) (has (set_of r)) c (at (values r c plan).sizes) (at (values r c plan).after) (at (values r c plan).before)
  sizes_by_lem c plan e = let s = sets_found r w t in run_sizes r w (has (set_of r)) (has (reach_of r (set_of r))) s.0 s.1 c plan e

  pub least_by : (c : ℕ → ℕ) (plan : List Move) → solved r c plan ≡ true → LeastSizes (program_from r) c (at (values r c plan).sizes)
  least_by c plan e = (has (set_of r), (sets_found r w t).0, (sizes_by_lem c plan e).least)

  safe_by_lem : (c : ℕ → ℕ) (plan : List Move) → safe_by r c plan ≡ true → Safe (program_from r) c
  safe_by_lem c plan e =
      (safe_told r (values r c plan) w (has (set_of r)) (sets_found r w t).0 c (sizes_by_lem c plan (and_true_left _ _ e))).yes_if
      (and_true_right (solved r c plan) _ e)

  pub unsafe_by_lem : (c : ℕ → ℕ) (plan : List Move) → unsafe_by r c plan ≡ true → Unsafe (program_from r) c
  unsafe_by_lem c plan e =
      let x = safe_told r (values r c plan) w (has (set_of r)) (sets_found r w t).0 c (sizes_by_lem c plan (and_true_left _ _ e)) in
      record {
        sizes = at (values r c plan).sizes;
        sizes_are = least_by c plan (and_true_left _ _ e);
        not_safe = λ safe. not_both _ (x.only_if safe) (not-true _ (and_true_right (solved r c plan) _ e));
      }

  -- a choice that passes is the one returned
  pub best_by : (c : List ℕ) (x : Evidence) → best_test r c x ≡ true → Returned (program_from r) (at c)
  unfolding best_test
  best_by c x e =
      let ordered = and_true_right (choice_test r c) _ e in
      let safe = and_true_right (order_test r x.depths x.order) _ ordered in
      let merged = and_true_right (safe_by r (at c) x.plan) _ safe in
      let each = and_true_right (safe_by r (λ n. min (at c n) guarded) x.merging) _ merged in
      returned_by (program_from r) w (length x.order) (at x.order)
      (order_found r w x.depths x.order (and_true_left _ _ ordered)) (at c)
      (choice_found r c (and_true_left _ _ e))
      (safe_by_lem (at c) x.plan (and_true_left _ _ safe))
      (safe_by_lem (λ n. min (at c n) guarded) x.merging (and_true_left _ _ merged))
      (λ j h l. unsafe_by_lem _ _ (cond_true (ltb (at c (at x.order j)) unguarded) _ _ (every_each (blocked r c x) (length x.order) each j h) (lt-ltb _ _ l)))

  -- and its sizes are those of its plan
  pub best_sizes : (c : List ℕ) (x : Evidence) → best_test r c x ≡ true → LeastSizes (program_from r) (at c) (at (values r (at c) x.plan).sizes)
  unfolding best_test
  best_sizes c x e =
      let safe = and_true_right (order_test r x.depths x.order) _ (and_true_right (choice_test r c) _ e) in
      least_by (at c) x.plan (and_true_left _ _ (and_true_left _ _ safe))
