-- Whether a choice is safe, by a test of its sizes and sums, node by node and edge by edge.
use Prim.Native.Nat.{ℕ, ◌+◌, ◌*◌, ◌<◌}
use mathlib.Core.Path.{◌≡◌, refl, ap, ap₂, ◌∙◌}
use mathlib.Core.Bool.{Bool, true, false, not, ◌&&◌}
use mathlib.Core.Logic.{⊎_elim}
use lib.Dec.{eqb}
use borrow.Author.Tests.{eqb-true, eq-eqb, not-true, not-false}
use Rattle.table.specs.Below.{any}
use Rattle.table.specs.Record.{spawn}
use Rattle.table.specs.WellFormed.{WellFormed}
use Rattle.table.proofs.Below.{any_none, any_some, any_which}
use Rattle.table.proofs.Booleans.{either_way, not_both, and_true_left, and_true_right, and_false_right}
use Rattle.sync.specs.Synchronising.{Synchronising}
use Rattle.size.specs.Size.{unbounded}
use Rattle.size.specs.Numbers.{at}
use Rattle.sizes.specs.Answer.{SizesOf}
use Rattle.solver.specs.Values.{Values}
use Rattle.safety.specs.Safety.{Safe}
use Rattle.safety.specs.Test.{PostsBelow, EdgesBounded, Tells}
use Rattle.safety.proofs.Judging.{tells_safe}
use Rattle.cases.proofs.Rows.{Rows, leads, program_from}

-- spawn n has a target whose Post is not 0
abbrev post_at : Rows → Values → ℕ → Bool
post_at r v n = eqb (at r.sorts n) spawn && not (eqb (at v.sizes (4 * at r.targets n + 1)) 0)

-- edge e has unbounded sums on both sides
abbrev both_at : Rows → Values → ℕ → Bool
both_at r v e = eqb (at v.after (at r.froms e)) unbounded && eqb (at v.before (at r.tos e)) unbounded

unfoldable pub safe_test : Rows → Values → Bool
safe_test r v = not (any (post_at r v) r.nodes) && not (any (both_at r v) r.edges)

-- that nothing below n passes a test
none_below : (f : ℕ → Bool) (n : ℕ) → Tells (not (any f n)) ((k : ℕ) → k < n → f k ≡ false)
none_below f n = record {
  yes_if = λ e k h. ⊎_elim (λ t. not_both (any f n) (any_some f n k h t) (not-true (any f n) e)) (λ b. b) (either_way (f k));
  only_if = λ b. ap not (any_none f n b);
}

-- a test and another
tells_and : {P Q : Type 0} (a b : Bool) → Tells a P → Tells b Q → Tells (a && b) (P × Q)
tells_and a b p q = record {
  yes_if = λ e. (p.yes_if (and_true_left a b e), q.yes_if (and_true_right a b e));
  only_if = λ h. ap₂ ◌&&◌ (p.only_if h.0) (q.only_if h.1);
}

-- what says the same may stand in for what a test tells
tells_as : {P Q : Type 0} {b : Bool} → (P → Q) → (Q → P) → Tells b P → Tells b Q
tells_as f g t = record { yes_if = λ e. f (t.yes_if e); only_if = λ q. t.only_if (g q) }

module _ (r : Rows) (v : Values) where
  posts : ((n : ℕ) → n < r.nodes → post_at r v n ≡ false) → PostsBelow (program_from r) (at v.sizes) r.nodes
  posts h = record { zero_below = λ n l e. eqb-true _ _ (not-false _ (and_false_right _ _ (h n l) (eq-eqb _ _ e))) }

  from_posts : PostsBelow (program_from r) (at v.sizes) r.nodes → (n : ℕ) → n < r.nodes → post_at r v n ≡ false
  from_posts p n h = ⊎_elim spawns (λ b. rw b refl) (either_way (eqb (at r.sorts n) spawn))
    where
      spawns : eqb (at r.sorts n) spawn ≡ true → post_at r v n ≡ false
      spawns e = rw (e, p.zero_below n h (eqb-true _ _ e)) refl

  bounds : ((e : ℕ) → e < r.edges → both_at r v e ≡ false) → EdgesBounded (program_from r) (at v.after) (at v.before)
  bounds h = record { not_both = λ p n i x y. one p n (any_which (leads r p n) r.edges i) x y }
    where
      one : (p n : ℕ) → (e : ℕ) × (e < r.edges) × (leads r p n e ≡ true) → at v.after p ≡ unbounded → at v.before n ≡ unbounded → ⊥
      one p n e x y =
          let from = eqb-true (at r.froms e.0) p (and_true_left _ _ e.2) in
          let to = eqb-true (at r.tos e.0) n (and_true_right (eqb (at r.froms e.0) p) _ e.2) in
          not_both (both_at r v e.0)
          (ap₂ ◌&&◌ (eq-eqb _ _ (ap (at v.after) from ∙ x)) (eq-eqb _ _ (ap (at v.before) to ∙ y)))
          (h e.0 e.1)

  from_bounds : EdgesBounded (program_from r) (at v.after) (at v.before) → (e : ℕ) → e < r.edges → both_at r v e ≡ false
  from_bounds b e h = ⊎_elim both_are (λ f. f) (either_way (both_at r v e))
    where
      edge_is : (program_from r).edge (at r.froms e) (at r.tos e) ≡ true
      edge_is = any_some (leads r (at r.froms e) (at r.tos e)) r.edges e h (ap₂ ◌&&◌ (eq-eqb (at r.froms e) (at r.froms e) refl) (eq-eqb (at r.tos e) (at r.tos e) refl))

      both_are : both_at r v e ≡ true → both_at r v e ≡ false
      both_are t =
          absurd
          (b.not_both (at r.froms e) (at r.tos e) edge_is
          (eqb-true _ _ (and_true_left _ _ t))
          (eqb-true _ _ (and_true_right (eqb (at v.after (at r.froms e)) unbounded) _ t)))

  pub safe_told : WellFormed (program_from r) → (set : ℕ → Bool) → Synchronising (program_from r) set → (c : ℕ → ℕ) → SizesOf (program_from r) set c (at v.sizes) (at v.after) (at v.before) → Tells (safe_test r v) (Safe (program_from r) c)
  unfolding safe_test
  safe_told w set s c x =
      tells_safe (program_from r) w set s c (at v.sizes) (at v.after) (at v.before) x r.nodes refl
      (tells_and _ _ (tells_as posts from_posts (none_below (post_at r v) r.nodes)) (tells_as bounds from_bounds (none_below (both_at r v) r.edges)))
