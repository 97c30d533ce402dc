-- What check 15 sees to: the edges of an accepted table ascend.
use Prim.Native.Nat.{ℕ, zero, suc, ◌+◌, ◌<◌}
use mathlib.Core.Path.{◌≡◌, refl, sym, ap, ◌∙◌, subst}
use mathlib.Core.List.{List, Memᴰ}
use mathlib.Core.Bool.{true, false, ◌&&◌}
use mathlib.Core.Logic.{◌⊎◌, inl, inr, ⊎_elim}
use native.Mathlib.Omega.{arith}
use lib.Dec.{eqb, ltb}
use borrow.Author.Tests.{eqb-true, ltb-true, eq-eqb, lt-ltb, not-false}
use Rattle.table.specs.Record.{records, kind_of, edges, functions, nodes, edge_from, edge_to, field_a, field_b}
use Rattle.table.specs.Checks.{free_checks, order_checks, checks, FreeOrder, Accepted, above, not_above}
use Rattle.table.proofs.Below.{last_or_before}
use Rattle.table.proofs.Booleans.{either_way, or_true, or_true_right, and_true_left, and_true_right}
use Rattle.table.proofs.Refusals.{none_before, refusal_before_none, each_passes}
use Rattle.table.proofs.Rows as rows

ruleset in_List = (Memᴰ.head, Memᴰ.tail)

-- an edge above another, by cases
abbrev pub Above : (a b c d : ℕ) → Type 0
Above a b c d = (c < a) ⊎ ((c ≡ a) × (d < b))

pub above_cases : (a b c d : ℕ) → above a b c d ≡ true → Above a b c d
above_cases a b c d h =
    ⊎_elim
    (λ (l : ltb c a ≡ true). inl (ltb-true c a l))
    (λ (g : ltb c a ≡ false). let e = or_true_right (ltb c a) (eqb c a && ltb d b) h g in inr (eqb-true c a (and_true_left _ (ltb d b) e), ltb-true d b (and_true_right (eqb c a) _ e)))
    (either_way (ltb c a))

pub cases_above : (a b c d : ℕ) → Above a b c d → above a b c d ≡ true
cases_above a b c d =
    ⊎_elim
    (λ (l : c < a). rw (lt-ltb c a l) refl)
    (λ (w : (c ≡ a) × (d < b)). rw (eq-eqb c a w.0, lt-ltb d b w.1) (or_true (ltb c a)))

pub above_again : (a b c d e f : ℕ) → Above a b c d → Above c d e f → Above a b e f
above_again a b c d e f x y =
    ⊎_elim
    (λ (l : c < a). ⊎_elim (λ (m : e < c). inl (omega arith)) (λ (w : (e ≡ c) × (f < d)). inl (omega (arith, w.0))) y)
    (λ (v : (c ≡ a) × (d < b)). ⊎_elim (λ (m : e < c). inl (omega (arith, v.0))) (λ (w : (e ≡ c) × (f < d)). inr (w.0 ∙ v.0, omega (arith, v.1, w.1))) y)
    x

module _ (t : List ℕ) where
  pub free_order : Accepted t → FreeOrder t
  unfolding checks
  free_order = none_before order_checks t free_checks

  module _ (ok : Accepted t) where
    none_not_above : (r : ℕ) → r < functions t + nodes t + edges t → not_above t r ≡ false
    unfolding checks order_checks
    none_not_above r h =
        each_passes t 15 not_above records order_checks (sym (refusal_before_none order_checks t free_checks (free_order ok)) ∙ ok) (search in_List depth 10) r
        (omega (arith, rows.records_are t (free_order ok)))

    -- two edges, one after the other
    in_turn : (q r : ℕ) → q ≡ suc r → kind_of t r ≡ 3 → kind_of t q ≡ 3 → not_above t q ≡ false
        → above (field_a t q) (field_b t q) (field_a t r) (field_b t r) ≡ true
    unfolding not_above
    in_turn zero r s k l h = absurd (omega (arith, s))
    in_turn (suc q) r s k l h =
        let w : q ≡ r = omega (arith, s) in
        rw (← w) (not-false _ (rw (l, ap (kind_of t) w ∙ k) at h))

    next : (e : ℕ) → suc e < edges t → Above (edge_from t (suc e)) (edge_to t (suc e)) (edge_from t e) (edge_to t e)
    next e h =
        let kind = rows.edge_kind_lem t (free_order ok) in
        above_cases _ _ _ _ (in_turn _ _ (omega arith) (kind e (omega arith)) (kind (suc e) h) (none_not_above _ (omega arith)))

    pub ascending : (e d : ℕ) → e < d → d < edges t → above (edge_from t d) (edge_to t d) (edge_from t e) (edge_to t e) ≡ true
    ascending e d l h = cases_above _ _ _ _ (go d l h)
      where
        go : (d : ℕ) → e < d → d < edges t → Above (edge_from t d) (edge_to t d) (edge_from t e) (edge_to t e)
        go zero l h = absurd (omega arith)
        go (suc d) l h =
            ⊎_elim
            (λ (i : e ≡ d). subst (λ (k : ℕ). Above (edge_from t (suc d)) (edge_to t (suc d)) (edge_from t k) (edge_to t k)) (sym i) (next d h))
            (λ (m : e < d). above_again _ _ _ _ _ _ (next d h) (go d m (omega arith)))
            (last_or_before e d l)
