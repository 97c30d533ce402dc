-- What is known of the records of a table in free order: none of checks 1 to 8 applies, and functions stand first, then nodes, then edges.
use Prim.Native.Nat.{ℕ, suc, ◌+◌, ◌<◌, ◌≤◌}
use mathlib.Core.Path.{◌≡◌, refl, sym, ap, ◌∙◌, subst}
use mathlib.Core.List.{List, Memᴰ}
use mathlib.Core.Bool.{Bool, true, false, true≢false, cond}
use mathlib.Core.Logic.{◌⊎◌, inl, inr, ⊎_elim}
use native.Mathlib.Omega.{arith}
use lib.Dec.{eqb, ltb}
use borrow.Author.Tests.{eqb-true, ltb-true, ltb-false, lt-ltb, le-ltb}
use Rattle.table.specs.Below.{count}
use Rattle.table.specs.Refusal.{of_whole}
use Rattle.table.specs.Record.{records, kind_of, functions, nodes, edges}
use Rattle.table.specs.Checks.{free_checks, FreeOrder, of_record, broken, unlisted, out_of_order, too_many, no_entry, absent, foreign, not_plain}
use Rattle.table.proofs.Below.{count_same, count_sum, count_all, count_below}
use Rattle.table.proofs.Refusals.{each_passes, whole_passes}

ruleset in_List = (Memᴰ.head, Memᴰ.tail)

module _ (t : List ℕ) (ok : FreeOrder t) where
  -- a row of the list does not apply; where it stands in the list does not matter
  record_passed : (n : ℕ) (test : List ℕ → ℕ → Bool) → Memᴰ (record { number = n; place = of_record test }) free_checks → (r : ℕ) → r < records t → test t r ≡ false
  record_passed n test m = each_passes t n test records free_checks ok m

  table_passed : (n : ℕ) (test : List ℕ → Bool) (place : List ℕ → ℕ) → Memᴰ (record { number = n; place = of_whole test place }) free_checks → test t ≡ false
  table_passed n test place m = whole_passes t n test place free_checks ok m

  pub not_broken : broken t ≡ false
  unfolding free_checks
  not_broken = table_passed 1 broken records (search in_List depth 40)

  pub all_listed : (r : ℕ) → r < records t → unlisted t r ≡ false
  unfolding free_checks
  all_listed = record_passed 2 unlisted (search in_List depth 40)

  pub all_in_order : (r : ℕ) → r < records t → out_of_order t r ≡ false
  unfolding free_checks
  all_in_order = record_passed 3 out_of_order (search in_List depth 40)

  pub none_too_many : (r : ℕ) → r < records t → too_many t r ≡ false
  unfolding free_checks
  none_too_many = record_passed 4 too_many (search in_List depth 40)

  pub has_entry : no_entry t ≡ false
  unfolding free_checks
  has_entry = table_passed 5 no_entry (λ t. 0) (search in_List depth 40)

  pub none_absent : (r : ℕ) → r < records t → absent t r ≡ false
  unfolding free_checks
  none_absent = record_passed 6 absent (search in_List depth 40)

  pub none_foreign : (r : ℕ) → r < records t → foreign t r ≡ false
  unfolding free_checks
  none_foreign = record_passed 7 foreign (search in_List depth 40)

  pub all_plain : (r : ℕ) → r < records t → not_plain t r ≡ false
  unfolding free_checks
  all_plain = record_passed 8 not_plain (search in_List depth 40)

  -- ---- the order of kinds

  -- a listed kind
  pub kind_listed : (r : ℕ) → r < records t → (kind_of t r ≡ 1) ⊎ ((kind_of t r ≡ 2) ⊎ (kind_of t r ≡ 3))
  unfolding unlisted
  kind_listed r h = go (eqb (kind_of t r) 1) refl (eqb (kind_of t r) 2) refl (eqb (kind_of t r) 3) refl (all_listed r h)
    where
      go : (p : Bool) → eqb (kind_of t r) 1 ≡ p → (q : Bool) → eqb (kind_of t r) 2 ≡ q → (s : Bool) → eqb (kind_of t r) 3 ≡ s → unlisted t r ≡ false → (kind_of t r ≡ 1) ⊎ ((kind_of t r ≡ 2) ⊎ (kind_of t r ≡ 3))
      go true e q f s g h = inl (eqb-true _ _ e)
      go false e true f s g h = inr (inl (eqb-true _ _ f))
      go false e false f true g h = inr (inr (eqb-true _ _ g))
      go false e false f false g h = absurd (true≢false (rw (e, f, g) at h))

  kind_rises : (r : ℕ) → suc r < records t → kind_of t r ≤ kind_of t (suc r)
  unfolding out_of_order
  kind_rises r h = ltb-false _ _ (all_in_order (suc r) h)

  -- what holds of each listed kind holds of every record's
  pub by_kind : (P : ℕ → Type 0) → P 1 → P 2 → P 3 → (r : ℕ) → r < records t → P (kind_of t r)
  by_kind P one two three r h =
      ⊎_elim
      (λ (e : kind_of t r ≡ 1). subst P (sym e) one)
      (⊎_elim (λ (e : kind_of t r ≡ 2). subst P (sym e) two) (λ (e : kind_of t r ≡ 3). subst P (sym e) three))
      (kind_listed r h)

  -- the records whose kind is below k stand first
  below : ℕ → ℕ → Bool
  below k r = ltb (kind_of t r) k

  below_first : (k r : ℕ) → r < records t → below k r ≡ ltb r (count (below k) (records t))
  unfolding below
  below_first k r h =
      count_below
      (λ r. ltb (kind_of t r) k)
      (records t)
      r
      (λ m b e. lt-ltb (kind_of t m) k (omega (arith, kind_rises m b, ltb-true (kind_of t (suc m)) k e)))
      h

  below_two : count (below 2) (records t) ≡ functions t
  unfolding below functions
  below_two = count_same _ _ (records t) (by_kind (λ k. ltb k 2 ≡ eqb k 1) refl refl refl)

  below_three : functions t + nodes t ≡ count (below 3) (records t)
  unfolding below functions nodes
  below_three = count_sum _ _ _ (records t) (by_kind (λ k. cond (eqb k 1) 1 0 + cond (eqb k 2) 1 0 ≡ cond (ltb k 3) 1 0) refl refl refl)

  pub records_are : functions t + nodes t + edges t ≡ records t
  unfolding below edges
  records_are =
      rw below_three
      (count_sum _ _ (λ r. true) (records t) (by_kind (λ k. cond (ltb k 3) 1 0 + cond (eqb k 3) 1 0 ≡ cond true 1 0) refl refl refl)
      ∙ count_all (λ r. true) (records t) (λ k h. refl))

  kind_low : (r : ℕ) → r < records t → 1 ≤ kind_of t r
  kind_low = by_kind (λ k. 1 ≤ k) (omega arith) (omega arith) (omega arith)

  kind_high : (r : ℕ) → r < records t → kind_of t r ≤ 3
  kind_high = by_kind (λ k. k ≤ 3) (omega arith) (omega arith) (omega arith)

  -- "Functions stand first, then nodes, then edges."
  pub function_kind_lem : (f : ℕ) → f < functions t → kind_of t f ≡ 1
  unfolding below
  function_kind_lem f h =
      let b : f < records t = omega (arith, records_are) in
      let l = ltb-true (kind_of t f) 2 (below_first 2 f b ∙ ap (λ (m : ℕ). ltb f m) below_two ∙ lt-ltb f (functions t) h) in
      omega (arith, kind_low f b)

  pub function_first : (r : ℕ) → r < records t → kind_of t r ≡ 1 → r < functions t
  unfolding below
  function_first r b e =
      ltb-true r (functions t) (ap (λ (m : ℕ). ltb r m) (sym below_two) ∙ sym (below_first 2 r b) ∙ lt-ltb (kind_of t r) 2 (omega (arith, e)))

  pub node_kind_lem : (n : ℕ) → n < nodes t → kind_of t (functions t + n) ≡ 2
  unfolding below
  node_kind_lem n h =
      let r = functions t + n in
      let b : r < records t = omega (arith, records_are) in
      let l = ltb-true (kind_of t r) 3 (below_first 3 r b ∙ ap (λ (m : ℕ). ltb r m) (sym below_three) ∙ lt-ltb r (functions t + nodes t) (omega arith)) in
      let g = ltb-false (kind_of t r) 2 (below_first 2 r b ∙ ap (λ (m : ℕ). ltb r m) below_two ∙ le-ltb r (functions t) (omega arith)) in
      omega arith

  pub edge_kind_lem : (e : ℕ) → e < edges t → kind_of t (functions t + nodes t + e) ≡ 3
  unfolding below
  edge_kind_lem e h =
      let r = functions t + nodes t + e in
      let b : r < records t = omega (arith, records_are) in
      let g = ltb-false (kind_of t r) 3 (below_first 3 r b ∙ ap (λ (m : ℕ). ltb r m) (sym below_three) ∙ le-ltb r (functions t + nodes t) (omega arith)) in
      omega (arith, kind_high r b)
