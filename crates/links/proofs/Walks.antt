-- A walk along a chain comes to each item of its key.
use Prim.Native.Nat.{ℕ, suc, ◌<◌, ◌≤◌}
use mathlib.Core.Path.{◌≡◌, sym, subst, ◌∙◌}
use mathlib.Core.Bool.{Bool, true, false, true≢false}
use mathlib.Core.List.{List}
use mathlib.Core.Logic.{⊎_elim}
use native.Mathlib.Omega.{arith}
use native.Mathlib.Nat.{eq-or-lt_of_le}
use Rattle.std.proofs.lemmas.Bool.{cases_lt}
use Rattle.std.specs.Prelude.{Option, None, Some}
use lib.ListN.{get_or}
use Rattle.links.specs.Links.{latest, left, Linked, Walk}
use Rattle.links.proofs.Latest.{latest_some, latest_none}

module _ (test : ℕ → Bool) (items : ℕ) where
  pub walk_starts : (done : ℕ → Type 0) (next : Option ℕ) → next ≡ latest test items → Walk test items done next
  walk_starts done next e = record { end = items; within = omega arith; at = e; passed = λ i h l. absurd (omega arith) }

  -- at item x
  module _ (done : ℕ → Type 0) (at : Option ℕ) (w : Walk test items done at) (x : ℕ) (is : at ≡ Some x) where
    here : (x < w.end) × (test x ≡ true) × ((i : ℕ) → x < i → i < w.end → test i ≡ false)
    here = latest_some test w.end x (sym w.at ∙ is)

    pub walk_item : (x < items) × (test x ≡ true)
    walk_item = (omega (arith, here.0, w.within), here.1)

    -- it goes on, and what was done before is still done
    pub walk_goes_on : (done' : ℕ → Type 0) (next : Option ℕ) → next ≡ latest test x → ((i : ℕ) → done i → done' i) → done' x → Walk test items done' next
    walk_goes_on done' next e keeps now = record { end = x; within = omega (arith, walk_item.0); at = e; passed = passed }
      where
        above : (i : ℕ) → x < i → i < items → test i ≡ true → done i
        above i b l t =
            ⊎_elim
            (λ (o : i < w.end). absurd (true≢false (sym t ∙ here.2 i b o)))
            (λ (o : w.end ≤ i). w.passed i o l t)
            (cases_lt i w.end)

        passed : (i : ℕ) → x ≤ i → i < items → test i ≡ true → done' i
        passed i h l t = ⊎_elim (λ (q : x ≡ i). subst done' q now) (λ (b : x < i). keeps i (above i b l t)) (eq-or-lt_of_le h)

    pub walk_falls : (next : Option ℕ) → next ≡ latest test x → left next < left at
    walk_falls next e = rw is (less next e)
      where
        less : (next : Option ℕ) → next ≡ latest test x → left next < suc x
        less None e = omega arith
        less (Some y) e = omega (arith, (latest_some test x y (sym e)).0)

  pub walk_ends : (done : ℕ → Type 0) (at : Option ℕ) → Walk test items done at → at ≡ None → (i : ℕ) → i < items → test i ≡ true → done i
  walk_ends done at w is i h t =
      ⊎_elim
      (λ (o : i < w.end). absurd (true≢false (sym t ∙ latest_none test w.end (sym w.at ∙ is) i o)))
      (λ (o : w.end ≤ i). w.passed i o h t)
      (cases_lt i w.end)

-- where the chain of the walk's key goes on
pub walk_next : (has : ℕ → ℕ → Bool) (items : ℕ) (first next : List (Option ℕ)) → Linked has items first next → (k : ℕ) (done : ℕ → Type 0) (at : Option ℕ) → Walk (has k) items done at → (x : ℕ) → at ≡ Some x → get_or next x None ≡ latest (has k) x
walk_next has items first next l k done at w x is = let i = walk_item (has k) items done at w x is in l.goes_on k x i.0 i.1
