-- Laws of `latest`, for any test.
use Prim.Native.Nat.{ℕ, zero, suc, ◌+◌, ◌<◌}
use mathlib.Core.Path.{◌≡◌, refl, sym, ap, ◌∙◌}
use mathlib.Core.Bool.{Bool, true, false, cond}
use mathlib.Core.Logic.{⊎_elim}
use native.Mathlib.Nat.{eq-or-lt_of_le}
use native.Mathlib.Numerals.{add-one}
use native.Mathlib.Omega.{arith}
use Rattle.std.specs.Prelude.{None, Some}
use Rattle.links.specs.Links.{latest}

module _ (test : ℕ → Bool) where
  pub latest_more : (n : ℕ) → latest test (n + 1) ≡ cond (test n) (Some n) (latest test n)
  unfolding latest
  latest_more n = rw add-one refl

  -- where none is found, none passes
  pub latest_none : (n : ℕ) → latest test n ≡ None → (i : ℕ) → i < n → test i ≡ false
  unfolding latest
  latest_none zero e i h = absurd (omega arith)
  latest_none (suc n) e i h = go (test n) refl e (latest_none n)
    where
      go : (b : Bool) → test n ≡ b → cond b (Some n) (latest test n) ≡ None → (latest test n ≡ None → (i : ℕ) → i < n → test i ≡ false) → test i ≡ false
      go true t e ih = absurd cc
      go false t e ih = ⊎_elim (λ (q : i ≡ n). ap test q ∙ t) (λ (l : i < n). ih e i l) (eq-or-lt_of_le (omega arith))

  -- what is found is below n and passes, and none above it does
  pub latest_some : (n x : ℕ) → latest test n ≡ Some x → (x < n) × (test x ≡ true) × ((i : ℕ) → x < i → i < n → test i ≡ false)
  unfolding latest
  latest_some zero x e = absurd cc
  latest_some (suc n) x e = go (test n) refl e (latest_some n x)
    where
      go : (b : Bool) → test n ≡ b → cond b (Some n) (latest test n) ≡ Some x → (latest test n ≡ Some x → (x < n) × (test x ≡ true) × ((i : ℕ) → x < i → i < n → test i ≡ false)) → (x < suc n) × (test x ≡ true) × ((i : ℕ) → x < i → i < suc n → test i ≡ false)
      go true t e ih = let q : n ≡ x = cc in (omega (arith, q), ap test (sym q) ∙ t, λ i l h. absurd (omega (arith, q)))
      go false t e ih =
          let w = ih e in
          (omega (arith, w.0), w.1, λ i l h. ⊎_elim (λ (q : i ≡ n). ap test q ∙ t) (λ (h : i < n). w.2 i l h) (eq-or-lt_of_le (omega arith)))
