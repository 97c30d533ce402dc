-- Entries by number, and when two are the same.
use Prim.Native.Nat.{ℕ, ◌+◌, ◌-◌, ◌<◌, ◌≤◌}
use mathlib.Core.Path.{◌≡◌, refl, sym, ap, ap₂, ◌∙◌}
use mathlib.Core.Bool.{Bool, true, false, true≢false}
use native.Mathlib.Omega.{arith}
use native.Mathlib.Decide.{ℕ_discrete, dec_lt}
use borrow.Author.Tests.{lt-ltb, le-ltb}
use Rattle.rules.specs.System.{Entry, size, along}
use Rattle.rules.specs.Entries.{offset, entry_at}
use Rattle.rules.specs.declared.sums.Sum.{Sum}
use Rattle.rules.specs.declared.sums.Sum.TheVariants.{After, Before, Through}

abbrev pub place : Entry → ℕ
place (size x) = x
place (along s n) = offset s + n

pub entry_size : (x : ℕ) → x < 2304 → entry_at x ≡ size x
unfolding entry_at
entry_size x h = rw (lt-ltb x 2304 h) refl

pub entry_through : (x : ℕ) → 3328 ≤ x → entry_at x ≡ along Through (x - 3328)
unfolding entry_at
entry_through x h =
    let a : 2304 ≤ x = omega arith in
    let b : 2816 ≤ x = omega arith in
    rw (le-ltb x 2304 a, le-ltb x 2816 b, le-ltb x 3328 h) refl

pub entry_before : (x : ℕ) → 2816 ≤ x → x < 3328 → entry_at x ≡ along Before (x - 2816)
unfolding entry_at
entry_before x h i = let a : 2304 ≤ x = omega arith in rw (le-ltb x 2304 a, le-ltb x 2816 h, lt-ltb x 3328 i) refl

pub entry_after : (x : ℕ) → 2304 ≤ x → x < 2816 → entry_at x ≡ along After (x - 2304)
unfolding entry_at
entry_after x h i = rw (le-ltb x 2304 h, lt-ltb x 2816 i) refl

pub entry_along : (s : Sum) (n : ℕ) → n < 512 → entry_at (offset s + n) ≡ along s n
entry_along After n h = let e : 2304 + n - 2304 ≡ n = omega arith in rw e at (entry_after (2304 + n) (omega arith) (omega arith))
entry_along Before n h = let e : 2816 + n - 2816 ≡ n = omega arith in rw e at (entry_before (2816 + n) (omega arith) (omega arith))
entry_along Through n h = let e : 3328 + n - 3328 ≡ n = omega arith in rw e at (entry_through (3328 + n) (omega arith))

pub place_entry : (x : ℕ) → place (entry_at x) ≡ x
place_entry x = go (dec_lt x 2304) (dec_lt x 2816) (dec_lt x 3328)
  where
    go : Dec (x < 2304) → Dec (x < 2816) → Dec (x < 3328) → place (entry_at x) ≡ x
    go (yes a) b c = ap place (entry_size x a)
    go (no a) (yes b) c = ap place (entry_after x (omega arith) b) ∙ omega arith
    go (no a) (no b) (yes c) = ap place (entry_before x (omega arith) c) ∙ omega arith
    go (no a) (no b) (no c) = ap place (entry_through x (omega arith)) ∙ omega arith

sum_same : (r s : Sum) → Dec (r ≡ s)
sum_same After After = yes refl
sum_same Before Before = yes refl
sum_same Through Through = yes refl
sum_same After Before = no (λ e. absurd (omega (arith, ap offset e)))
sum_same After Through = no (λ e. absurd (omega (arith, ap offset e)))
sum_same Before After = no (λ e. absurd (omega (arith, ap offset e)))
sum_same Before Through = no (λ e. absurd (omega (arith, ap offset e)))
sum_same Through After = no (λ e. absurd (omega (arith, ap offset e)))
sum_same Through Before = no (λ e. absurd (omega (arith, ap offset e)))

abbrev is_size : Entry → Bool
is_size (size x) = true
is_size (along s n) = false

abbrev index : Entry → ℕ
index (size x) = x
index (along s n) = n

-- which sum, of an entry that is one
abbrev sum_or : Sum → Entry → Sum
sum_or r (size x) = r
sum_or r (along s n) = s

pub entry_same : (x y : Entry) → Dec (x ≡ y)
entry_same (size x) (size y) = go (ℕ_discrete x y)
  where
    go : Dec (x ≡ y) → Dec (size x ≡ size y)
    go (yes e) = yes (ap size e)
    go (no n) = no (λ e. n (ap index e))
entry_same (size x) (along s n) = no (λ e. true≢false (ap is_size e))
entry_same (along s n) (size x) = no (λ e. true≢false (sym (ap is_size e)))
entry_same (along r m) (along s n) = go (sum_same r s) (ℕ_discrete m n)
  where
    go : Dec (r ≡ s) → Dec (m ≡ n) → Dec (along r m ≡ along s n)
    go (yes e) (yes f) = yes (ap₂ along e f)
    go (no d) f = no (λ e. d (ap (sum_or r) e))
    go (yes e) (no d) = no (λ q. d (ap index q))
