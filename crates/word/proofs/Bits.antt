-- Laws of the bits of a word, by the library's, which speak of a bit as a number.
use Prim.Native.Nat.{ℕ, zero, suc, ◌+◌, ◌-◌, ◌*◌, ◌/◌, ◌%◌, ◌^◌, ◌<◌, ◌≤◌, min, max}
use mathlib.Core.Path.{◌≡◌, refl, ap, sym, ◌∙◌}
use mathlib.Core.Bool.{Bool, true, false, true≢false, ◌||◌}
use mathlib.Core.Logic.{⊎_elim}
use native.Mathlib.Nat.{one-mul, div-div-eq-div-mul, div-le_self}
use native.Mathlib.Omega.{arith}
use lib.Bits.{bit_and, bit_or}
use lib.Dec.{eqb}
use lib.Pow.{shl_exact}
use borrow.Author.Tests.{eqb-true, eq-eqb, eqb-false}
use Rattle.std.specs.Int.{bit_at, trailing_zeros, w64}
use Rattle.std.proofs.Math.Bool.{or_comm}
use Rattle.std.proofs.lemmas.Bool.{cases_lt}
use Rattle.std.proofs.lemmas.Nat.{and_le_l, pow-add}
use Rattle.std.proofs.lemmas.Nat.Bits.{bit_at-lt, bit_at-zero, bit_at_above, bit_at_and, bit_at_or, bit_at-pow_same, bit_at-pow_other, bit_at-trailing_zeros, same_from_bits_below}
use Rattle.word.specs.Bit.{bit}

-- a digit by its test
digit_same : (a b : ℕ) → a < 2 → b < 2 → eqb a 1 ≡ eqb b 1 → a ≡ b
digit_same zero zero p q e = refl
digit_same (suc zero) (suc zero) p q e = refl
digit_same zero (suc zero) p q e = absurd (true≢false (sym e))
digit_same (suc zero) zero p q e = absurd (true≢false e)
digit_same zero (suc (suc b)) p q e = absurd (omega arith)
digit_same (suc zero) (suc (suc b)) p q e = absurd (omega arith)
digit_same (suc (suc a)) b p q e = absurd (omega arith)

-- two digits
or_digits : (u v : ℕ) → u < 2 → v < 2 → eqb (max u v) 1 ≡ (eqb u 1 || eqb v 1)
or_digits zero zero p q = refl
or_digits zero (suc zero) p q = refl
or_digits (suc zero) zero p q = refl
or_digits (suc zero) (suc zero) p q = refl
or_digits zero (suc (suc v)) p q = absurd (omega arith)
or_digits (suc zero) (suc (suc v)) p q = absurd (omega arith)
or_digits (suc (suc u)) v p q = absurd (omega arith)

pub bit_or_lem : (x y j : ℕ) → bit (bit_or x y) j ≡ (bit x j || bit y j)
unfolding bit
bit_or_lem x y j = ap (λ (n : ℕ). eqb n 1) (bit_at_or x y j) ∙ or_digits (bit_at x j) (bit_at y j) (bit_at-lt x j) (bit_at-lt y j)

-- a power of two has one bit
pub bit_pow : (k j : ℕ) → bit (2 ^ k) j ≡ eqb j k
unfolding bit
bit_pow k j = go (eqb j k) refl
  where
    go : (b : Bool) → eqb j k ≡ b → eqb (bit_at (2 ^ k) j) 1 ≡ b
    go true e = ap (λ (i : ℕ). eqb (bit_at (2 ^ k) i) 1) (eqb-true j k e) ∙ ap (λ (n : ℕ). eqb n 1) (bit_at-pow_same k)
    go false e = ap (λ (n : ℕ). eqb n 1) (bit_at-pow_other k j (eqb-false j k e))

-- a word of any width with bit k set
pub bit_set : (width x k : ℕ) → k < width → (j : ℕ) → bit (bit_or x (1 * 2 ^ k % 2 ^ width)) j ≡ (eqb j k || bit x j)
bit_set width x k h j =
    ap (λ (n : ℕ). bit (bit_or x n) j) (shl_exact 1 k width (omega arith) (omega arith) ∙ one-mul (2 ^ k))
    ∙ bit_or_lem x (2 ^ k) j
    ∙ ap (λ (b : Bool). bit x j || b) (bit_pow k j)
    ∙ or_comm (bit x j) (eqb j k)

pub bit_none : (k : ℕ) → bit 0 k ≡ false
unfolding bit
bit_none k = ap (λ (n : ℕ). eqb n 1) (bit_at-zero k)

pub bit_past : (x k : ℕ) → x < 2 ^ 64 → 64 ≤ k → bit x k ≡ false
unfolding bit
bit_past x k fits h = ap (λ (n : ℕ). eqb n 1) (bit_at_above x 64 k fits h)

-- two words with the same bits are the same
pub word_same : (k x y : ℕ) → x < 2 ^ k → y < 2 ^ k → ((j : ℕ) → j < k → bit x j ≡ bit y j) → x ≡ y
unfolding bit
word_same k x y p q h = same_from_bits_below k x y p q (λ j l. digit_same (bit_at x j) (bit_at y j) (bit_at-lt x j) (bit_at-lt y j) (h j l))

-- ---- one set within another

digit_within : (a b : ℕ) → a < 2 → b < 2 → (eqb a 1 ≡ true → eqb b 1 ≡ true) → min a b ≡ a
digit_within zero b p q h = omega arith
digit_within (suc zero) zero p q h = absurd (true≢false (sym (h refl)))
digit_within (suc zero) (suc b) p q h = omega arith
digit_within (suc (suc a)) b p q h = absurd (omega arith)

pub within_all : (x y : ℕ) → x < 2 ^ 64 → ((j : ℕ) → bit x j ≡ true → bit y j ≡ true) → bit_and x y ≡ x
unfolding bit
within_all x y fits h =
    same_from_bits_below 64 (bit_and x y) x (omega (arith, and_le_l x y)) fits
    (λ j l. bit_at_and x y j ∙ digit_within (bit_at x j) (bit_at y j) (bit_at-lt x j) (bit_at-lt y j) (h j))

pub within_each : (x y : ℕ) → bit_and x y ≡ x → (j : ℕ) → bit x j ≡ true → bit y j ≡ true
unfolding bit
within_each x y e j t =
    let one : bit_at x j ≡ 1 = eqb-true (bit_at x j) 1 t in
    eq-eqb (bit_at y j) 1 (omega (arith, one, bit_at-lt y j, bit_at_and x y j, ap (λ (n : ℕ). bit_at n j) e))

-- ---- the first bit from k on

-- a word without its lowest k bits
bit_shift : (x k i : ℕ) → bit (x / 2 ^ k) i ≡ bit x (k + i)
unfolding bit
bit_shift x k i = ap (λ (n : ℕ). eqb (n % 2) 1) (div-div-eq-div-mul x (2 ^ k) (2 ^ i) ∙ ap (λ (n : ℕ). x / n) (sym (pow-add 2 k i)))

module _ (x k : ℕ) where
  pub none_from : x / 2 ^ k ≡ 0 → (j : ℕ) → k ≤ j → bit x j ≡ false
  none_from e j h = ap (λ (i : ℕ). bit x i) (omega arith) ∙ sym (bit_shift x k (j - k)) ∙ ap (λ (y : ℕ). bit y (j - k)) e ∙ bit_none (j - k)

  module _ (fits : x < 2 ^ 64) (some : 0 < x / 2 ^ k) where
    lowest : (bit (x / 2 ^ k) (trailing_zeros w64 (x / 2 ^ k)) ≡ true) × ((i : ℕ) → i < trailing_zeros w64 (x / 2 ^ k) → bit (x / 2 ^ k) i ≡ false)
    unfolding bit
    lowest =
        let z = bit_at-trailing_zeros w64 (x / 2 ^ k) some (omega (arith, div-le_self x (2 ^ k))) in
        (ap (λ (n : ℕ). eqb n 1) z.1, λ i l. ap (λ (n : ℕ). eqb n 1) (z.2 i l))

    pub first_is : bit x (k + trailing_zeros w64 (x / 2 ^ k)) ≡ true
    first_is = sym (bit_shift x k _) ∙ lowest.0

    pub none_before : (i : ℕ) → k ≤ i → i < k + trailing_zeros w64 (x / 2 ^ k) → bit x i ≡ false
    none_before i h l = ap (λ (j : ℕ). bit x j) (omega arith) ∙ sym (bit_shift x k (i - k)) ∙ lowest.1 (i - k) (omega arith)

pub bit_below : (x j : ℕ) → x < 2 ^ 64 → bit x j ≡ true → j < 64
bit_below x j fits h = ⊎_elim (λ l. l) (λ (p : 64 ≤ j). absurd (true≢false (sym h ∙ bit_past x j fits p))) (cases_lt j 64)
