-- Laws of sets kept in words, of any number of words.
use Prim.Native.Nat.{ℕ, ◌+◌, ◌*◌, ◌/◌, ◌%◌, ◌≤◌, ◌<◌}
use mathlib.Core.Path.{◌≡◌, sym, ap, ap₂, ◌∙◌}
use mathlib.Core.Bool.{Bool, false, ◌||◌}
use mathlib.Core.Logic.{⊎_elim}
use mathlib.Core.List.{List}
use native.Mathlib.Omega.{arith}
use lib.Dec.{eqb}
use lib.ListN.{length, get_or, set, replicate, get_or-replicate, get_or-eq_default}
use lib.Seq.{get_or-set_same, get_or-set_other}
use borrow.Author.Tests.{eq-eqb, ne_eqb}
use Rattle.std.proofs.lemmas.Bool.{cases_lt, cases_order}
use Rattle.std.proofs.lemmas.List.{length-replicate}
use Rattle.word.specs.Bit.{bit}
use Rattle.word.specs.Words.{member}
use Rattle.word.proofs.Bits.{bit_none}

module _ (w : List ℕ) where
  -- past the words there is no member
  pub member_past : (n : ℕ) → 64 * length w ≤ n → member w n ≡ false
  unfolding member
  member_past n h = ap (λ (x : ℕ). bit x (n % 64)) (get_or-eq_default w 0 (omega arith)) ∙ bit_none (n % 64)

  -- a word replaced by one with bit n mod 64 besides: the set has n besides
  pub member_with : (n r : ℕ) → n < 64 * length w → ((j : ℕ) → bit r j ≡ (eqb j (n % 64) || bit (get_or w (n / 64) 0) j)) → (m : ℕ)
      → member (set w (n / 64) r) m ≡ (eqb m n || member w m)
  unfolding member
  member_with n r hn h m =
      ⊎_elim same (⊎_elim (λ q. other (λ e. omega arith)) (λ q. other (λ e. omega arith))) (cases_order (m / 64) (n / 64))
    where
      low : m / 64 ≡ n / 64 → eqb (m % 64) (n % 64) ≡ eqb m n
      low e =
          ⊎_elim
          (λ q. eq-eqb (m % 64) (n % 64) (ap (λ (a : ℕ). a % 64) q) ∙ sym (eq-eqb m n q))
          (λ o. ne_eqb (m % 64) (n % 64) (λ q. ⊎_elim (λ a. omega arith) (λ a. omega arith) o)
          ∙ sym (ne_eqb m n (λ q. ⊎_elim (λ a. omega arith) (λ a. omega arith) o)))
          (cases_order m n)

      same : m / 64 ≡ n / 64 → member (set w (n / 64) r) m ≡ (eqb m n || member w m)
      same e =
          ap (λ (a : ℕ). bit (get_or (set w (n / 64) r) a 0) (m % 64)) e
          ∙ ap (λ (a : ℕ). bit a (m % 64)) (get_or-set_same w (n / 64) r 0 (omega arith))
          ∙ h (m % 64)
          ∙ ap₂ (λ (a b : Bool). a || b) (low e) (ap (λ (a : ℕ). bit (get_or w a 0) (m % 64)) (sym e))

      other : (m / 64 ≡ n / 64 → ⊥) → member (set w (n / 64) r) m ≡ (eqb m n || member w m)
      other d =
          ap (λ (a : ℕ). bit a (m % 64)) (get_or-set_other w (n / 64) (m / 64) r 0 d)
          ∙ ap (λ (b : Bool). b || member w m) (sym (ne_eqb m n (λ q. d (ap (λ (a : ℕ). a / 64) q))))

-- which number a bit of a word stands for
pub member_at : (w : List ℕ) (i j : ℕ) → j < 64 → member w (64 * i + j) ≡ bit (get_or w i 0) j
unfolding member
member_at w i j h =
    let d : (64 * i + j) / 64 ≡ i = omega arith in
    let m : (64 * i + j) % 64 ≡ j = omega arith in
    ap₂ (λ (a b : ℕ). bit (get_or w a 0) b) d m

-- words that are all 0 have no member
pub member_empty : (k n : ℕ) → member (replicate k 0) n ≡ false
unfolding member
member_empty k n =
    ⊎_elim
    (λ (h : n / 64 < k). ap (λ (x : ℕ). bit x (n % 64)) (get_or-replicate k (n / 64) 0 0 h) ∙ bit_none (n % 64))
    (λ (h : k ≤ n / 64). member_past (replicate k 0) n (rw (length-replicate {A = ℕ} k 0) (omega arith)))
    (cases_lt (n / 64) k)
