-- Laws of sets kept in eight words.
use Prim.Native.Nat.{ℕ, ◌+◌, ◌*◌, ◌/◌, ◌%◌, ◌≤◌, ◌<◌}
use mathlib.Core.Path.{◌≡◌, sym, ap, ap₂, ◌∙◌}
use mathlib.Core.Bool.{Bool, ◌&&◌, ◌||◌}
use mathlib.Core.Logic.{⊎_elim}
use mathlib.Core.List.{List}
use native.Mathlib.Omega.{arith}
use lib.Dec.{ltb}
use lib.ListN.{length, get_or, set}
use lib.Seq.{ext_get_or, get_or-set_same, get_or-set_other}
use borrow.Author.Tests.{lt-ltb, le-ltb}
use Rattle.std.proofs.lemmas.Bool.{cases_lt, cases_order}
use Rattle.table.proofs.Booleans.{or_false}
use Rattle.word.proofs.Bits.{word_same}
use Rattle.word.proofs.Words.{member_past, member_at}
use Rattle.sync.specs.Words.{bit, member, Eight}

-- ---- words with the same bits are the same

pub words_same : (w v : List ℕ) → Eight w → Eight v → ((n : ℕ) → member w n ≡ member v n) → w ≡ v
words_same w v p q h = ext_get_or 0 w v (p.long ∙ sym q.long) each
  where
    each : (i : ℕ) → i < length w → get_or w i 0 ≡ get_or v i 0
    each i l = word_same 64 (get_or w i 0) (get_or v i 0) (p.fit i) (q.fit i) bits
      where
        bits : (j : ℕ) → j < 64 → bit (get_or w i 0) j ≡ bit (get_or v i 0) j
        bits j b = sym (member_at w i j b) ∙ h (64 * i + j) ∙ member_at v i j b

-- ---- two sets word by word

-- the words below i have the bits of both
abbrev pub Joined : List ℕ → List ℕ → ℕ → List ℕ → Type 0
Joined x y i w = (k j : ℕ) → bit (get_or w k 0) j ≡ (bit (get_or x k 0) j || (ltb k i && bit (get_or y k 0) j))

module _ (x y : List ℕ) where
  pub joined_none : Joined x y 0 x
  joined_none k j = rw (le-ltb k 0 (omega arith)) (sym (or_false (bit (get_or x k 0) j)))

  pub joined_more : (i r : ℕ) (w : List ℕ) → i < length w → Joined x y i w → ((j : ℕ) → bit r j ≡ (bit (get_or w i 0) j || bit (get_or y i 0) j)) → Joined x y (i + 1) (set w i r)
  joined_more i r w l h with k j = ⊎_elim here (⊎_elim (λ q. other (λ e. omega arith) (lt-ltb k i q ∙ sym (lt-ltb k (i + 1) (omega arith)))) (λ q. other (λ e. omega arith) (le-ltb k i (omega arith) ∙ sym (le-ltb k (i + 1) (omega arith))))) (cases_order k i)
    where
      here : k ≡ i → bit (get_or (set w i r) k 0) j ≡ (bit (get_or x k 0) j || (ltb k (i + 1) && bit (get_or y k 0) j))
      here e =
          ap (λ (a : ℕ). bit (get_or (set w i r) a 0) j) e
          ∙ ap (λ (a : ℕ). bit a j) (get_or-set_same w i r 0 l)
          ∙ with j
          ∙ ap (λ (b : Bool). b || bit (get_or y i 0) j) (h i j ∙ ap (λ (b : Bool). bit (get_or x i 0) j || (b && bit (get_or y i 0) j)) (le-ltb i i (omega arith)) ∙ or_false (bit (get_or x i 0) j))
          ∙ ap₂ (λ (a : ℕ) (b : Bool). bit (get_or x a 0) j || (b && bit (get_or y a 0) j)) (sym e) (sym (lt-ltb k (i + 1) (omega arith)))

      other : (k ≡ i → ⊥) → ltb k i ≡ ltb k (i + 1) → bit (get_or (set w i r) k 0) j ≡ (bit (get_or x k 0) j || (ltb k (i + 1) && bit (get_or y k 0) j))
      other d e =
          ap (λ (a : ℕ). bit a j) (get_or-set_other w i k r 0 d)
          ∙ h k j
          ∙ ap (λ (b : Bool). bit (get_or x k 0) j || (b && bit (get_or y k 0) j)) e

  pub member_union : length x ≡ 8 → length y ≡ 8 → (w : List ℕ) → length w ≡ 8 → Joined x y 8 w → (n : ℕ) → member w n ≡ (member x n || member y n)
  unfolding member
  member_union p q w s h n =
      ⊎_elim
      (λ (l : n < 512). h (n / 64) (n % 64) ∙ ap (λ (b : Bool). bit (get_or x (n / 64) 0) (n % 64) || (b && bit (get_or y (n / 64) 0) (n % 64))) (lt-ltb (n / 64) 8 (omega arith)))
      (λ (l : 512 ≤ n). member_past w n (omega (arith, s, l)) ∙ sym (ap₂ (λ (a b : Bool). a || b) (member_past x n (omega (arith, p, l))) (member_past y n (omega (arith, q, l)))))
      (cases_lt n 512)
