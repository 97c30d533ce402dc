-- A set with one node more has less room.
use Prim.Native.Nat.{ℕ, ◌<◌, ◌≤◌}
use mathlib.Core.Path.{◌≡◌, refl, sym, ap, ◌∙◌}
use mathlib.Core.List.{List}
use mathlib.Core.Bool.{Bool, true, false, not, ◌&&◌, ◌||◌}
use mathlib.Core.Logic.{⊎_elim}
use native.Mathlib.Omega.{arith}
use lib.Dec.{eqb}
use lib.ListN.{length}
use borrow.Author.Tests.{eq-eqb, not-true, not-false}
use Rattle.std.proofs.lemmas.Bool.{cases_lt}
use Rattle.table.proofs.Booleans.{either_way, not_both, same_test, and_true_left, and_true_right, and_false_right, or_false_right}
use Rattle.table.specs.Below.{any, count}
use Rattle.table.proofs.Below.{any_which, any_some, count_le, count_strict}
use Rattle.sync.specs.Words.{member}
use Rattle.sync.specs.Room.{room}
use Rattle.word.proofs.Words.{member_past}

pub room_fits : (w : List ℕ) → room w ≤ 512
unfolding room
room_fits w = count_le (λ n. not (member w n)) 512

pub room_falls : (u v : List ℕ) (x : ℕ) → x < 512 → member u x ≡ false → ((n : ℕ) → member v n ≡ (eqb n x || member u n)) → room v < room u
unfolding room
room_falls u v x l fresh with =
    count_strict (λ n. not (member v n)) (λ n. not (member u n)) 512 x l
    (λ n h. ap not (or_false_right (eqb n x) (member u n) (sym (with n) ∙ not-true _ h)))
    (rw (with x, eq-eqb x x refl) refl)
    (ap not fresh)

-- a larger set, which has something besides
pub room_grown : (u v : List ℕ) → length u ≡ 8 → length v ≡ 8 → ((n : ℕ) → member u n ≡ true → member v n ≡ true) → (((n : ℕ) → member v n ≡ member u n) → ⊥) → room v < room u
unfolding room
room_grown u v p q keeps other = ⊎_elim grown (λ f. absurd (other (same f))) (either_way (any more 512))
  where
    more : ℕ → Bool
    more n = member v n && not (member u n)

    less : (n : ℕ) → member v n ≡ false → not (member u n) ≡ true
    less n f = ⊎_elim (λ t. not_both (member v n) (keeps n t) f) (λ o. ap not o) (either_way (member u n))

    grown : any more 512 ≡ true → count (λ n. not (member v n)) 512 < count (λ n. not (member u n)) 512
    grown h =
        let x = any_which more 512 h in
        count_strict (λ n. not (member v n)) (λ n. not (member u n)) 512 x.0 x.1
        (λ n k. less n (not-true (member v n) k))
        (ap not (and_true_left (member v x.0) _ x.2))
        (and_true_right (member v x.0) _ x.2)

    -- none of these numbers is in the larger set alone
    back : any more 512 ≡ false → (n : ℕ) → n < 512 → member v n ≡ true → member u n ≡ true
    back f n l h = not-false (member u n) (and_false_right (member v n) (not (member u n)) (⊎_elim (λ t. not_both (any more 512) (any_some more 512 n l t) f) (λ o. o) (either_way (more n))) h)

    same : any more 512 ≡ false → (n : ℕ) → member v n ≡ member u n
    same f n = same_test (member v n) (member u n) (⊎_elim (λ (l : n < 512). back f n l) (λ (l : 512 ≤ n). λ h. not_both (member v n) h (member_past v n (omega (arith, q, l)))) (cases_lt n 512)) (keeps n)
