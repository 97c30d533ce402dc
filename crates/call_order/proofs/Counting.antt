-- Laws of `count` that `Below` lacks.
use Prim.Native.Nat.{ℕ, zero, suc, ◌<◌}
use mathlib.Core.Path.{◌≡◌, refl}
use mathlib.Core.Bool.{Bool, true, false}
use mathlib.Core.Logic.{⊎_elim}
use native.Mathlib.Omega.{arith}
use lib.Dec.{eqb}
use borrow.Author.Tests.{eq-eqb, ne_eqb}
use Rattle.table.specs.Below.{count}
use Rattle.table.proofs.Booleans.{either_way}
use Rattle.table.proofs.Below.{last_or_before, count_le, count_strict}

-- where no number passes
pub count_never : (f : ℕ → Bool) (n : ℕ) → ((k : ℕ) → k < n → f k ≡ false) → count f n ≡ 0
unfolding count
count_never f zero h = refl
count_never f (suc n) h = rw (count_never f n (λ k l. h k (omega arith)), h n (omega arith)) refl

-- where one number passes
pub count_one : (a n : ℕ) → a < n → count (λ x. eqb a x) n ≡ 1
unfolding count
count_one a zero h = absurd (omega arith)
count_one a (suc n) h =
    ⊎_elim
    (λ (e : a ≡ n). rw (count_never (λ x. eqb a x) n (λ k l. ne_eqb a k (λ q. absurd (omega arith))), eq-eqb a n e) refl)
    (λ (l : a < n). rw (count_one a n l, ne_eqb a n (λ q. absurd (omega arith))) refl)
    (last_or_before a n h)

-- where as many pass as there are, each does
pub count_full : (f : ℕ → Bool) (n : ℕ) → count f n ≡ n → (k : ℕ) → k < n → f k ≡ true
count_full f n full k h =
    ⊎_elim
    (λ (t : f k ≡ true). t)
    (λ (e : f k ≡ false). absurd (omega (arith, count_strict f (λ x. true) n k h (λ x t. refl) e refl, count_le (λ x. true) n)))
    (either_way (f k))
