-- Laws of tests: of all numbers below a bound, and of one thing or another.
use Prim.Native.Nat.{ℕ, zero, suc, ◌<◌}
use mathlib.Core.Path.{◌≡◌, refl, ap, ◌∙◌}
use mathlib.Core.Bool.{Bool, true, false, cond, ◌&&◌}
use mathlib.Core.Logic.{⊎_elim}
use native.Mathlib.Omega.{arith}
use Rattle.table.proofs.Below.{last_or_before}
use Rattle.table.proofs.Booleans.{and_true_left, and_true_right, not_both}

-- whether every number below n passes the test
unfoldable pub every : (ℕ → Bool) → ℕ → Bool
every test zero = true
every test (suc n) = every test n && test n

pub every_each : (f : ℕ → Bool) (n : ℕ) → every f n ≡ true → (k : ℕ) → k < n → f k ≡ true
unfolding every
every_each f zero e k h = absurd (omega arith)
every_each f (suc n) e k h =
    ⊎_elim
    (λ (i : k ≡ n). ap f i ∙ and_true_right (every f n) (f n) e)
    (every_each f n (and_true_left (every f n) (f n) e) k)
    (last_or_before k n h)

-- which of two tests counts is decided by a third
pub cond_true : (a b c : Bool) → cond a b c ≡ true → a ≡ true → b ≡ true
cond_true true b c e h = e
cond_true false b c e h = not_both false h refl

pub cond_false : (a b c : Bool) → cond a b c ≡ true → a ≡ false → c ≡ true
cond_false true b c e h = not_both true refl h
cond_false false b c e h = e
