-- Laws of sizes as numbers.
use Prim.Native.Nat.{ℕ, ◌<◌, ◌≤◌}
use mathlib.Core.Path.{◌≡◌, refl, sym, ap, ◌∙◌}
use native.Mathlib.Omega.{arith}
use native.Mathlib.Decide.{dec_lt}
use borrow.Author.Tests.{lt-ltb, le-ltb}
use Rattle.size.specs.Size.{unbounded, cap, value_of, size_of}
use Rattle.size.specs.declared.Size.{Size}
use Rattle.size.specs.declared.Size.TheVariants.{Bytes, Unbounded}

-- no size is above unbounded
pub value_le : (s : Size) → value_of s ≤ unbounded
value_le (Bytes n) = omega arith
value_le Unbounded = omega arith

-- the two cases of a number
pub size_bytes : (n k : ℕ) → n ≡ k → k < unbounded → Bytes n ≡ size_of k
unfolding size_of
size_bytes n k e h = rw (e, lt-ltb k unbounded h) refl

pub size_unbounded : (k : ℕ) → unbounded ≤ k → Unbounded ≡ size_of k
unfolding size_of
size_unbounded k h = rw (le-ltb k unbounded h) refl

-- its value is the capped number
pub value_size : (k : ℕ) → value_of (size_of k) ≡ cap k
value_size k = go (dec_lt k unbounded)
  where
    go : Dec (k < unbounded) → value_of (size_of k) ≡ cap k
    go (yes h) = ap value_of (sym (size_bytes k k refl h))
    go (no h) = ap value_of (sym (size_unbounded k (omega arith))) ∙ omega arith

pub value_is : (s : Size) (k : ℕ) → s ≡ size_of k → value_of s ≡ cap k
value_is s k e = ap value_of e ∙ value_size k
