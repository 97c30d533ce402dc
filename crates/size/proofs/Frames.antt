-- Laws of what a frame counts as.
use Prim.Native.Nat.{ℕ, ◌≤◌, ◌%◌}
use mathlib.Core.Path.{◌≡◌, refl}
use native.Mathlib.Omega.{arith}
use Rattle.std.specs.Int.{next_multiple_of}
use Rattle.size.specs.Size.{aligned, size_of}
use Rattle.size.specs.declared.Size.TheVariants.{Bytes, Unbounded}
use Rattle.size.proofs.Values.{size_bytes, size_unbounded}

-- "rounded up to a multiple of 16": the least one that is so many bytes or more
pub aligned_multiple : (b : ℕ) → aligned b % 16 ≡ 0
unfolding aligned
aligned_multiple b = omega arith

pub aligned_enough : (b : ℕ) → b ≤ aligned b
unfolding aligned
aligned_enough b = omega arith

pub aligned_least : (b m : ℕ) → b ≤ m → m % 16 ≡ 0 → aligned b ≤ m
unfolding aligned
aligned_least b m h e = omega (arith, h, e)

-- "Frames of 65,521 and more are unbounded by that", and none below
pub frame_bytes : (n b : ℕ) → n ≡ next_multiple_of b 16 → b ≤ 65520 → Bytes n ≡ size_of (aligned b)
unfolding aligned
frame_bytes n b e h = size_bytes n _ e (omega (arith, e))

pub frame_unbounded : (b : ℕ) → 65521 ≤ b → Unbounded ≡ size_of (aligned b)
unfolding aligned
frame_unbounded b h = size_unbounded _ (omega arith)

-- at the ends of the first multiples and of the last one that is a number of bytes
pub frame_cases : (size_of (aligned 0) ≡ Bytes 0) × (size_of (aligned 1) ≡ Bytes 16) × (size_of (aligned 16) ≡ Bytes 16) × (size_of (aligned 17) ≡ Bytes 32) × (size_of (aligned 65520) ≡ Bytes 65520) × (size_of (aligned 65521) ≡ Unbounded)
unfolding size_of aligned
frame_cases = (refl, refl, refl, refl, refl, refl)
