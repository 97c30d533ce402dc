-- Document 01, "Sizes and their rules": sizes as numbers, what each case of the code's `Size` stands for, and what a frame counts as.
use Rattle.std.specs.Prelude.{ℕ, min, cond, ltb}
use Rattle.std.specs.Int.{next_multiple_of}
use Rattle.size.specs.declared.Size.{Size}
use Rattle.size.specs.declared.Size.TheVariants.{Bytes, Unbounded}

-- "A size is either a number of bytes up to 65,535 or unbounded. Unbounded is above every number." It is written as 65,536.
abbrev pub unbounded : ℕ
unbounded = 65536

-- "A sum above 65,535, or with an unbounded part, is unbounded": a sum is added up in plain numbers, and what comes out is this size.
abbrev pub cap : ℕ → ℕ
cap x = min x unbounded

-- the number that each case of `Size` stands for; no value of it stands for more than unbounded
abbrev pub value_of : Size → ℕ
value_of (Bytes n) = cap n
value_of Unbounded = unbounded

-- the case that a number is written as: "a number of bytes up to 65,535 or unbounded". What the code makes is always this.
unfoldable pub size_of : ℕ → Size
size_of n = cond (ltb n unbounded) (Bytes n) Unbounded

-- Document 02, Ask 6: "A frame counts as its bytes rounded up to a multiple of 16 [..]. Frames of 65,521 and more are unbounded by that."
unfoldable pub aligned : ℕ → ℕ
aligned bytes = next_multiple_of bytes 16
