-- The first number in a word from one on.
use Rattle.std.specs.Prelude.{ℕ, ◌<◌, ◌≤◌, ◌≡◌, true, false}
use Rattle.word.specs.Bit.{bit}

-- none of the numbers from k on is in x
abbrev pub NoneIn : (x k : ℕ) → Type 0
NoneIn x k = (j : ℕ) → k ≤ j → bit x j ≡ false

-- j is in x, from k on, and none from k on is before it
pub record FirstIn (x k j : ℕ) : Type 0 where
  pub starts : k ≤ j
  pub low : j < 64
  pub is_in : bit x j ≡ true
  pub first : (i : ℕ) → k ≤ i → i < j → bit x i ≡ false
