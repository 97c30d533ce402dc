-- Document 01, "Synchronising nodes": "The set is kept as one bit for each node, in 64-bit words: node n is bit n mod 64, lowest first, of
-- word n div 64."
use Rattle.std.specs.Prelude.{ℕ, ◌^◌, ◌<◌, ◌≡◌, List, length, get_or}
pub use Rattle.word.specs.Bit.{bit}
unfoldable pub use Rattle.word.specs.Words.{member}

-- eight words of 64 bits, as an array of the code is
pub record Eight (words : List ℕ) : Type 0 where
  pub long : length words ≡ 8
  pub fit : (i : ℕ) → get_or words i 0 < 2 ^ 64
