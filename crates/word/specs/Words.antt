-- Sets kept in words, "lowest first": number n is bit n mod 64 of word n div 64.
use Rattle.std.specs.Prelude.{ℕ, ◌/◌, ◌%◌, List, Bool, get_or}
use Rattle.word.specs.Bit.{bit}

-- the set that the words keep; past the last word there is none
unfoldable pub member : List ℕ → ℕ → Bool
member words n = bit (get_or words (n / 64) 0) (n % 64)
