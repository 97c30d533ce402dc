-- Document 02, "Frames from the compiler's report": the bytes that part a line, and what may stand between them.
use Rattle.std.specs.Prelude.{ℕ, ◌-◌, Bool, not, ◌&&◌, ◌||◌, eqb, leb, ltb, List, length, get_or}
use Rattle.std.specs.List.{list_all}
use Rattle.std.specs.Str.{all_ascii_digits}
use Rattle.std.specs.Str.Parse.{digits_value}

abbrev pub tab : ℕ
tab = 9

abbrev pub line_feed : ℕ
line_feed = 10

abbrev pub colon : ℕ
colon = 58

-- the bytes end in this one
abbrev pub ends_in : ℕ → List ℕ → Bool
ends_in byte bytes = ltb 0 (length bytes) && eqb (get_or bytes (length bytes - 1) 0) byte

-- "a place that ends in a colon", "A place holds no tab and may be the colon alone". It is taken from a line, so it holds no line feed.
unfoldable pub is_place : List ℕ → Bool
is_place bytes = ends_in colon bytes && list_all (λ b. not (eqb b tab || eqb b line_feed)) bytes

-- "a name is 1 to 64 bytes without tab, colon or line feed"
unfoldable pub is_name : List ℕ → Bool
is_name bytes = leb 1 (length bytes) && leb (length bytes) 64 && list_all (λ b. not (eqb b tab || eqb b colon || eqb b line_feed)) bytes

-- "A count is one or more digits, leading zeros allowed."
unfoldable pub is_count : List ℕ → Bool
is_count bytes = leb 1 (length bytes) && all_ascii_digits bytes

-- "a byte count in decimal": the number that they write
abbrev pub value : List ℕ → ℕ
value digits = digits_value 10 digits
