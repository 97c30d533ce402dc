-- Lists of numbers as maps, and what is written to a buffer of numbers.
use Rattle.std.specs.Prelude.{ℕ, ◌<◌, ◌≤◌, ◌≡◌, List, length, get_or}

-- A list of numbers as a map: by place, and 0 past its end.
abbrev pub at : List ℕ → ℕ → ℕ
at l i = get_or l i 0

-- "Numbers past the needed [..] keep their old content": the first of the numbers are written, and no others.
pub record Written (count : ℕ) (numbers : ℕ → ℕ) (old new : List ℕ) : Type 0 where
  pub long : length new ≡ length old
  pub written : (i : ℕ) → i < count → at new i ≡ numbers i
  pub tail : (i : ℕ) → count ≤ i → at new i ≡ at old i
