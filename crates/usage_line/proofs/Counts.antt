-- The value of a count, digit by digit.
use Rattle.std.proofs.Common.{◌≡◌, ℕ, ◌+◌, ◌-◌, ◌*◌, ◌<◌, ◌≤◌, min, true, List, length, get_or, take, refl, ⊎_elim, arith}
use Rattle.std.proofs.Common.{Result, Ok, Err, MatchOption}
use Rattle.std.specs.Result.{OkIff, result_ok}
use Rattle.std.specs.Char.{is_ascii_digit}
use Rattle.std.specs.Str.{all_ascii_digits}
use Rattle.std.proofs.lemmas.Bool.{and_parts, leb-true, cases_lt}
use Rattle.std.proofs.lemmas.Int.Digits.{digits_value_more}
use Rattle.std.proofs.lemmas.List.Recursion.{and_at}
use Rattle.std.proofs.lemmas.Str.{digit_value_digit}
use Rattle.usage_line.specs.Bytes.{is_count, value}

module _ (digits : List ℕ) (is : is_count digits ≡ true) (i : ℕ) (l : i < length digits) where
  is_digit : is_ascii_digit (get_or digits i 0) ≡ true
  unfolding is_count
  is_digit = and_at all_ascii_digits is_ascii_digit refl (λ _ _. refl) digits i 0 l (and_parts _ _ is).1

  pub digit_low : 48 ≤ get_or digits i 0
  digit_low = let parts = and_parts _ _ is_digit in leb-true 48 (get_or digits i 0) parts.0

  pub digit_high : get_or digits i 0 ≤ 57
  digit_high = let parts = and_parts _ _ is_digit in leb-true (get_or digits i 0) 57 parts.1

  pub value_more : (so_far : ℕ) → so_far ≡ min (value (take i digits)) 65536 → min (so_far * 10 + (get_or digits i 0 - 48)) 65536 ≡ min (value (take (i + 1) digits)) 65536
  value_more so_far e = omega (arith, digits_value_more 10 digits i l, digit_value_digit (get_or digits i 0) (digit_low, digit_high), digit_low)

-- as 16 bits
pub count_by : {E : Type 0} → (value so_far : ℕ) → so_far ≡ min value 65536 → (answer : Result ℕ E) → OkIff answer (so_far < 65536) so_far → MatchOption (result_ok answer) (65535 < value) (λ count. (value ≤ 65535) × (count ≡ value))
count_by value so_far e (Ok count) h = (omega arith, omega (arith, h.0, h.1))
count_by value so_far e (Err x) h =
    ⊎_elim
    (λ (low : so_far < 65536). absurd (h low))
    (λ (high : 65536 ≤ so_far). let over : 65535 < value = omega (arith, e) in over)
    (cases_lt so_far 65536)
