-- The numbers below a bound: the least that passes a test, whether one does, and how many do.
use Rattle.std.specs.Prelude.{ℕ, zero, suc, ◌+◌, Bool, false, cond, ◌||◌, Option, None, Some}
use Rattle.std.specs.Option.{option_or}

-- the least number below n that passes the test, if one does
unfoldable pub earliest : (ℕ → Bool) → ℕ → Option ℕ
earliest test zero = None
earliest test (suc n) = option_or (earliest test n) (cond (test n) (Some n) None)

-- whether a number below n passes the test
unfoldable pub any : (ℕ → Bool) → ℕ → Bool
any test zero = false
any test (suc n) = any test n || test n

-- how many numbers below n pass the test
unfoldable pub count : (ℕ → Bool) → ℕ → ℕ
count test zero = 0
count test (suc n) = count test n + cond (test n) 1 0
