-- Numbers as text: the library spells a number of 64 bits alike.
use Prim.Native.Nat.{ℕ, ◌<◌, ◌^◌}
use mathlib.Core.Path.{◌≡◌, sym}
use native.Mathlib.Omega.{arith}
use Rattle.std.proofs.Common.{rules}
use Rattle.std.specs.Fmt.{decimal as std_decimal}
use Rattle.std.proofs.lemmas.Fmt.{AppendsLastDigit, decimal_from_appends, length-decimal-le}
use Rattle.text.specs.Listing.{digits, decimal}

pub decimal_is : (n : ℕ) → n < 2 ^ 64 → std_decimal n ≡ decimal n
unfolding decimal digits
decimal_is n h = sym (decimal_from_appends digits spells 20 n h (length-decimal-le 20 n (omega arith) (omega arith) h))
  where
    spells : AppendsLastDigit digits
    spells = search rules
