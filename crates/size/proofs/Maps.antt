-- An array of sizes, as the list of their values.
use Prim.Native.Nat.{ℕ, zero, suc}
use mathlib.Core.Path.{◌≡◌, refl, sym, ap₂}
use mathlib.Core.List.{List, ◌∷◌, map}
use lib.ListN.{get_or, replicate, get_or-map}
use Rattle.size.specs.Numbers.{at}
use Rattle.size.specs.Size.{value_of}
use Rattle.size.specs.declared.Size.{Size}
use Rattle.size.specs.declared.Size.TheVariants.{Bytes}

-- an element of the values is the value of the element; past the end both are 0
pub map_at : (l : List Size) (i : ℕ) → value_of (get_or l i (Bytes 0)) ≡ at (map value_of l) i
map_at l i = sym (get_or-map value_of l i (Bytes 0))

-- zeros are 0 at every place
pub at_zeros : (n x : ℕ) → at (replicate n 0) x ≡ 0
at_zeros zero x = refl
at_zeros (suc n) zero = refl
at_zeros (suc n) (suc x) = at_zeros n x

pub map_zeros : (n : ℕ) (y : Size) → value_of y ≡ 0 → map value_of (replicate n y) ≡ replicate n 0
map_zeros zero y e = refl
map_zeros (suc n) y e = ap₂ (λ (v : ℕ) (l : List ℕ). v ∷ l) e (map_zeros n y e)
