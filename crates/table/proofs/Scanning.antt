-- What the tests of the order of kinds and of edges find, from what the code has read of a record and the one before it.
use Prim.Native.Nat.{ℕ, zero, suc, ◌-◌}
use mathlib.Core.Path.{◌≡◌, refl, ap}
use mathlib.Core.List.{List}
use mathlib.Core.Bool.{false, not, ◌&&◌}
use native.Mathlib.Omega.{arith}
use lib.Dec.{ltb}
use Rattle.table.specs.Record.{kind_of, is_edge, field_a, field_b}
use Rattle.table.specs.Checks.{out_of_order, above, not_above}

-- a record with none before it, and with one
pub in_order : (t : List ℕ) (r : ℕ) → r ≡ 0 → out_of_order t r ≡ false
unfolding out_of_order
in_order t r e = rw e refl

pub later : (t : List ℕ) (r : ℕ) → (r ≡ 0 → ⊥) → out_of_order t r ≡ ltb (kind_of t r) (kind_of t (r - 1))
unfolding out_of_order
later t zero h = absurd (h refl)
later t (suc r) h = ap (λ (q : ℕ). ltb (kind_of t (suc r)) (kind_of t q)) (omega arith)

-- and of edges
pub first_above : (t : List ℕ) (r : ℕ) → r ≡ 0 → not_above t r ≡ false
unfolding not_above
first_above t r e = rw e refl

pub later_above : (t : List ℕ) (r : ℕ) → (r ≡ 0 → ⊥)
    → not_above t r ≡ (is_edge t (r - 1) && is_edge t r && not (above (field_a t r) (field_b t r) (field_a t (r - 1)) (field_b t (r - 1))))
unfolding not_above
later_above t zero h = absurd (h refl)
later_above t (suc r) h = ap (λ (q : ℕ). is_edge t q && is_edge t (suc r) && not (above (field_a t (suc r)) (field_b t (suc r)) (field_a t q) (field_b t q))) (omega arith)
