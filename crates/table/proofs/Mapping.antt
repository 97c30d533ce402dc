-- What `map` makes of an array where no call of the closure changes what it captures: each item as one call gives it.
use Rattle.std.proofs.Common.{◌≡◌, ℕ, zero, suc, ◌+◌, ◌<◌, ◌≤◌, List, get_or, refl, subst, ⊎_elim, eq-or-lt_of_le, arith}
use denote.Param.Members.{Mut}
use Rattle.std.specs.Fn.{Called}
use Rattle.std.specs.Array.{MapsFrom, IsMapOf}

module _ {F : Type 0} (g : Mut F (ℕ × Unit {0}) ℕ) (P : ℕ → ℕ → Type 0) (f : F) (call : (x y : ℕ) (q : F) → Called g f (x, tt) y q → (q ≡ f) × P x y) (xs ys : List ℕ) where
  -- place j, of the n from i on: the calls before it leave the closure as it was
  mapped_at : (n i : ℕ) (p : F) → p ≡ f → MapsFrom g p xs ys i n → (j : ℕ) → i ≤ j → j < i + n → P (get_or xs j 0) (get_or ys j 0)
  mapped_at zero i p a m j l b = absurd (omega arith)
  mapped_at (suc n) i p a (q, x, y, (is_x, at_x), (is_y, at_y), c, rest) j l b =
      let one = call x y q (subst (λ (z : F). Called g z (x, tt) y q) a c) in
      ⊎_elim
      (λ (e : i ≡ j). subst (λ (k : ℕ). P (get_or xs k 0) (get_or ys k 0)) e (rw (at_x 0, at_y 0) one.1))
      (λ (u : i < j). mapped_at n (i + 1) q one.0 rest j (omega arith) (omega arith))
      (eq-or-lt_of_le l)

  pub mapped_each : (n : ℕ) → IsMapOf g f xs ys n → (i : ℕ) → i < n → P (get_or xs i 0) (get_or ys i 0)
  mapped_each n m i l = mapped_at n 0 f refl m.each i (omega arith) (omega arith)
