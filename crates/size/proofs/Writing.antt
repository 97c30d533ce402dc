-- Writing numbers one after another.
use Prim.Native.Nat.{ℕ, ◌+◌, ◌<◌, ◌≤◌}
use mathlib.Core.Path.{◌≡◌, refl, sym, ap, ◌∙◌}
use mathlib.Core.List.{List, map}
use native.Mathlib.Omega.{arith}
use native.Mathlib.Decide.{ℕ_discrete}
use lib.ListN.{length, set, take, length-set}
use lib.Seq.{get_or-set_same, get_or-set_other}
use Rattle.std.proofs.lemmas.List.{get_or-take, length-take-le, map-set}
use Rattle.size.specs.Numbers.{at, Written}
use Rattle.size.specs.Size.{value_of}
use Rattle.size.specs.declared.Size.{Size}
use Rattle.size.specs.declared.Size.TheVariants.{Bytes}
use Rattle.size.proofs.Maps.{map_at}

pub written_none : (numbers : ℕ → ℕ) (old : List ℕ) → Written 0 numbers old old
written_none numbers old = record { long = refl; written = λ i h. absurd (omega arith); tail = λ i h. refl }

pub written_next : (numbers : ℕ → ℕ) (i x : ℕ) {old new : List ℕ} → Written i numbers old new → i < length old → x ≡ numbers i → Written (i + 1) numbers old (set new i x)
written_next numbers i x {old} {new} w h e = record {
  long = length-set new i x ∙ w.long;
  written = λ j k. go j k (ℕ_discrete j i);
  tail = λ j k. get_or-set_other new i j x 0 (λ q. absurd (omega arith)) ∙ w.tail j (omega arith);
}
  where
    go : (j : ℕ) → j < i + 1 → Dec (j ≡ i) → at (set new i x) j ≡ numbers j
    go j k (yes q) = rw q (get_or-set_same new i x 0 (omega (arith, w.long)) ∙ e)
    go j k (no q) = get_or-set_other new i j x 0 q ∙ w.written j (omega (arith, q))

pub written_last : (numbers : ℕ → ℕ) {count i : ℕ} {old new : List ℕ} → Written i numbers old new → i ≡ count → Written count numbers old new
written_last numbers w e = rw e at w

-- in an array of sizes, by their values
pub written_size : (numbers : ℕ → ℕ) (i : ℕ) (s : Size) {old : List ℕ} (new : List Size) → Written i numbers old (map value_of new) → i < length old → value_of s ≡ numbers i → Written (i + 1) numbers old (map value_of (set new i s))
written_size numbers i s new w h e = rw map-set (written_next numbers i (value_of s) w h e)

-- the first sizes of an array, as the code cuts them off
pub written_first : (sizes : List Size) {n : ℕ} {old new : List ℕ} → n ≤ length sizes → Written (length (take n sizes)) (at (map value_of (take n sizes))) old new → Written n (at (map value_of sizes)) old new
written_first sizes {n} {old} {new} h w =
    let e = length-take-le n sizes h in
    record {
      long = w.long;
      written = λ i k. w.written i (omega (arith, e)) ∙ sym (map_at (take n sizes) i) ∙ ap value_of (get_or-take n sizes i (Bytes 0) k) ∙ map_at sizes i;
      tail = λ i k. w.tail i (omega (arith, e));
    }
