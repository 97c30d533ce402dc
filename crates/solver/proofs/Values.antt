-- Values by number: the array of an entry, and what they start from.
use Prim.Native.Nat.{ℕ, ◌-◌, ◌<◌, ◌≤◌}
use mathlib.Core.Path.{◌≡◌, refl, sym, ap, ◌∙◌}
use mathlib.Core.List.{List, map}
use mathlib.Core.Logic.{◌≢◌}
use lib.ListN.{length, get_or, set, take, replicate}
use lib.Seq.{get_or-set_same, get_or-set_other}
use Rattle.size.specs.Size.{unbounded, cap, value_of}
use Rattle.size.specs.declared.Size.{Size}
use Rattle.size.specs.declared.Size.TheVariants.{Bytes}
use Rattle.size.proofs.Values.{value_le}
use Rattle.size.proofs.Maps.{map_at, map_zeros, at_zeros}
use Rattle.solver.specs.Causes.{Put}
use Rattle.solver.specs.declared.solution.Solution.{Solution}
use native.Mathlib.Omega.{arith}
use native.Mathlib.Decide.{dec_lt}
use borrow.Author.Tests.{lt-ltb, le-ltb}
use Rattle.std.proofs.lemmas.List.{get_or-take, length-take, get_or_past}
use Rattle.size.specs.Numbers.{at, Written}
use Rattle.solver.specs.Values.{Values, picked, value_at, values_of, number_at, starts_from}

module _ (v : Values) (x : ℕ) where
  pub value_size : x < 2304 → value_at v x ≡ at v.sizes x
  unfolding value_at
  value_size a = rw (lt-ltb x 2304 a) refl

  pub value_after : 2304 ≤ x → x < 2816 → value_at v x ≡ at v.after (x - 2304)
  unfolding value_at
  value_after a b = rw (le-ltb x 2304 a, lt-ltb x 2816 b) refl

  pub value_before : 2816 ≤ x → x < 3328 → value_at v x ≡ at v.before (x - 2816)
  unfolding value_at
  value_before a b = let l : 2304 ≤ x = omega arith in rw (le-ltb x 2304 l, le-ltb x 2816 a, lt-ltb x 3328 b) refl

  pub value_through : 3328 ≤ x → value_at v x ≡ at v.through (x - 3328)
  unfolding value_at
  value_through a =
      let l : 2304 ≤ x = omega arith in
      let m : 2816 ≤ x = omega arith in
      rw (le-ltb x 2304 l, le-ltb x 2816 m, le-ltb x 3328 a) refl

  -- an entry is the same in two values, if it is in its array
  pub value_same : (w : Values) → (x < 2304 → at w.sizes x ≡ at v.sizes x) → (2304 ≤ x → x < 2816 → at w.after (x - 2304) ≡ at v.after (x - 2304)) → (2816 ≤ x → x < 3328 → at w.before (x - 2816) ≡ at v.before (x - 2816)) → (3328 ≤ x → at w.through (x - 3328) ≡ at v.through (x - 3328)) → value_at w x ≡ value_at v x
  unfolding value_at
  value_same w f g h k = go (dec_lt x 2304) (dec_lt x 2816) (dec_lt x 3328)
    where
      go : Dec (x < 2304) → Dec (x < 2816) → Dec (x < 3328) → picked x (at w.sizes x) (at w.after (x - 2304)) (at w.before (x - 2816)) (at w.through (x - 3328)) ≡ picked x (at v.sizes x) (at v.after (x - 2304)) (at v.before (x - 2816)) (at v.through (x - 3328))
      go (yes a) b c = rw (lt-ltb x 2304 a) (f a)
      go (no a) (yes b) c = rw (le-ltb x 2304 (omega arith), lt-ltb x 2816 b) (g (omega arith) b)
      go (no a) (no b) (yes c) = rw (le-ltb x 2304 (omega arith), le-ltb x 2816 (omega arith), lt-ltb x 3328 c) (h (omega arith) c)
      go (no a) (no b) (no c) = rw (le-ltb x 2304 (omega arith), le-ltb x 2816 (omega arith), le-ltb x 3328 (omega arith)) (k (omega arith))

-- the numbers handed in, as the first of the sizes
module _ (taken : ℕ) (numbers : List ℕ) (x : ℕ) where
  pub starts_taken : x < taken → starts_from taken numbers x ≡ at numbers x
  unfolding starts_from
  starts_taken h = rw (lt-ltb x taken h) refl

  pub starts_zero : taken ≤ x → starts_from taken numbers x ≡ 0
  unfolding starts_from
  starts_zero h = rw (le-ltb x taken h) refl

  -- as the code cuts them off
  pub first_starts : at (take taken numbers) x ≡ starts_from taken numbers x
  first_starts = go (dec_lt x taken)
    where
      go : Dec (x < taken) → at (take taken numbers) x ≡ starts_from taken numbers x
      go (yes h) = get_or-take taken numbers x 0 h ∙ sym (starts_taken h)
      go (no h) = get_or_past (take taken numbers) x 0 (omega (arith, length-take taken numbers)) ∙ sym (starts_zero (omega arith))

-- ---- the code's arrays

module _ (e : Solution) (x : ℕ) where
  pub size_got : x < 2304 → value_of (get_or e.sizes x (Bytes 0)) ≡ number_at e x
  size_got a = map_at e.sizes x ∙ sym (value_size (values_of e) x a)

  pub after_got : 2304 ≤ x → x < 2816 → value_of (get_or e.after (x - 2304) (Bytes 0)) ≡ number_at e x
  after_got a b = map_at e.after (x - 2304) ∙ sym (value_after (values_of e) x a b)

  pub before_got : 2816 ≤ x → x < 3328 → value_of (get_or e.before (x - 2816) (Bytes 0)) ≡ number_at e x
  before_got a b = map_at e.before (x - 2816) ∙ sym (value_before (values_of e) x a b)

  pub through_got : 3328 ≤ x → value_of (get_or e.through (x - 3328) (Bytes 0)) ≡ number_at e x
  through_got a = map_at e.through (x - 3328) ∙ sym (value_through (values_of e) x a)

  module _ (s : Size) where
    set_here : (l : List Size) (i : ℕ) → i < length l → at (map value_of (set l i s)) i ≡ value_of s
    set_here l i h = sym (map_at (set l i s) i) ∙ ap value_of (get_or-set_same l i s (Bytes 0) h)

    set_there : (l : List Size) (i j : ℕ) → j ≢ i → at (map value_of (set l i s)) j ≡ at (map value_of l) j
    set_there l i j n = sym (map_at (set l i s) j) ∙ ap value_of (get_or-set_other l i j s (Bytes 0) n) ∙ map_at l j

    pub size_put : x < 2304 → x < length e.sizes → Put (number_at e) x (value_of s) (number_at (record { sizes = set e.sizes x s; after = e.after; before = e.before; through = e.through; turns = e.turns }))
    size_put a h = record {
      there = value_size _ x a ∙ set_here e.sizes x h;
      other = λ y n. value_same (values_of e) y _ (λ b. set_there e.sizes x y n) (λ b c. refl) (λ b c. refl) (λ b. refl);
    }

    pub after_put : 2304 ≤ x → x < 2816 → x - 2304 < length e.after → Put (number_at e) x (value_of s) (number_at (record { sizes = e.sizes; after = set e.after (x - 2304) s; before = e.before; through = e.through; turns = e.turns }))
    after_put a b h = record {
      there = value_after _ x a b ∙ set_here e.after (x - 2304) h;
      other = λ y n. value_same (values_of e) y _ (λ c. refl) (λ c d. set_there e.after (x - 2304) (y - 2304) (λ q. n (omega arith))) (λ c d. refl) (λ c. refl);
    }

    pub before_put : 2816 ≤ x → x < 3328 → x - 2816 < length e.before → Put (number_at e) x (value_of s) (number_at (record { sizes = e.sizes; after = e.after; before = set e.before (x - 2816) s; through = e.through; turns = e.turns }))
    before_put a b h = record {
      there = value_before _ x a b ∙ set_here e.before (x - 2816) h;
      other = λ y n. value_same (values_of e) y _ (λ c. refl) (λ c d. refl) (λ c d. set_there e.before (x - 2816) (y - 2816) (λ q. n (omega arith))) (λ c. refl);
    }

    pub through_put : 3328 ≤ x → x - 3328 < length e.through → Put (number_at e) x (value_of s) (number_at (record { sizes = e.sizes; after = e.after; before = e.before; through = set e.through (x - 3328) s; turns = e.turns }))
    through_put a h = record {
      there = value_through _ x a ∙ set_here e.through (x - 3328) h;
      other = λ y n. value_same (values_of e) y _ (λ c. refl) (λ c d. refl) (λ c d. refl) (λ c. set_there e.through (x - 3328) (y - 3328) (λ q. n (omega arith)));
    }

pub number_le : (e : Solution) (x : ℕ) → number_at e x ≤ unbounded
number_le e x = go (dec_lt x 2304) (dec_lt x 2816) (dec_lt x 3328)
  where
    within : (l : List Size) (i : ℕ) → at (map value_of l) i ≤ unbounded
    within l i = omega (arith, map_at l i, value_le (get_or l i (Bytes 0)))

    go : Dec (x < 2304) → Dec (x < 2816) → Dec (x < 3328) → number_at e x ≤ unbounded
    go (yes h) i j = omega (arith, value_size (values_of e) x h, within e.sizes x)
    go (no h) (yes i) j = omega (arith, value_after (values_of e) x (omega arith) i, within e.after (x - 2304))
    go (no h) (no i) (yes j) = omega (arith, value_before (values_of e) x (omega arith) j, within e.before (x - 2816))
    go (no h) (no i) (no j) = omega (arith, value_through (values_of e) x (omega arith), within e.through (x - 3328))

-- zeros, with the first numbers written over the sizes
pub starts : (e : Solution) (numbers : List ℕ) → length numbers ≤ 2304 → Written (length numbers) (λ y. cap (at numbers y)) (replicate 2304 0) (map value_of e.sizes) → e.after ≡ replicate 512 (Bytes 0) → e.before ≡ replicate 512 (Bytes 0) → e.through ≡ replicate 512 (Bytes 0) → (x : ℕ) → number_at e x ≡ cap (at numbers x)
starts e numbers few w a b t x = go (dec_lt x 2304) (dec_lt x 2816) (dec_lt x 3328)
  where
    size_is : Dec (x < length numbers) → at (map value_of e.sizes) x ≡ cap (at numbers x)
    size_is (yes h) = w.written x h
    size_is (no h) = w.tail x (omega arith) ∙ at_zeros 2304 x ∙ sym (ap cap (get_or_past numbers x 0 (omega arith)))

    sum_is : (l : List Size) (n : ℕ) → 2304 ≤ x → l ≡ replicate 512 (Bytes 0) → at (map value_of l) n ≡ cap (at numbers x)
    sum_is l n h q = ap (λ (m : List Size). at (map value_of m) n) q ∙ ap (λ (m : List ℕ). at m n) (map_zeros 512 (Bytes 0) refl) ∙ at_zeros 512 n ∙ sym (ap cap (get_or_past numbers x 0 (omega arith)))

    go : Dec (x < 2304) → Dec (x < 2816) → Dec (x < 3328) → number_at e x ≡ cap (at numbers x)
    go (yes h) i j = value_size _ x h ∙ size_is (dec_lt x (length numbers))
    go (no h) (yes i) j = value_after _ x (omega arith) i ∙ sum_is e.after (x - 2304) (omega arith) a
    go (no h) (no i) (yes j) = value_before _ x (omega arith) j ∙ sum_is e.before (x - 2816) (omega arith) b
    go (no h) (no i) (no j) = value_through _ x (omega arith) ∙ sum_is e.through (x - 3328) (omega arith) t
