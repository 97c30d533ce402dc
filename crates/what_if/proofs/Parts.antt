-- Parts of a list that stand one after another, each of the same length, and one of them replaced.
use Prim.Native.Nat.{ℕ, ◌+◌, ◌-◌, ◌*◌, ◌<◌, ◌≤◌}
use mathlib.Core.Path.{◌≡◌, refl, sym, ap, ◌∙◌}
use mathlib.Core.List.{List, ◌++◌}
use native.Mathlib.Nat.{mul-add, mul-one, mul-le-mul_left}
use native.Mathlib.Omega.{arith}
use lib.ListN.{length, take, drop, get_or, length-drop, length-append, take-append-drop}
use lib.Seq.{length-take-le, get_or-take, get_or-drop, take_at, drop_at, drop-drop, take-append-le, drop-append-le}
use Rattle.what_if.specs.Call.{part}

-- the next part begins where this one ends
pub part_next : (long i : ℕ) → long * (i + 1) ≡ long * i + long
part_next long i = mul-add long i 1 ∙ ap (λ (n : ℕ). long * i + n) (mul-one long)

-- each of them ends within the whole
pub part_within : (long : ℕ) {i number : ℕ} → i < number → long * i + long ≤ long * number
part_within long {i} {number} h =
    let next : i + 1 ≤ number = omega (arith, h) in
    omega (arith, mul-le-mul_left {m = i + 1} {n = number} long next, part_next long i)

pub part_long : (long i : ℕ) (list : List ℕ) → long * i + long ≤ length list → length (part long i list) ≡ long
part_long long i list h = length-take-le long (drop (long * i) list) (omega (arith, length-drop (long * i) list, h))

pub part_at : (long i n : ℕ) (list : List ℕ) → n < long → get_or (part long i list) n 0 ≡ get_or list (long * i + n) 0
part_at long i n list h = get_or-take long (drop (long * i) list) n 0 h ∙ get_or-drop (long * i) list n 0

-- the list with another part i
abbrev pub put : (long i : ℕ) → (now set : List ℕ) → List ℕ
put long i now set = take (long * i) now ++ (set ++ drop long (drop (long * i) now))

-- from place a on n elements are lent, and come back: this is part i
module _ {a n long : ℕ} (i : ℕ) (starts : a ≡ long * i) (many : n ≡ long) where
  cut : a + n - a ≡ long
  cut = omega (arith, many)

  pub part_lent : (list : List ℕ) → take (a + n - a) (drop a list) ≡ part long i list
  part_lent list = rw (cut, starts) refl

  pub put_lent : (now set : List ℕ) → take a now ++ (set ++ drop (a + n - a) (drop a now)) ≡ put long i now set
  put_lent now set = rw (cut, starts) refl

module _ (long i : ℕ) (now set : List ℕ) (size : length set ≡ long) (within : long * i + long ≤ length now) where
  front : length (take (long * i) now) ≡ long * i
  front = length-take-le (long * i) now (omega (arith, within))

  pub put_long : length (put long i now set) ≡ length now
  put_long =
      length-append (take (long * i) now) (set ++ drop long (drop (long * i) now))
      ∙ omega (arith, front, size, within, length-append set (drop long (drop (long * i) now)), length-drop long (drop (long * i) now), length-drop (long * i) now)

  behind_front : drop (long * i) (put long i now set) ≡ set ++ drop long (drop (long * i) now)
  behind_front = drop_at (take (long * i) now) (set ++ drop long (drop (long * i) now)) (long * i) front

  pub put_here : part long i (put long i now set) ≡ set
  put_here = ap (take long) behind_front ∙ take_at set (drop long (drop (long * i) now)) long size

  pub put_tail : drop (long * i + long) (put long i now set) ≡ drop (long * i + long) now
  put_tail =
      sym (drop-drop long (long * i) (put long i now set))
      ∙ ap (drop long) behind_front
      ∙ drop_at set (drop long (drop (long * i) now)) long size
      ∙ drop-drop long (long * i) now

  -- what stands in front is as it was
  in_front : (j : ℕ) → long * j + long ≤ long * i → (behind : List ℕ) → part long j (take (long * i) now ++ behind) ≡ take long (drop (long * j) (take (long * i) now))
  in_front j h behind =
      ap (take long) (drop-append-le (long * j) (take (long * i) now) behind (omega (arith, front, h)))
      ∙ take-append-le long (drop (long * j) (take (long * i) now)) behind (omega (arith, front, h, length-drop (long * j) (take (long * i) now)))

  pub put_before : (j : ℕ) → j < i → part long j (put long i now set) ≡ part long j now
  put_before j h =
      in_front j (part_within long h) (set ++ drop long (drop (long * i) now))
      ∙ sym (in_front j (part_within long h) (drop (long * i) now))
      ∙ ap (part long j) (take-append-drop (long * i) now)
