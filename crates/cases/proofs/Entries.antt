-- Entries of the finite system: a test that two are one, and values with one of them changed.
use Prim.Native.Nat.{ℕ, zero, suc}
use mathlib.Core.Path.{◌≡◌, refl, sym, ap, ap₂, ◌∙◌, subst}
use mathlib.Core.Bool.{Bool, true, false, cond, ◌&&◌, ◌||◌}
use mathlib.Core.List.{List, [], ◌∷◌}
use mathlib.Core.Logic.{⊎_elim}
use lib.Dec.{eqb}
use lib.ListN.{set}
use borrow.Author.Tests.{eqb-true}
use Rattle.table.proofs.Booleans.{either_way, not_both, and_true_left, and_true_right, or_true_right}
use Rattle.size.specs.Numbers.{at}
use Rattle.rules.specs.System.{Entry, size, along}
use Rattle.rules.specs.Entries.{offset}
use Rattle.solver.specs.Values.{Values}
use Rattle.solver.proofs.Rises.{In, here, there}
use Rattle.rules.specs.declared.sums.Sum.{Sum}
use Rattle.rules.specs.declared.sums.Sum.TheVariants.{After, Before, Through}

-- ---- values of entries

abbrev sums : Sum → Values → List ℕ
sums After v = v.after
sums Before v = v.before
sums Through v = v.through

abbrev pub value_at : Values → Entry → ℕ
value_at v (size x) = at v.sizes x
value_at v (along s n) = at (sums s v) n

-- v with another array
abbrev put_sums : Sum → List ℕ → Values → Values
put_sums After l v = record { sizes = v.sizes; after = l; before = v.before; through = v.through }
put_sums Before l v = record { sizes = v.sizes; after = v.after; before = l; through = v.through }
put_sums Through l v = record { sizes = v.sizes; after = v.after; before = v.before; through = l }

abbrev put_sizes : List ℕ → Values → Values
put_sizes l v = record { sizes = l; after = v.after; before = v.before; through = v.through }

-- what is given of each sum is there for any
abbrev pub each : (P : Sum → Type 0) → P After → P Before → P Through → (s : Sum) → P s
each P a b t After = a
each P a b t Before = b
each P a b t Through = t

abbrev pub same : Entry → Entry → Bool
same (size x) (size y) = eqb x y
same (size x) (along s n) = false
same (along s n) (size x) = false
same (along r m) (along s n) = eqb (offset r) (offset s) && eqb m n

-- the sum of an offset
abbrev sum_at : ℕ → Sum
sum_at x = cond (eqb x 2304) After (cond (eqb x 2816) Before Through)

sum_at_lem : (s : Sum) → sum_at (offset s) ≡ s
sum_at_lem = each (λ s. sum_at (offset s) ≡ s) refl refl refl

pub same_is : (x y : Entry) → same x y ≡ true → x ≡ y
same_is (size x) (size y) h = ap size (eqb-true x y h)
same_is (size x) (along s n) h = not_both false h refl
same_is (along s n) (size x) h = not_both false h refl
same_is (along r m) (along s n) h =
    let e = eqb-true (offset r) (offset s) (and_true_left (eqb (offset r) (offset s)) (eqb m n) h) in
    ap₂ along (sym (sum_at_lem r) ∙ ap sum_at e ∙ sum_at_lem s) (eqb-true m n (and_true_right (eqb (offset r) (offset s)) (eqb m n) h))

abbrev pub among : Entry → List Entry → Bool
among y [] = false
among y (z ∷ l) = same y z || among y l

pub among_in : (y : Entry) (l : List Entry) → among y l ≡ true → In y l
among_in y [] h = not_both false h refl
among_in y (z ∷ l) h =
    ⊎_elim
    (λ (e : same y z ≡ true). subst (λ (i : Entry). In y (i ∷ l)) (same_is y z e) here)
    (λ (e : same y z ≡ false). there (among_in y l (or_true_right (same y z) (among y l) h e)))
    (either_way (same y z))

-- v with t at an entry; past a list's end nothing changes
abbrev pub put : Entry → ℕ → Values → Values
put (size x) t v = put_sizes (set v.sizes x t) v
put (along s n) t v = put_sums s (set (sums s v) n t) v

-- what holds of every place, and of t at i, holds with t put at i
set_all : (P : ℕ → ℕ → Type 0) (l : List ℕ) (i t : ℕ) → ((j : ℕ) → P j (at l j)) → P i t → (j : ℕ) → P j (at (set l i t) j)
set_all P [] i t h p j = h j
set_all P (x ∷ l) zero t h p zero = p
set_all P (x ∷ l) zero t h p (suc j) = h (suc j)
set_all P (x ∷ l) (suc i) t h p zero = h zero
set_all P (x ∷ l) (suc i) t h p (suc j) = set_all (λ k. P (suc k)) l i t (λ k. h (suc k)) p j

-- what holds in each list holds of every entry
pub entry_all : (P : Entry → ℕ → Type 0) (v : Values) → ((x : ℕ) → P (size x) (at v.sizes x)) → ((n : ℕ) → P (along After n) (at v.after n)) → ((n : ℕ) → P (along Before n) (at v.before n)) → ((n : ℕ) → P (along Through n) (at v.through n)) → (x : Entry) → P x (value_at v x)
entry_all P v z a b t (size x) = z x
entry_all P v z a b t (along s n) = each (λ s. P (along s n) (value_at v (along s n))) (a n) (b n) (t n) s

pub put_all : (P : Entry → ℕ → Type 0) (v : Values) (y : Entry) (t : ℕ) → ((x : Entry) → P x (value_at v x)) → P y t → (x : Entry) → P x (value_at (put y t v) x)
put_all P v y t h p = go y p
  where
    z : (x : ℕ) → P (size x) (at v.sizes x)
    z x = h (size x)

    o : (s : Sum) (n : ℕ) → P (along s n) (at (sums s v) n)
    o s n = h (along s n)

    new : (s : Sum) (i : ℕ) → P (along s i) t → (n : ℕ) → P (along s n) (at (set (sums s v) i t) n)
    new s i = set_all (λ k. P (along s k)) (sums s v) i t (o s)

    go : (y : Entry) → P y t → (x : Entry) → P x (value_at (put y t v) x)
    go (size i) p = entry_all P (put (size i) t v) (set_all (λ k. P (size k)) v.sizes i t z p) (o After) (o Before) (o Through)
    go (along s i) p =
        each (λ s. P (along s i) t → (x : Entry) → P x (value_at (put (along s i) t v) x))
        (λ p. entry_all P (put (along After i) t v) z (new After i p) (o Before) (o Through))
        (λ p. entry_all P (put (along Before i) t v) z (o After) (new Before i p) (o Through))
        (λ p. entry_all P (put (along Through i) t v) z (o After) (o Before) (new Through i p))
        s p
