-- Laws of what there is for each number below a bound.
use Prim.Native.Nat.{ℕ, zero, suc, ◌+◌, ◌<◌, ◌≤◌}
use mathlib.Core.Path.{◌≡◌, refl, sym, ap, ap₂, ◌∙◌, subst}
use mathlib.Core.Bool.{Bool, true, false, cond, ◌||◌}
use lib.Dec.{eqb}
use borrow.Author.Tests.{eq-eqb, ne_eqb}
use Rattle.std.proofs.Math.Bool.{or_comm}
use Rattle.table.proofs.Booleans.{not_both}
use mathlib.Core.List.{List, [], ◌∷◌, ◌++◌, append-nil, append_assoc}
use native.Mathlib.Omega.{arith}
use lib.ListN.{length, get_or, length-append}
use mathlib.Core.Logic.{⊎_elim}
use Rattle.std.specs.List.{All}
use Rattle.std.proofs.lemmas.Bool.{cases_lt}
use Rattle.std.proofs.lemmas.List.Elements.{All-nil, All-append}
use lib.Seq.{get_or-append_seam}
use lib.ListN.{get_or-append}
use Rattle.table.specs.Below.{any, count}
use Rattle.table.proofs.Below.{last_or_before, count_all, count_same, none_counted}
use Rattle.program_bytes.specs.Bytes.{each}

pub at_most_one : (b : Bool) → cond b 1 0 ≤ 1
at_most_one true = omega arith
at_most_one false = omega arith

counts_one : (b : Bool) → b ≡ true → ◌≡◌ {A = ℕ} (cond b 1 0) 1
counts_one b t = rw t refl

-- what passes comes later in the count than what passes before it
pub count_rises : (test : ℕ → Bool) (n i : ℕ) → i < n → test i ≡ true → count test i < count test n
unfolding count
count_rises test zero i h t = absurd (omega arith)
count_rises test (suc n) i h t =
    ⊎_elim
    (λ (e : i ≡ n). omega (arith, ap (count test) e, counts_one (test n) (ap test (sym e) ∙ t)))
    (λ (l : i < n). omega (arith, count_rises test n i l t))
    (last_or_before i n h)

pub count_grows : (test : ℕ → Bool) (m n : ℕ) → m ≤ n → count test m ≤ count test n
unfolding count
count_grows test m zero h = let none : m ≡ 0 = omega arith in omega (arith, ap (count test) none)
count_grows test m (suc n) h =
    ⊎_elim
    (λ (l : m < suc n). omega (arith, count_grows test m n (omega arith)))
    (λ (e : suc n ≤ m). let same : m ≡ suc n = omega arith in omega (arith, ap (count test) same))
    (cases_lt m (suc n))

-- up to m, and then on
pub count_apart : (test : ℕ → Bool) (m n : ℕ) → count test (m + n) ≡ count test m + count (λ i. test (m + i)) n
unfolding count
count_apart test m zero = let same : m + 0 ≡ m = omega arith in omega (arith, ap (count test) same)
count_apart test m (suc n) = let next : m + suc n ≡ suc (m + n) = omega arith in omega (arith, ap (count test) next, count_apart test m n)

-- where the test is one and the same
pub count_steady : (test : ℕ → Bool) (b : Bool) (n : ℕ) → ((i : ℕ) → i < n → test i ≡ b) → count test n ≡ cond b n 0
count_steady test true n h = count_all test n h
count_steady test false n h = none_counted test n h

module _ {X : Type 0} where
  pub each_same : (of by : ℕ → List X) (n : ℕ) → ((i : ℕ) → i < n → of i ≡ by i) → each n of ≡ each n by
  unfolding each
  each_same of by zero h = refl
  each_same of by (suc n) h = ap₂ (λ xs ys. xs ++ ys) (each_same of by n (λ i l. h i (omega arith))) (h n (omega arith))

  -- up to m, and then on
  pub each_more : (of : ℕ → List X) (m n : ℕ) → each (m + n) of ≡ each m of ++ each n (λ i. of (m + i))
  unfolding each
  each_more of m zero = let same : m + 0 ≡ m = omega arith in ap (λ (k : ℕ). each k of) same ∙ sym (append-nil (each m of))
  each_more of m (suc n) =
      let next : m + suc n ≡ suc (m + n) = omega arith in
      ap (λ (k : ℕ). each k of) next ∙ ap (λ (xs : List X). xs ++ of (m + n)) (each_more of m n) ∙ append_assoc (each m of) _ _

  pub each_nothing : (of : ℕ → List X) (n : ℕ) → ((i : ℕ) → i < n → of i ≡ []) → each n of ≡ []
  unfolding each
  each_nothing of zero h = refl
  each_nothing of (suc n) h = rw (each_nothing of n (λ i l. h i (omega arith)), h n (omega arith)) refl

  pub each_all : (P : X → Type 0) (of : ℕ → List X) (n : ℕ) → ((i : ℕ) → i < n → All P (of i)) → All P (each n of)
  unfolding each
  each_all P of zero h = All-nil P
  each_all P of (suc n) h = All-append P _ _ (each_all P of n (λ i l. h i (omega arith))) (h n (omega arith))

  -- one for each that passes a test
  module _ (x : ℕ → X) (test : ℕ → Bool) where
    abbrev pub passing : ℕ → List X
    passing n = each n (λ i. cond (test i) (x i ∷ []) [])

    pub passing_long : (n : ℕ) → length (passing n) ≡ count test n
    unfolding each count
    passing_long zero = refl
    passing_long (suc n) = length-append (passing n) _ ∙ ap₂ (λ a b. a + b) (passing_long n) (one (test n))
      where
        one : (b : Bool) → length (cond b (x n ∷ []) []) ≡ cond b 1 0
        one true = refl
        one false = refl

    -- it stands where as many pass before it
    pub passing_at : (n i : ℕ) (d : X) → i < n → test i ≡ true → get_or (passing n) (count test i) d ≡ x i
    unfolding each
    passing_at zero i d h t = absurd (omega arith)
    passing_at (suc n) i d h t =
        ⊎_elim
        (λ (e : i ≡ n). subst (λ (k : ℕ). get_or (passing n ++ cond (test k) (x k ∷ []) []) (count test i) d ≡ x i) e (rw t (last (omega (arith, passing_long n, ap (count test) e)))))
        (λ (l : i < n). get_or-append (passing n) _ d (count test i) (omega (arith, passing_long n, count_rises test n i l t)) ∙ passing_at n i d l t)
        (last_or_before i n h)
      where
        last : count test i ≡ length (passing n) → get_or (passing n ++ x i ∷ []) (count test i) d ≡ x i
        last e = ap (λ (k : ℕ). get_or (passing n ++ x i ∷ []) k d) e ∙ get_or-append_seam (passing n) (x i) [] d

    -- so each place there is has one that passes, with as many before it as there are places
    pub passing_which : (n i : ℕ) → i < length (passing n) → (p : ℕ) × (p < n) × (test p ≡ true) × (count test p ≡ i)
    unfolding each count
    passing_which zero i h = absurd (omega arith)
    passing_which (suc n) i h =
        ⊎_elim
        (λ (l : i < length (passing n)). let w = passing_which n i l in (w.0, omega (arith, w.1), w.2, w.3))
        (λ (l : length (passing n) ≤ i). go (test n) refl (omega (arith, passing_long (suc n), passing_long n)) (omega (arith, passing_long n)))
        (cases_lt i (length (passing n)))
      where
        go : (b : Bool) → test n ≡ b → i < count test n + cond b 1 0 → count test n ≤ i → (p : ℕ) × (p < suc n) × (test p ≡ true) × (count test p ≡ i)
        go true t l m = (n, omega arith, t, omega arith)
        go false t l m = absurd (omega arith)

-- one for each
module _ {X : Type 0} (x : ℕ → X) where
  pub ones_long : (n : ℕ) → length (each n (λ i. x i ∷ [])) ≡ n
  ones_long n = passing_long x (λ i. true) n ∙ count_all (λ i. true) n (λ i h. refl)

  pub ones_at : (n i : ℕ) (d : X) → i < n → get_or (each n (λ i. x i ∷ [])) i d ≡ x i
  ones_at n i d h = ap (λ (k : ℕ). get_or (each n (λ i. x i ∷ [])) k d) (sym (count_all (λ i. true) i (λ k l. refl))) ∙ passing_at x (λ i. true) n i d h refl

-- ---- what a sequence that ascends goes through

module _ {X : Type 0} (x : ℕ → X) (test : ℕ → Bool) (f : ℕ → ℕ) where
  -- the first m of it are the numbers below n that pass
  pub record Goes (m n : ℕ) : Type 0 where
    pub ascends : (e d : ℕ) → e < d → d < m → f e < f d
    pub below : (e : ℕ) → e < m → f e < n
    pub passes : (e : ℕ) → e < m → test (f e) ≡ true
    pub reaches : (p : ℕ) → p < n → test p ≡ true → (e : ℕ) × (e < m) × (f e ≡ p)

  pub goes_through : (n m : ℕ) → Goes m n → each m (λ e. x (f e) ∷ []) ≡ passing x test n
  unfolding each
  goes_through zero zero g = refl
  goes_through zero (suc m) g = absurd (omega (arith, g.below m (omega arith)))
  goes_through (suc n) m g = go (test n) refl (goes_through n)
    where
      last : (m : ℕ) → Goes m (suc n) → test n ≡ true → ((k : ℕ) → Goes k n → each k (λ e. x (f e) ∷ []) ≡ passing x test n)
          → each m (λ e. x (f e) ∷ []) ≡ passing x test n ++ x n ∷ []
      last zero g t before = let w = g.reaches n (omega arith) t in absurd (omega (arith, w.1))
      last (suc m) g t before =
          let w = g.reaches n (omega arith) t in
          let here : f m ≡ n =
          ⊎_elim
          (λ (e : w.0 ≡ m). ap f (sym e) ∙ w.2)
          (λ (l : w.0 < m). absurd (omega (arith, g.ascends w.0 m l (omega arith), g.below m (omega arith), w.2)))
          (last_or_before w.0 m w.1)
          in
          ap₂ (λ (xs : List X) (k : ℕ). xs ++ x k ∷ [])
          (before m (record {
            ascends = λ e d l h. g.ascends e d l (omega arith);
            below = λ e h. omega (arith, g.ascends e m h (omega arith), here);
            passes = λ e h. g.passes e (omega arith);
            reaches = λ p h s.
                let v = g.reaches p (omega arith) s in
                (v.0, ⊎_elim (λ (e : v.0 ≡ m). absurd (omega (arith, ap f e, here, v.2))) (λ (l : v.0 < m). l) (last_or_before v.0 m v.1), v.2);
          }))
          here

      go : (b : Bool) → test n ≡ b → ((k : ℕ) → Goes k n → each k (λ e. x (f e) ∷ []) ≡ passing x test n)
          → each m (λ e. x (f e) ∷ []) ≡ passing x test n ++ cond b (x n ∷ []) []
      go true t before = last m g t before
      go false t before =
          before m (record {
            ascends = g.ascends;
            below = λ e h. ⊎_elim (λ (i : f e ≡ n). not_both (test n) (ap test (sym i) ∙ g.passes e h) t) (λ (l : f e < n). l) (last_or_before (f e) n (g.below e h));
            passes = g.passes;
            reaches = λ p h s. g.reaches p (omega arith) s;
          })
          ∙ sym (append-nil _)

-- ---- with one number besides

pub count_with : (f : ℕ → Bool) (q n : ℕ) → q < n → count (λ p. eqb p q || f p) n ≡ count f n + cond (f q) 0 1
unfolding count
count_with f q zero h = absurd (omega arith)
count_with f q (suc n) h =
    ⊎_elim
    (λ (e : q ≡ n). subst (λ (k : ℕ). count (λ p. eqb p k || f p) (suc n) ≡ count f (suc n) + cond (f k) 0 1) (sym e) last)
    (λ (l : q < n). omega (arith, count_with f q n l, ap {B = ℕ} (λ (b : Bool). cond (b || f n) 1 0) (ne_eqb n q (λ i. absurd (omega arith)))))
    (last_or_before q n h)
  where
    none_before : count (λ p. eqb p n || f p) n ≡ count f n
    none_before = count_same (λ p. eqb p n || f p) f n (λ p l. rw (ne_eqb p n (λ i. absurd (omega arith))) refl)

    here : ◌≡◌ {A = ℕ} (cond (eqb n n || f n) 1 0) 1
    here = rw (eq-eqb n n refl) refl

    one : (b : Bool) → ◌≡◌ {A = ℕ} (cond b 1 0 + cond b 0 1) 1
    one true = refl
    one false = refl

    last : count (λ p. eqb p n || f p) (suc n) ≡ count f (suc n) + cond (f n) 0 1
    last = omega (arith, none_before, here, one (f n))

-- no more numbers pass than there are to go through
pub few_reached : (f : ℕ → ℕ) (m n : ℕ) → ((e : ℕ) → e < m → f e < n) → count (λ p. any (λ e. eqb p (f e)) m) n ≤ m
unfolding any
few_reached f zero n h = omega (arith, none_counted (λ p. false) n (λ p l. refl))
few_reached f (suc m) n h =
    omega (arith, few_reached f m n (λ e l. h e (omega arith)), count_with (λ p. any (λ e. eqb p (f e)) m) (f m) n (h m (omega arith)), one_or_none (any (λ e. eqb (f m) (f e)) m), turned)
  where
    one_or_none : (b : Bool) → cond b 0 1 ≤ 1
    one_or_none true = omega arith
    one_or_none false = omega arith

    turned : count (λ p. any (λ e. eqb p (f e)) m || eqb p (f m)) n ≡ count (λ p. eqb p (f m) || any (λ e. eqb p (f e)) m) n
    turned = count_same _ _ n (λ p l. or_comm (any (λ e. eqb p (f e)) m) (eqb p (f m)))
