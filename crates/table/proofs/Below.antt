-- Laws of `earliest`, `any` and `count`, for any test.
use Prim.Native.Nat.{ℕ, zero, suc, ◌+◌, ◌<◌, ◌≤◌}
use mathlib.Core.Path.{◌≡◌, refl, sym, ap, ◌∙◌, subst}
use mathlib.Core.List.{List}
use mathlib.Core.Bool.{Bool, true, false, not, cond, ◌&&◌, ◌||◌}
use mathlib.Core.Logic.{◌⊎◌, ⊎_elim}
use Rattle.std.specs.Prelude.{Option, None, Some, MatchOption, unwrap_or, is_none}
use Rattle.std.specs.Option.{option_or}
use Rattle.table.proofs.Booleans.{some_not_none}
use native.Mathlib.Nat.{eq-or-lt_of_le}
use native.Mathlib.Omega.{arith}
use native.Mathlib.Numerals.{add-one}
use lib.Dec.{leb, ltb}
use borrow.Author.Tests.{leb-false, lt-ltb, le-ltb}
use borrow.Author.Count.{below_more}
use Rattle.table.specs.Below.{earliest, any, count}
use Rattle.table.specs.Record.{records, is_function, functions}
use Rattle.table.proofs.Booleans.{not_both, or_true}

-- below a bound, and one more: the last one or one before it
pub last_or_before : (k n : ℕ) → k < suc n → (k ≡ n) ⊎ (k < n)
last_or_before k n h = eq-or-lt_of_le (omega arith)

-- ---- earliest

neither : (o : Option ℕ) (b : Bool) (n : ℕ) → option_or o (cond b (Some n) None) ≡ None → (o ≡ None) × (b ≡ false)
neither None true n e = absurd (some_not_none n e)
neither None false n e = (refl, refl)
neither (Some p) b n e = absurd (some_not_none p e)

module _ (f : ℕ → Bool) where
  -- none passes: none is found, and the other way round
  pub earliest_none : (n : ℕ) → ((k : ℕ) → k < n → f k ≡ false) → earliest f n ≡ None
  unfolding earliest
  earliest_none zero h = refl
  earliest_none (suc n) h = rw (earliest_none n (λ k l. h k (omega arith)), h n (omega arith)) refl

  pub earliest_passed : (n : ℕ) → earliest f n ≡ None → (k : ℕ) → k < n → f k ≡ false
  unfolding earliest
  earliest_passed zero e k h = absurd (omega arith)
  earliest_passed (suc n) e k h =
      let w = neither (earliest f n) (f n) n e in
      ⊎_elim (λ (i : k ≡ n). ap f i ∙ w.1) (λ (l : k < n). earliest_passed n w.0 k l) (last_or_before k n h)

  -- the least one that passes is found, however far the search goes on
  pub earliest_some : (n r : ℕ) → r < n → ((k : ℕ) → k < r → f k ≡ false) → f r ≡ true → earliest f n ≡ Some r
  unfolding earliest
  earliest_some zero r l b h = absurd (omega arith)
  earliest_some (suc n) r l b h =
      ⊎_elim
      (λ (e : r ≡ n). subst (λ (m : ℕ). option_or (earliest f m) (cond (f m) (Some m) None) ≡ Some r) e (rw (earliest_none r b, h) refl))
      (λ (l : r < n). rw (earliest_some n r l b h) refl)
      (last_or_before r n l)

  -- what a search over the numbers from 0 gives is the least one
  pub earliest_by : (n : ℕ) (o : Option ℕ)
      → MatchOption o ((k : ℕ) → 0 ≤ k → k < n → f k ≡ false) (λ r. (0 ≤ r) × (r < n) × (f r ≡ true) × ((k : ℕ) → 0 ≤ k → k < r → f k ≡ false))
      → o ≡ earliest f n
  earliest_by n None h = sym (earliest_none n (λ k l. h k (omega arith) l))
  earliest_by n (Some r) h = sym (earliest_some n r h.1 (λ k l. h.3 k (omega arith) l) h.2)

  pub earliest_found : (n r : ℕ) → earliest f n ≡ Some r → (r < n) × (f r ≡ true)
  unfolding earliest
  earliest_found zero r e = absurd (some_not_none r (sym e))
  earliest_found (suc n) r e = go (earliest f n) refl (f n) refl e (earliest_found n r)
    where
      go : (o : Option ℕ) → earliest f n ≡ o → (b : Bool) → f n ≡ b → option_or o (cond b (Some n) None) ≡ Some r → (earliest f n ≡ Some r → (r < n) × (f r ≡ true)) → (r < suc n) × (f r ≡ true)
      go (Some p) h b k e ih = let w = ih (h ∙ e) in (omega (arith, w.0), w.1)
      go None h true k e ih = let i : n ≡ r = cc in (omega arith, ap f (sym i) ∙ k)
      go None h false k e ih = absurd (some_not_none r (sym e))

  -- however far the search goes on
  pub earliest_before : (n r : ℕ) → earliest f n ≡ Some r → (k : ℕ) → k < r → f k ≡ false
  unfolding earliest
  earliest_before zero r e = absurd (some_not_none r (sym e))
  earliest_before (suc n) r e = go (earliest f n) refl (f n) refl e (earliest_before n r)
    where
      go : (o : Option ℕ) → earliest f n ≡ o → (b : Bool) → f n ≡ b → option_or o (cond b (Some n) None) ≡ Some r → (earliest f n ≡ Some r → (k : ℕ) → k < r → f k ≡ false) → (k : ℕ) → k < r → f k ≡ false
      go (Some p) h b t e ih = ih (h ∙ e)
      go None h true t e ih = let i : n ≡ r = cc in λ k l. earliest_passed n h k (omega arith)
      go None h false t e ih = absurd (some_not_none r (sym e))

-- ---- any

module _ (f : ℕ → Bool) where
  pub any_none : (n : ℕ) → ((k : ℕ) → k < n → f k ≡ false) → any f n ≡ false
  unfolding any
  any_none zero h = refl
  any_none (suc n) h = rw (any_none n (λ k l. h k (omega arith)), h n (omega arith)) refl

  pub any_some : (n k : ℕ) → k < n → f k ≡ true → any f n ≡ true
  unfolding any
  any_some zero k l h = absurd (omega arith)
  any_some (suc n) k l h =
      ⊎_elim
      (λ (e : k ≡ n). rw (← e, h) (or_true (any f k)))
      (λ (l : k < n). rw (any_some n k l h) refl)
      (last_or_before k n l)

  -- and one that does
  pub any_which : (n : ℕ) → any f n ≡ true → (k : ℕ) × (k < n) × (f k ≡ true)
  unfolding any
  any_which zero e = not_both false e refl
  any_which (suc n) e = go (any f n) refl e (any_which n)
    where
      go : (b : Bool) → any f n ≡ b → (b || f n) ≡ true → (any f n ≡ true → (k : ℕ) × (k < n) × (f k ≡ true)) → (k : ℕ) × (k < suc n) × (f k ≡ true)
      go true h e ih = let w = ih h in (w.0, omega (arith, w.1), w.2)
      go false h e ih = (n, omega arith, e)

-- one more number, as a loop counts it
pub any_more : (f : ℕ → Bool) (n : ℕ) → any f (n + 1) ≡ (any f n || f n)
unfolding any
any_more f n = rw add-one refl

-- ---- a search upwards

-- one more number that the test does not pass
pub passed_more : (f : ℕ → Bool) (i : ℕ) → ((k : ℕ) → k < i → f k ≡ false) → f i ≡ false → (k : ℕ) → k < i + 1 → f k ≡ false
passed_more f i h e = below_more _ _ h e

-- whether one passes at all
pub any_told : (f : ℕ → Bool) (n : ℕ) → not (any f n) ≡ is_none (earliest f n)
any_told f n = go (earliest f n) refl
  where
    go : (o : Option ℕ) → earliest f n ≡ o → not (any f n) ≡ is_none o
    go None e = rw (any_none f n (earliest_passed f n e)) refl
    go (Some r) e = let w = earliest_found f n r e in rw (any_some f n r w.0 w.1) refl

-- the first that passes stays the first
pub earliest_stays : (test : ℕ → Bool) {i : ℕ} (j : ℕ) → earliest test j ≡ Some i → earliest test (j + 1) ≡ Some i
earliest_stays test {i} j e = earliest_some test (j + 1) i (omega (arith, (earliest_found test j i e).0)) (earliest_before test j i e) (earliest_found test j i e).1

-- a second search, below where the first stopped: the first of either
pub earliest_either : (f g : ℕ → Bool) (n : ℕ) → option_or (earliest g (unwrap_or (earliest f n) n)) (earliest f n) ≡ earliest (λ k. f k || g k) n
earliest_either f g n = go (earliest f n) refl
  where
    either : (k : ℕ) → f k ≡ false → g k ≡ false → (f k || g k) ≡ false
    either k a b = rw (a, b) refl

    -- the second search goes up to m, below which the first finds none
    up_to : (m : ℕ) → ((k : ℕ) → k < m → f k ≡ false) → (o : Option ℕ) → earliest g m ≡ o → (last : Option ℕ) → (o ≡ None → last ≡ earliest (λ k. f k || g k) n) → m ≤ n → option_or o last ≡ earliest (λ k. f k || g k) n
    up_to m none (Some r) e last h le =
        let w = earliest_found g m r e in
        let b = earliest_before g m r e in
        sym (earliest_some (λ k. f k || g k) n r (omega (arith, w.0)) (λ k l. either k (none k (omega (arith, w.0))) (b k l)) (rw w.1 (or_true (f r))))
    up_to m none None e last h le = h refl

    go : (o : Option ℕ) → earliest f n ≡ o → option_or (earliest g (unwrap_or o n)) o ≡ earliest (λ k. f k || g k) n
    go None e =
        let none = earliest_passed f n e in
        up_to n none (earliest g n) refl None (λ h. sym (earliest_none (λ k. f k || g k) n (λ k l. either k (none k l) (earliest_passed g n h k l)))) (omega arith)
    go (Some a) e =
        let w = earliest_found f n a e in
        let none = earliest_before f n a e in
        up_to a none (earliest g a) refl (Some a) (λ h. sym (earliest_some (λ k. f k || g k) n a w.0 (λ k l. either k (none k l) (earliest_passed g a h k l)) (rw w.1 refl))) (omega (arith, w.0))

-- ---- count

pub count_none : (f : ℕ → Bool) → count f 0 ≡ 0
unfolding count
count_none f = refl

pub count_le : (f : ℕ → Bool) (n : ℕ) → count f n ≤ n
unfolding count
count_le f zero = omega arith
count_le f (suc n) = omega (arith, count_le f n, at_most_one (f n))
  where
    at_most_one : (b : Bool) → cond b 1 0 ≤ 1
    at_most_one true = omega arith
    at_most_one false = omega arith

-- one more number, as a loop counts it
pub count_more : (f : ℕ → Bool) (n : ℕ) → count f (n + 1) ≡ count f n + cond (f n) 1 0
unfolding count
count_more f n = rw add-one refl

-- with at most L before each that passes, there are at most L
pub count_limit : (f : ℕ → Bool) (limit n : ℕ) → ((k : ℕ) → k < n → (f k && leb limit (count f k)) ≡ false) → count f n ≤ limit
unfolding count
count_limit f limit zero h = omega arith
count_limit f limit (suc n) h = go (f n) (h n (omega arith)) (count_limit f limit n (λ k l. h k (omega arith)))
  where
    go : (b : Bool) → (b && leb limit (count f n)) ≡ false → count f n ≤ limit → count f n + cond b 1 0 ≤ limit
    go true e le = omega (arith, leb-false limit (count f n) e)
    go false e le = omega arith

pub count_same : (f g : ℕ → Bool) (n : ℕ) → ((k : ℕ) → k < n → f k ≡ g k) → count f n ≡ count g n
unfolding count
count_same f g zero e = refl
count_same f g (suc n) e = rw (count_same f g n (λ k l. e k (omega arith)), e n (omega arith)) refl

-- the count of what either of two tests passes, where no number passes both
pub count_sum : (f g h : ℕ → Bool) (n : ℕ) → ((k : ℕ) → k < n → cond (f k) 1 0 + cond (g k) 1 0 ≡ cond (h k) 1 0) → count f n + count g n ≡ count h n
unfolding count
count_sum f g h zero e = refl
count_sum f g h (suc n) e = omega (arith, count_sum f g h n (λ k l. e k (omega arith)), e n (omega arith))

pub count_all : (f : ℕ → Bool) (n : ℕ) → ((k : ℕ) → k < n → f k ≡ true) → count f n ≡ n
unfolding count
count_all f zero h = refl
count_all f (suc n) h = rw (h n (omega arith)) (omega (arith, count_all f n (λ k l. h k (omega arith))))

-- A test that passes wherever it passes later: it passes at the numbers below its count, and at no others.
module _ (f : ℕ → Bool) where
  abbrev pub Downward : ℕ → Type 0
  Downward n = (k : ℕ) → suc k < n → f (suc k) ≡ true → f k ≡ true

  downward_all : (n : ℕ) → Downward (suc n) → f n ≡ true → (k : ℕ) → k < suc n → f k ≡ true
  downward_all zero d t k h = subst (λ (m : ℕ). f m ≡ true) (omega arith) t
  downward_all (suc n) d t k h =
      ⊎_elim
      (λ (e : k ≡ suc n). ap f e ∙ t)
      (λ (l : k < suc n). downward_all n (λ m b. d m (omega arith)) (d n (omega arith) t) k l)
      (last_or_before k (suc n) h)

  pub count_below : (n k : ℕ) → Downward n → k < n → f k ≡ ltb k (count f n)
  unfolding count
  count_below zero k d h = absurd (omega arith)
  count_below (suc n) k d h = go (f n) refl (count_below n k (λ m b. d m (omega arith)))
    where
      go : (b : Bool) → f n ≡ b → (k < n → f k ≡ ltb k (count f n)) → f k ≡ ltb k (count f n + cond b 1 0)
      go true e ih =
          let all = downward_all n d e in
          all k h ∙ sym (lt-ltb k (count f n + 1) (omega (arith, count_all f n (λ m b. all m (omega arith)))))
      go false e ih =
          ⊎_elim
          (λ (i : k ≡ n). ap f i ∙ e ∙ sym (le-ltb k (count f n + 0) (omega (arith, count_le f n))))
          (λ (l : k < n). ih l ∙ ap (λ (m : ℕ). ltb k m) (omega arith))
          (last_or_before k n h)

one_mono : (a b : Bool) → (a ≡ true → b ≡ true) → cond a 1 0 ≤ cond b 1 0
one_mono true b h = rw (h refl) (omega arith)
one_mono false b h = omega arith

-- a test that passes wherever another does passes at least as often
pub count_mono : (f g : ℕ → Bool) (n : ℕ) → ((k : ℕ) → f k ≡ true → g k ≡ true) → count f n ≤ count g n
unfolding count
count_mono f g zero h = omega arith
count_mono f g (suc n) h = omega (arith, count_mono f g n h, one_mono (f n) (g n) (h n))

-- and more often, where it passes at some x at which the other does not
pub count_strict : (f g : ℕ → Bool) (n x : ℕ) → x < n → ((k : ℕ) → f k ≡ true → g k ≡ true) → f x ≡ false → g x ≡ true → count f n < count g n
unfolding count
count_strict f g zero x l h p q = absurd (omega arith)
count_strict f g (suc n) x l h p q =
    ⊎_elim
    (λ (e : x ≡ n). subst (λ (m : ℕ). count f m + cond (f m) 1 0 < count g m + cond (g m) 1 0) e (rw (p, q) (omega (arith, count_mono f g x h))))
    (λ (l : x < n). omega (arith, count_strict f g n x l h p q, one_mono (f n) (g n) (h n)))
    (last_or_before x n l)

-- none passes where none is counted
pub uncounted : (test : ℕ → Bool) (j : ℕ) → count test j ≡ 0 → (k : ℕ) → k < j → test k ≡ false
unfolding count
uncounted test zero e k h = absurd (omega arith)
uncounted test (suc j) e k h =
    ⊎_elim
    (λ (i : k ≡ j). ap test i ∙ none_here (test j) (omega (arith, e)))
    (λ (l : k < j). uncounted test j (omega (arith, e)) k l)
    (last_or_before k j h)
  where
    none_here : (b : Bool) → ◌≡◌ {A = ℕ} (cond b 1 0) 0 → b ≡ false
    none_here true q = absurd (omega (arith, q))
    none_here false q = refl

module _ (test : ℕ → Bool) where
  pub none_counted : (n : ℕ) → ((k : ℕ) → k < n → test k ≡ false) → count test n ≡ 0
  unfolding count
  none_counted zero h = refl
  none_counted (suc n) h = rw (none_counted n (λ k l. h k (omega arith)), h n (omega arith)) refl

  pub some_counted : (n : ℕ) → count test n ≡ 1 → (j : ℕ) × (earliest test n ≡ Some j)
  some_counted n e = go (earliest test n) refl
    where
      go : (o : Option ℕ) → earliest test n ≡ o → (j : ℕ) × (earliest test n ≡ Some j)
      go (Some j) q = (j, q)
      go None q = absurd (omega (arith, e, none_counted n (earliest_passed test n q)))

  -- the last number is the one, or one before it is
  pub only_one_counted : (n : ℕ) → count test n ≡ 1 → (i j : ℕ) → i < n → j < n → test i ≡ true → test j ≡ true → i ≡ j
  unfolding count
  only_one_counted zero e i j h k p q = absurd (omega arith)
  only_one_counted (suc n) e i j h k p q = go (test n) refl (only_one_counted n)
    where
      go : (b : Bool) → test n ≡ b → (count test n ≡ 1 → (i j : ℕ) → i < n → j < n → test i ≡ true → test j ≡ true → i ≡ j) → i ≡ j
      go true t before =
          let none : count test n ≡ 0 = omega (arith, rw t at e) in
          let last : (m : ℕ) → m < suc n → test m ≡ true → m ≡ n =
          λ m l s. ⊎_elim (λ (r : m ≡ n). r) (λ (r : m < n). not_both (test m) s (uncounted test n none m r)) (last_or_before m n l)
          in
          last i h p ∙ sym (last j k q)
      go false t before =
          let one : count test n ≡ 1 = omega (arith, rw t at e) in
          let below : (m : ℕ) → m < suc n → test m ≡ true → m < n =
          λ m l s. ⊎_elim (λ (r : m ≡ n). not_both (test m) s (ap test r ∙ t)) (λ (r : m < n). r) (last_or_before m n l)
          in
          before one i j (below i h p) (below j k q) p q

-- there are no more functions than records
pub functions_fit : (t : List ℕ) → functions t ≤ records t
unfolding functions
functions_fit t = count_le (is_function t) (records t)
