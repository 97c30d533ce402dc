-- Laws of what stands earlier than a place, where each place before it has the next function.
use Prim.Native.Nat.{ℕ, zero, suc, ◌+◌, ◌<◌, ◌≤◌}
use mathlib.Core.Path.{◌≡◌, refl, sym, ap, ◌∙◌, subst}
use mathlib.Core.Bool.{Bool, true, false, not, cond, ◌||◌}
use mathlib.Core.Logic.{◌⊎◌, inl, inr, ⊎_elim}
use native.Mathlib.Omega.{arith}
use native.Mathlib.Decide.{dec_lt}
use lib.Dec.{eqb}
use borrow.Author.Tests.{eq-eqb, eqb-true}
use Rattle.table.specs.Below.{any, count}
use Rattle.table.specs.Program.{Program}
use Rattle.table.proofs.Booleans.{either_way, not_both}
use Rattle.table.proofs.Below.{any_some, any_which, count_all, count_sum}
use Rattle.call_order.specs.CallOrder.{Stands, MayCome, Next}
use Rattle.call_order.proofs.Counting.{count_never, count_one}

-- ---- a function stands earlier or not

abbrev pub standing : (ℕ → ℕ) → ℕ → ℕ → Bool
standing order i h = any (λ j. eqb (order j) h) i

module _ (order : ℕ → ℕ) (i h : ℕ) where
  pub standing_told : standing order i h ≡ true → Stands order i h
  standing_told t = let w = any_which (λ j. eqb (order j) h) i t in (w.0, w.1, eqb-true _ _ w.2)

  pub standing_tell : Stands order i h → standing order i h ≡ true
  standing_tell (j, l, e) = any_some (λ j. eqb (order j) h) i j l (eq-eqb (order j) h e)

-- one more place
pub stands_wider : (order : ℕ → ℕ) (i h : ℕ) → Stands order i h → Stands order (i + 1) h
stands_wider order i h (j, l, e) = (j, omega arith, e)

-- ---- what comes next depends on the places before alone

module _ (o p : ℕ → ℕ) (i : ℕ) (same : (j : ℕ) → j < i → o j ≡ p j) where
  pub stands_same : (h : ℕ) → Stands o i h → Stands p i h
  stands_same h (j, l, e) = (j, l, sym (same j l) ∙ e)

  may_same : (g : Program) (f : ℕ) → MayCome g o i f → MayCome g p i f
  may_same g f may h c = ⊎_elim (λ s. inl (stands_same h s)) inr (may h c)

pub next_same : (g : Program) (o p : ℕ → ℕ) (i f : ℕ) → ((j : ℕ) → j < i → o j ≡ p j) → Next g o i f → Next g p i f
next_same g o p i f same n =
    let back : (j : ℕ) → j < i → p j ≡ o j = λ j l. sym (same j l) in
    record {
      exists = n.exists;
      left = λ s. n.left (stands_same p o i back f s);
      may = may_same o p i same g f n.may;
      lowest = λ x l left may. n.lowest x l (λ s. left (stands_same o p i same x s)) (may_same p o i back g x may);
    }

-- there is one
pub next_one : (g : Program) (order : ℕ → ℕ) (i a b : ℕ) → Next g order i a → Next g order i b → a ≡ b
next_one g order i a b p q = go (dec_lt a b) (dec_lt b a)
  where
    go : Dec (a < b) → Dec (b < a) → a ≡ b
    go (yes l) _ = absurd (q.lowest a l p.left p.may)
    go (no _) (yes l) = absurd (p.lowest b l q.left q.may)
    go (no h) (no k) = omega (arith, h, k)

-- ---- how many stand earlier

of_either : (a b : Bool) → (a ≡ true → b ≡ true → ⊥) → cond a 1 0 + cond b 1 0 ≡ cond (a || b) 1 0
of_either true true h = absurd (h refl refl)
of_either true false h = refl
of_either false b h = omega arith

module _ (g : Program) (order : ℕ → ℕ) where
  -- the places before i have the next function
  abbrev pub UpTo : ℕ → Type 0
  UpTo i = (j : ℕ) → j < i → Next g order j (order j)

  -- each place adds one
  pub standing_count : (i : ℕ) → i ≤ g.functions → UpTo i → count (standing order i) g.functions ≡ i
  unfolding any
  standing_count zero h up = count_never _ g.functions (λ k l. refl)
  standing_count (suc i) h up =
      let earlier = standing_count i (omega arith) (λ j l. up j (omega arith)) in
      let here = up i (omega arith) in
      let both : (k : ℕ) → standing order i k ≡ true → eqb (order i) k ≡ true → ⊥ = λ k t e. here.left (subst (λ (x : ℕ). Stands order i x) (sym (eqb-true (order i) k e)) (standing_told order i k t)) in
      omega (arith, earlier, count_one (order i) g.functions here.exists, count_sum (standing order i) (λ x. eqb (order i) x) (standing order (suc i)) g.functions (λ k l. of_either (standing order i k) (eqb (order i) k) (both k)))

  -- so at each place but those past the last some function is left
  pub some_left : (i : ℕ) → i < g.functions → UpTo i → (f : ℕ) × (f < g.functions) × (Stands order i f → ⊥)
  some_left i h up = go (either_way (any (λ x. not (standing order i x)) g.functions))
    where
      all : any (λ x. not (standing order i x)) g.functions ≡ false → (k : ℕ) → k < g.functions → standing order i k ≡ true
      all e k l = ⊎_elim (λ t. t) (λ n. not_both _ (any_some (λ x. not (standing order i x)) g.functions k l (ap not n)) e) (either_way (standing order i k))

      go : (any (λ x. not (standing order i x)) g.functions ≡ true) ⊎ (any (λ x. not (standing order i x)) g.functions ≡ false) → (f : ℕ) × (f < g.functions) × (Stands order i f → ⊥)
      go (inl t) =
          let w = any_which (λ x. not (standing order i x)) g.functions t in
          (w.0, w.1, λ s. not_both _ w.2 (ap not (standing_tell order i w.0 s)))
      go (inr e) = absurd (omega (arith, standing_count i (omega arith) up, count_all (standing order i) g.functions (all e)))
