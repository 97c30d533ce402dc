-- How the functions are placed: one is always due, and the lowest-numbered one that is due comes next.
use Prim.Native.Nat.{ℕ, zero, suc, ◌+◌, ◌<◌, ◌≤◌}
use mathlib.Core.Path.{◌≡◌, refl, sym, ap, ◌∙◌, subst}
use mathlib.Core.List.{List}
use mathlib.Core.Bool.{Bool, true, false, not, ◌&&◌, ◌||◌}
use mathlib.Core.Logic.{◌⊎◌, inl, inr, ⊎_elim}
use native.Mathlib.Omega.{arith}
use lib.Dec.{eqb}
use lib.ListN.{length, set, replicate, length-set}
use lib.Seq.{get_or-set_same, get_or-set_other}
use borrow.Author.Count.{below_more}
use borrow.Author.Tests.{eq-eqb, eqb-true, ne_eqb, not-true}
use Rattle.std.specs.Prelude.{Option, None, Some, MatchOption, IsSome}
use Rattle.table.specs.Below.{any, count}
use Rattle.table.specs.Program.{Program}
use Rattle.table.specs.WellFormed.{WellFormed}
use Rattle.table.proofs.Booleans.{either_way, not_both, or_true, and_true_left, and_true_right}
use Rattle.table.proofs.Below.{last_or_before, any_some, any_which, count_strict}
use Rattle.word.specs.Bit.{bit}
use Rattle.word.proofs.Bits.{bit_none}
use Rattle.call_order.specs.Calls.{Calls, Reaches}
use Rattle.call_order.specs.Calls.Reaches.{one}
use Rattle.call_order.specs.CallOrder.{Stands, MayCome, Next, places}
use Rattle.call_order.specs.Rows.{joined, Targets, ReachOf, Due, Lowest}
use Rattle.call_order.proofs.Reaching.{reaches_first}
use Rattle.call_order.proofs.Standing.{UpTo, some_left, stands_wider, stands_same, next_same}
use Rattle.call_order.proofs.Rows.{either_of, zeros_all}

-- The first i places have their functions, and these are the ones placed.
pub record Placing (g : Program) (i : ℕ) (order : List ℕ) (placed : ℕ) : Type 0 where
  pub long : length order ≡ 64
  pub each : UpTo g (places order) i
  pub zeros : (j : ℕ) → i ≤ j → places order j ≡ 0
  pub placed_stand : (h : ℕ) → bit placed h ≡ true → Stands (places order) i h
  pub standing_placed : (h : ℕ) → Stands (places order) i h → bit placed h ≡ true

-- ---- one is always due

module _ (g : Program) (formed : WellFormed g) (back waits : List ℕ) (r : ReachOf g back) (t : Targets g back waits) where
  -- whether f is x or reaches it, and how many of these there are
  within : ℕ → ℕ → Bool
  within f x = eqb f x || joined back f x

  size : ℕ → ℕ
  size f = count (within f) g.functions

  -- what a function waits for reaches less: all that it reaches, that function reaches too, and it doesn't reach that function
  size_falls : (f h : ℕ) → f < g.functions → joined waits f h ≡ true → size h < size f
  unfolding size within
  size_falls f h exists j = count_strict (within h) (within f) g.functions f exists (λ x e. wider x (either_of _ _ e)) narrower (ap (λ (b : Bool). b || joined back f f) (eq-eqb f f refl))
    where
      c : Calls g f h
      c = t.called f h j

      wider : (x : ℕ) → (eqb h x ≡ true) ⊎ (joined back h x ≡ true) → (eqb f x || joined back f x) ≡ true
      wider x (inl e) = rw (r.all f x (subst (λ (y : ℕ). Reaches g f y) (eqb-true h x e) (one c))) (or_true (eqb f x))
      wider x (inr e) = rw (r.all f x (reaches_first g c (r.reached h x e))) (or_true (eqb f x))

      narrower : (eqb h f || joined back h f) ≡ false
      narrower = rw (ne_eqb h f (λ e. not_both _ (r.all h f (subst (λ (y : ℕ). Reaches g y f) (sym e) (one (subst (λ (y : ℕ). Calls g f y) e c)))) (t.forth f h j)), t.forth f h j) refl

  module _ (placed : ℕ) where
    -- from a function that is left, by what it waits for and is left
    due_from : (fuel f : ℕ) → f < g.functions → bit placed f ≡ false → size f < fuel → (d : ℕ) × (d < g.functions) × Due waits placed d
    due_from zero f exists left l = absurd (omega arith)
    due_from (suc fuel) f exists left l = go (either_way (any waited g.functions)) (due_from fuel)
      where
        waited : ℕ → Bool
        waited h = joined waits f h && not (bit placed h)

        go : (any waited g.functions ≡ true) ⊎ (any waited g.functions ≡ false)
            → ((h : ℕ) → h < g.functions → bit placed h ≡ false → size h < fuel → (d : ℕ) × (d < g.functions) × Due waits placed d)
            → (d : ℕ) × (d < g.functions) × Due waits placed d
        go (inl e) on =
            let w = any_which waited g.functions e in
            let falls = size_falls f w.0 exists (and_true_left _ _ w.2) in
            on w.0 w.1 (not-true _ (and_true_right (joined waits f w.0) _ w.2)) (omega arith)
        go (inr e) on = (f, exists, record { left = left; waited = λ h j. ⊎_elim (λ p. p) (λ (n : bit placed h ≡ false). absurd (not_both _ (any_some waited g.functions h (target h j) (rw (j, n) refl)) e)) (either_way (bit placed h)) })
          where
            target : (h : ℕ) → joined waits f h ≡ true → h < g.functions
            target h j = let c = t.called f h j in subst (λ (x : ℕ). x < g.functions) c.target_is (formed.target_exists c.node c.exists)

    module _ (i : ℕ) (order : List ℕ) (p : Placing g i order placed) where
      pub some_due : i < g.functions → (d : ℕ) × (d < g.functions) × Due waits placed d
      some_due l =
          let w = some_left g (places order) i l p.each in
          due_from (suc (size w.0)) w.0 w.1 (⊎_elim (λ e. absurd (w.2 (p.placed_stand w.0 e))) (λ e. e) (either_way (bit placed w.0))) (omega arith)

      -- ---- the lowest-numbered one that is due comes next

      due_may : (f : ℕ) → Due waits placed f → MayCome g (places order) i f
      due_may f d h c =
          ⊎_elim
          (λ (e : joined back h f ≡ true). inr (r.reached h f e))
          (λ (e : joined back h f ≡ false). inl (p.placed_stand h (d.waited h (t.all f h c e))))
          (either_way (joined back h f))

      may_due : (f : ℕ) → (Stands (places order) i f → ⊥) → MayCome g (places order) i f → Due waits placed f
      may_due f left may = record {
        left = ⊎_elim (λ e. absurd (left (p.placed_stand f e))) (λ e. e) (either_way (bit placed f));
        waited = λ h j. ⊎_elim (λ s. p.standing_placed h s) (λ s. not_both _ (r.all h f s) (t.forth f h j)) (may h (t.called f h j));
      }

      pub due_next : (f : ℕ) → f < g.functions → Due waits placed f → ((x : ℕ) → x < f → Due waits placed x → ⊥) → Next g (places order) i f
      due_next f exists d lowest = record {
        exists = exists;
        left = λ s. not_both _ (p.standing_placed f s) d.left;
        may = due_may f d;
        lowest = λ x l left may. lowest x l (may_due x left may);
      }

-- ---- place after place

pub placing_none : (g : Program) → Placing g 0 (replicate 64 0) 0
placing_none g = record {
  long = refl;
  each = λ j l. absurd (omega arith);
  zeros = λ j l. zeros_all 64 j;
  placed_stand = λ h e. not_both _ e (bit_none h);
  standing_placed = λ h s. absurd (omega (arith, s.1));
}

module _ (g : Program) (i : ℕ) (order : List ℕ) (placed : ℕ) (p : Placing g i order placed) (room : i < 64) (f placed' : ℕ) (next : Next g (places order) i f) (put : (j : ℕ) → bit placed' j ≡ (eqb j f || bit placed j)) where
  abbrev new : List ℕ
  new = set order i f

  here : places new i ≡ f
  here = get_or-set_same order i f 0 (omega (arith, p.long))

  before : (j : ℕ) → j < i → places order j ≡ places new j
  before j l = sym (get_or-set_other order i j f 0 (λ e. absurd (omega arith)))

  pub placing_more : Placing g (i + 1) new placed'
  placing_more = record {
    long = length-set order i f ∙ p.long;
    each = below_more (λ j. Next g (places new) j (places new j)) i
        (λ j l. subst (λ (x : ℕ). Next g (places new) j x) (before j l) (next_same g (places order) (places new) j (places order j) (λ k m. before k (omega arith)) (p.each j l)))
        (rw here (next_same g (places order) (places new) i f before next));
    zeros = λ j l. get_or-set_other order i j f 0 (λ e. absurd (omega arith)) ∙ p.zeros j (omega arith);
    placed_stand = λ h e. stand h (either_of _ _ (sym (put h) ∙ e));
    standing_placed = λ h s. put h ∙ put_in h s (last_or_before s.0 i (omega (arith, s.1)));
  }
    where
      stand : (h : ℕ) → (eqb h f ≡ true) ⊎ (bit placed h ≡ true) → Stands (places new) (i + 1) h
      stand h (inl e) = (i, omega arith, here ∙ sym (eqb-true h f e))
      stand h (inr e) = stands_wider (places new) i h (stands_same (places order) (places new) i before h (p.placed_stand h e))

      put_in : (h : ℕ) → (s : Stands (places new) (i + 1) h) → (s.0 ≡ i) ⊎ (s.0 < i) → (eqb h f || bit placed h) ≡ true
      put_in h s (inl e) = ap (λ (b : Bool). b || bit placed h) (eq-eqb h f (sym s.2 ∙ ap (places new) e ∙ here))
      put_in h s (inr l) = rw (p.standing_placed h (s.0, l, before s.0 l ∙ s.2)) (or_true (eqb h f))

-- ---- the search for the next

module _ (P : ℕ → Type 0) (n : ℕ) where
  -- a search over the numbers from 0 finds the lowest
  pub lowest_by : (o : Option ℕ)
      → MatchOption o ((x : ℕ) → 0 ≤ x → x < n → P x → ⊥) (λ f. (0 ≤ f) × (f < n) × P f × ((x : ℕ) → 0 ≤ x → x < f → P x → ⊥))
      → Lowest n P o
  lowest_by None h = λ x l. h x (omega arith) l
  lowest_by (Some f) h = (h.1, h.2, λ x l. h.3 x (omega arith) l)

  -- there is one where it holds of one
  pub lowest_some : (o : Option ℕ) → Lowest n P o → (d : ℕ) × (d < n) × P d → IsSome o
  lowest_some None h (d, l, p) = absurd (h d l p)
  lowest_some (Some f) h d = refl
