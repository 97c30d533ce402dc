-- A choice is the one returned if it is safe and certain larger choices are not.
use Prim.Native.Nat.{ℕ, suc, min, ◌-◌, ◌<◌, ◌≤◌}
use mathlib.Core.Path.{◌≡◌, refl, subst}
use mathlib.Core.Bool.{Bool, true, false, cond, ◌&&◌}
use mathlib.Core.List.{List}
use mathlib.Core.Logic.{◌⊎◌, inl, inr, ⊎_elim}
use native.Mathlib.Omega.{arith}
use native.Mathlib.Decide.{ℕ_discrete, dec_le}
use lib.Dec.{eqb, leb}
use borrow.Author.Tests.{eqb-true, eq-eqb, ne_eqb, leb-true}
use Rattle.table.specs.Below.{any}
use Rattle.table.specs.Record.{spawn}
use Rattle.table.specs.Program.{Program}
use Rattle.table.specs.WellFormed.{WellFormed}
use Rattle.table.proofs.Below.{any_which}
use Rattle.table.proofs.Booleans.{either_way, and_true_left, and_true_right}
use Rattle.size.specs.Numbers.{at}
use Rattle.rules.specs.Choice.{unmerged, guarded, unguarded, ChoiceFor, AtMost}
use Rattle.rules.specs.Rules.{LeastSizes}
use Rattle.safety.specs.Safety.{Safe}
use Rattle.safety.proofs.Laws.{safe_smaller}
use Rattle.preference.specs.Preference.{InOrder}
use Rattle.choice.specs.Beats.{Returned}
use Rattle.search.specs.Walk.{Unmerged, Walked}
use Rattle.choice.proofs.Winning.{walks_return}
use Rattle.cases.proofs.Rows.{Rows, program_from}
use Rattle.cases.proofs.Every.{every, every_each, cond_true, cond_false}

-- ---- choices

-- what c gives node n is a verdict if n is a spawn, and else 0
abbrev fits : Program → (ℕ → ℕ) → ℕ → Bool
fits g c n = cond (eqb (g.sort n) spawn) (leb unmerged (c n) && leb (c n) unguarded) (eqb (c n) 0)

-- c is a choice for the program
unfoldable pub choice_test : Rows → List ℕ → Bool
unfolding every
choice_test r c = every (fits (program_from r) (at c)) r.nodes

pub choice_found : (r : Rows) (c : List ℕ) → choice_test r c ≡ true → ChoiceFor (program_from r) (at c)
unfolding choice_test
choice_found r c t = record {
  others = λ n h e. eqb-true _ 0 (cond_false _ _ _ (fit n h) (ne_eqb _ _ e));
  spawns = λ n h e. let p = cond_true _ _ _ (fit n h) (eq-eqb _ _ e) in (leb-true _ _ (and_true_left _ _ p), leb-true _ _ (and_true_right (leb unmerged (at c n)) _ p));
}
  where
    fit : (n : ℕ) → n < r.nodes → fits (program_from r) (at c) n ≡ true
    fit = every_each (fits (program_from r) (at c)) r.nodes t

-- ---- the choice returned

-- item i of the order is n
abbrev is_item : (ℕ → ℕ) → ℕ → ℕ → Bool
is_item order n i = eqb (order i) n

-- What stands in the way of a verdict k for spawn `order j`: the choice that gives it k, the spawns before it theirs up to k, and the others theirs
-- up to k - 1, since a choice that wins there may have less behind it.
unfoldable pub obstacle : (order : ℕ → ℕ) (k j : ℕ) (c : ℕ → ℕ) → ℕ → ℕ
unfolding any
obstacle order k j c n = cond (is_item order n j) k (min (c n) (cond (any (is_item order n) j) k (k - 1)))

-- its sizes are known and it is unsafe
pub record Unsafe (g : Program) (c : ℕ → ℕ) : Type 0 where
  pub sizes : ℕ → ℕ
  pub sizes_are : LeastSizes g c sizes
  pub not_safe : Safe g c → ⊥

-- it is at or below what gives k to spawn j, and to those before it that c gives k or more
obstacle_below : (order : ℕ → ℕ) (k j : ℕ) (c d : ℕ → ℕ) (n : ℕ) → min (c n) (k - 1) ≤ d n → ((l : ℕ) → l < j → k ≤ c (order l) → k ≤ d (order l)) → k ≤ d (order j) → obstacle order k j c n ≤ d n
unfolding obstacle
obstacle_below order k j c d n b before at_j =
    ⊎_elim
    (λ (e : is_item order n j ≡ true). rw e (rw (eqb-true (order j) n e) at at_j))
    (λ (e : is_item order n j ≡ false). rw e (⊎_elim sooner (λ (i : any (is_item order n) j ≡ false). rw i b) (either_way (any (is_item order n) j))))
    (either_way (is_item order n j))
  where
    up_to : Dec (k ≤ c n) → (k ≤ c n → k ≤ d n) → min (c n) k ≤ d n
    up_to (yes h) m = omega (arith, m h)
    up_to (no h) m = omega (arith, b)

    sooner : any (is_item order n) j ≡ true → min (c n) (cond (any (is_item order n) j) k (k - 1)) ≤ d n
    sooner i =
        let q = any_which (is_item order n) j i in
        rw i (up_to (dec_le k (c n)) (subst (λ (m : ℕ). k ≤ c m → k ≤ d m) (eqb-true (order q.0) n q.2) (before q.0 q.1)))

module _ (g : Program) (w : WellFormed g) (count : ℕ) (order : ℕ → ℕ) (o : InOrder g count order) (c : ℕ → ℕ) (f : ChoiceFor g c) where
  -- the walk that comes to what c gives, up to k
  walk : (k : ℕ) → guarded ≤ k → (to : ℕ → ℕ) → ((n : ℕ) → n < g.nodes → to n ≡ min (c n) k) → Safe g to → ((j : ℕ) → j < count → suc (c (order j)) ≡ k → Unsafe g (obstacle order k j c)) → Walked g k count order (λ n. min (c n) (k - 1)) to
  walk k h to e safe u = record {
    safe = safe;
    moved = λ n l. move n l (dec_le k (c n)) (ℕ_discrete (g.sort n) spawn);
    blocked = λ j l a b d s from before at_j.
        let x = u j l (omega (arith, at_item j l)) in
        let below : AtMost g (obstacle order k j c) d = λ n m. obstacle_below order k j c d n (from n m) (λ i p q. before i p (omega (arith, at_item i (omega arith)))) at_j in
        x.not_safe (safe_smaller g w (obstacle order k j c) d x.sizes x.sizes_are below s);
  }
    where
      at_item : (i : ℕ) → i < count → to (order i) ≡ min (c (order i)) k
      at_item i l = e (order i) (o.spawns i l).exists

      -- what c gives k or more is a spawn, and so has a place in the order
      move : (n : ℕ) → n < g.nodes → Dec (k ≤ c n) → Dec (g.sort n ≡ spawn) → (to n ≡ min (c n) (k - 1)) ⊎ ((suc (min (c n) (k - 1)) ≡ k) × (to n ≡ k) × ((j : ℕ) × (j < count) × (order j ≡ n)))
      move n l (yes b) (yes s) = inr (omega arith, omega (arith, e n l), o.all n (record { exists = l; spawns = s }))
      move n l (yes b) (no s) = absurd (omega (arith, f.others n l s))
      move n l (no b) s = inl (omega (arith, e n l))

  -- A safe choice is returned if it is safe too with no spawn left unguarded, and what stands in the way of one verdict more is unsafe, for each
  -- spawn that it does not leave unguarded.
  pub returned_by : Safe g c → Safe g (λ n. min (c n) guarded) → ((j : ℕ) → j < count → c (order j) < unguarded → Unsafe g (obstacle order (suc (c (order j))) j c)) → Returned g c
  returned_by safe merged-safe u =
      walks_return g w count order o (λ n. min (c n) unmerged) (λ n. min (c n) guarded) c begins
      (walk guarded (omega arith) (λ n. min (c n) guarded) (λ n h. refl) merged-safe (λ j h e. one_more guarded j h e (omega arith)))
      (walk unguarded (omega arith) c at_most safe (λ j h e. one_more unguarded j h e (omega arith)))
    where
      begins : Unmerged g (λ n. min (c n) unmerged)
      begins = record {
        spawns = λ n s. omega (arith, (f.spawns n s.exists s.spawns).0);
        others = λ n h s. omega (arith, f.others n h s);
      }

      at_most : (n : ℕ) → n < g.nodes → c n ≡ min (c n) unguarded
      at_most n h = go (ℕ_discrete (g.sort n) spawn)
        where
          go : Dec (g.sort n ≡ spawn) → c n ≡ min (c n) unguarded
          go (yes s) = omega (arith, (f.spawns n h s).1)
          go (no s) = omega (arith, f.others n h s)

      one_more : (k j : ℕ) → j < count → suc (c (order j)) ≡ k → k ≤ unguarded → Unsafe g (obstacle order k j c)
      one_more k j h e l = subst (λ (m : ℕ). Unsafe g (obstacle order m j c)) e (u j h (omega arith))
