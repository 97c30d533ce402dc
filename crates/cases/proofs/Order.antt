-- The preference order of a program's spawns, by a test of its functions' depths and of the order.
use Prim.Native.Nat.{ℕ, zero, suc, ◌<◌, ◌≤◌}
use mathlib.Core.Path.{◌≡◌, refl, subst}
use mathlib.Core.Bool.{Bool, true, false, cond, ◌&&◌}
use mathlib.Core.List.{List}
use mathlib.Core.Logic.{inl, ⊎_elim}
use native.Mathlib.Omega.{arith}
use lib.Dec.{eqb, leb, ltb}
use lib.ListN.{length}
use borrow.Author.Tests.{eqb-true, eq-eqb, leb-true, ltb-true}
use Rattle.table.specs.Below.{any}
use Rattle.table.specs.Record.{spawn, has_target}
use Rattle.table.specs.Program.{Program}
use Rattle.table.specs.WellFormed.{WellFormed}
use Rattle.table.proofs.Below.{any_which}
use Rattle.table.proofs.Booleans.{either_way, and_true_left, and_true_right}
use Rattle.size.specs.Numbers.{at}
use Rattle.preference.specs.Depth.{Away, DepthsOf}
use Rattle.preference.specs.Preference.{IsSpawn, comes_first, ComesFirst, InOrder}
use Rattle.cases.proofs.Rows.{Rows, program_from}
use Rattle.cases.proofs.Every.{every, every_each, cond_true, cond_false}

-- ---- depths, where an entry reaches every function

module _ (g : Program) (depth : ℕ → ℕ) where
  -- node n leads to function f, which is one deeper than its own
  abbrev leads_to : ℕ → ℕ → Bool
  leads_to f n = has_target (g.sort n) && (eqb (g.target n) f && eqb (suc (depth (g.owner n))) (depth f))

  -- function f is an entry, or a node leads to it
  abbrev reached : ℕ → Bool
  reached f = cond (g.entry f) (eqb (depth f) 0) (any (leads_to f) g.nodes)

  -- a node's target is at most one deeper than its own function
  abbrev near : ℕ → Bool
  near n = cond (has_target (g.sort n)) (leb (depth (g.target n)) (suc (depth (g.owner n)))) true

  abbrev depth_test : Bool
  depth_test = every reached g.functions && every near g.nodes

  module _ (w : WellFormed g) (t : depth_test ≡ true) where
    is_reached : (f : ℕ) → f < g.functions → reached f ≡ true
    is_reached = every_each reached g.functions (and_true_left _ _ t)

    is_near : (n : ℕ) → n < g.nodes → near n ≡ true
    is_near = every_each near g.nodes (and_true_right (every reached g.functions) _ t)

    entry_top : (f : ℕ) → f < g.functions → g.entry f ≡ true → depth f ≡ 0
    entry_top f h e = eqb-true (depth f) 0 (cond_true (g.entry f) _ _ (is_reached f h) e)

    led : (f : ℕ) → f < g.functions → g.entry f ≡ false → (n : ℕ) × (n < g.nodes) × (has_target (g.sort n) ≡ true) × (g.target n ≡ f) × (suc (depth (g.owner n)) ≡ depth f)
    led f h e =
        let q = any_which (leads_to f) g.nodes (cond_false (g.entry f) _ _ (is_reached f h) e) in
        let rest = and_true_right (has_target (g.sort q.0)) _ q.2 in
        (q.0, q.1, and_true_left _ _ q.2, eqb-true _ f (and_true_left _ _ rest), eqb-true _ (depth f) (and_true_right (eqb (g.target q.0) f) _ rest))

    -- a function's depth is that of a way to it
    away : (k f : ℕ) → f < g.functions → depth f ≡ k → Away g f k
    away zero f h e = ⊎_elim (λ i. i) (λ i. absurd (omega (arith, (led f h i).4))) (either_way (g.entry f))
    away (suc k) f h e =
        ⊎_elim
        (λ i. absurd (omega (arith, entry_top f h i)))
        (λ i. let q = led f h i in (q.0, q.1, q.2, q.3, away k (g.owner q.0) (w.owner_exists q.0 q.1) (omega (arith, q.4))))
        (either_way (g.entry f))

    -- and no way is shorter
    no_nearer : (k f : ℕ) → f < g.functions → Away g f k → depth f ≤ k
    no_nearer zero f h a = omega (arith, entry_top f h a)
    no_nearer (suc k) f h (n, l, t, e, a) =
        let up = leb-true _ _ (cond_true (has_target (g.sort n)) _ _ (is_near n l) t) in
        omega (arith, subst (λ (x : ℕ). depth x ≤ suc (depth (g.owner n))) e up, no_nearer k (g.owner n) (w.owner_exists n l) a)

    depths_are : DepthsOf g depth
    depths_are = record { depth_of = λ f h. inl (record { reached = away (depth f) f h refl; fewest = λ k. no_nearer k f h }) }

-- ---- the order

module _ (g : Program) (count : ℕ) (order : ℕ → ℕ) where
  abbrev is_spawn : ℕ → Bool
  is_spawn i = ltb (order i) g.nodes && eqb (g.sort (order i)) spawn

  -- node n is no spawn, or stands in the order
  abbrev placed : ℕ → Bool
  placed n = cond (eqb (g.sort n) spawn) (any (λ i. eqb (order i) n) count) true

  -- all before item j come first
  abbrev sorted_to : (ℕ → ℕ) → ℕ → Bool
  sorted_to depth j = every (λ i. comes_first g depth (order i) (order j)) j

  abbrev place_test : (ℕ → ℕ) → Bool
  place_test depth = every is_spawn count && (every placed g.nodes && every (sorted_to depth) count)

  in_order : (depth : ℕ → ℕ) → DepthsOf g depth → place_test depth ≡ true → InOrder g count order
  in_order depth are t = record { spawns = spawns; all = all; sorted = sorted }
    where
      rest : (every placed g.nodes && every (sorted_to depth) count) ≡ true
      rest = and_true_right (every is_spawn count) _ t

      spawns : (i : ℕ) → i < count → IsSpawn g (order i)
      spawns i h =
          let s = every_each is_spawn count (and_true_left _ _ t) i h in
          record { exists = ltb-true _ _ (and_true_left _ _ s); spawns = eqb-true _ _ (and_true_right (ltb (order i) g.nodes) _ s) }

      all : (n : ℕ) → IsSpawn g n → (i : ℕ) × (i < count) × (order i ≡ n)
      all n s =
          let p = every_each placed g.nodes (and_true_left _ _ rest) n s.exists in
          let q = any_which (λ i. eqb (order i) n) count (cond_true _ _ _ p (eq-eqb _ _ s.spawns)) in
          (q.0, q.1, eqb-true _ n q.2)

      sorted : (i j : ℕ) → i < j → j < count → ComesFirst g (order i) (order j)
      sorted i j h l = record {
        depth = depth;
        depths_are = are;
        first = every_each _ j (every_each (sorted_to depth) count (and_true_right (every placed g.nodes) _ rest) j l) i h;
      }

-- depths are those of the functions, and order has all spawns in preference order
unfoldable pub order_test : Rows → (depths order : List ℕ) → Bool
unfolding every any comes_first
order_test r depths order = depth_test (program_from r) (at depths) && place_test (program_from r) (length order) (at order) (at depths)

pub order_found : (r : Rows) → WellFormed (program_from r) → (depths order : List ℕ) → order_test r depths order ≡ true → InOrder (program_from r) (length order) (at order)
unfolding order_test
order_found r w depths order t =
    in_order (program_from r) (length order) (at order) (at depths)
    (depths_are (program_from r) (at depths) w (and_true_left _ _ t))
    (and_true_right (depth_test (program_from r) (at depths)) _ t)
