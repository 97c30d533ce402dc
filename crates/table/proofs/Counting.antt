-- Records counted by their kinds, one after another, all of them or up to a limit.
use Prim.Native.Nat.{ℕ, ◌+◌, ◌<◌, ◌≤◌}
use mathlib.Core.Path.{◌≡◌, refl, sym}
use mathlib.Core.Bool.{Bool, true, false, ◌&&◌}
use mathlib.Core.List.{List}
use native.Mathlib.Omega.{arith}
use lib.Dec.{leb}
use borrow.Author.Tests.{ne_eqb, le-leb, lt-leb}
use Rattle.std.specs.Prelude.{Option, None, Some}
use Rattle.table.specs.Below.{count, earliest}
use Rattle.table.specs.Record.{kind_of, is_function, is_node, is_edge}
use Rattle.table.specs.Kind.{IsListed}
use Rattle.table.specs.declared.kinds.Kind.TheVariants.{Function, Node, Edge}
use Rattle.table.specs.declared.kinds.Kind.{Kind}
use Rattle.table.specs.declared.Counts.{Counts}
use Rattle.table.proofs.Below.{count_none, count_more, passed_more, earliest_none, earliest_some}

-- n of the first r records pass, which is no more than there are
pub record Passed (test : ℕ → Bool) (r n : ℕ) : Type 0 where
  pub count_is : n ≡ count test r
  pub few : n ≤ r

module _ {test : ℕ → Bool} {r n : ℕ} (p : Passed test r n) where
  one_in : test r ≡ true → Passed test (r + 1) (n + 1)
  one_in e = record { count_is = omega (arith, p.count_is, rw e at (count_more test r)); few = omega (arith, p.few) }

  one_out : test r ≡ false → Passed test (r + 1) n
  one_out e = record { count_is = omega (arith, p.count_is, rw e at (count_more test r)); few = omega (arith, p.few) }

-- the counts of the first r records
pub record Tallied (t : List ℕ) (r : ℕ) (of : Counts) : Type 0 where
  pub functions_in : Passed (is_function t) r of.functions
  pub nodes_in : Passed (is_node t) r of.nodes
  pub edges_in : Passed (is_edge t) r of.edges

pub tallied_none : (t : List ℕ) → Tallied t 0 (record { functions = 0; nodes = 0; edges = 0 })
tallied_none t = record { functions_in = none (is_function t); nodes_in = none (is_node t); edges_in = none (is_edge t) }
  where
    none : (test : ℕ → Bool) → Passed test 0 0
    none test = record { count_is = omega (arith, count_none test); few = omega arith }

-- with one more record, by what it is
abbrev pub one_more : Option Kind → Counts → Counts
one_more (Some Function) of = record { functions = of.functions + 1; nodes = of.nodes; edges = of.edges }
one_more (Some Node) of = record { functions = of.functions; nodes = of.nodes + 1; edges = of.edges }
one_more (Some Edge) of = record { functions = of.functions; nodes = of.nodes; edges = of.edges + 1 }
one_more None of = of

pub tallied_more : {t : List ℕ} {r : ℕ} {of : Counts} → Tallied t r of → (k : Option Kind) → IsListed k (kind_of t r) → Tallied t (r + 1) (one_more k of)
tallied_more d (Some Function) e = record { functions_in = one_in d.functions_in (rw e refl); nodes_in = one_out d.nodes_in (rw e refl); edges_in = one_out d.edges_in (rw e refl) }
tallied_more d (Some Node) e = record { functions_in = one_out d.functions_in (rw e refl); nodes_in = one_in d.nodes_in (rw e refl); edges_in = one_out d.edges_in (rw e refl) }
tallied_more d (Some Edge) e = record { functions_in = one_out d.functions_in (rw e refl); nodes_in = one_out d.nodes_in (rw e refl); edges_in = one_in d.edges_in (rw e refl) }
tallied_more d None e = record { functions_in = one_out d.functions_in (ne_eqb _ 1 e.0); nodes_in = one_out d.nodes_in (ne_eqb _ 2 e.1); edges_in = one_out d.edges_in (ne_eqb _ 3 e.2) }

-- A search for the first number that passes with as many as the limit before it: none is among the first r, of which n pass.
module _ (f : ℕ → Bool) (limit : ℕ) where
  pub record NoneYet (r n : ℕ) : Type 0 where
    pub passed : Passed f r n
    pub within : n ≤ limit
    pub none : (k : ℕ) → k < r → (f k && leb limit (count f k)) ≡ false

  pub none_yet : NoneYet 0 0
  none_yet = record { passed = record { count_is = omega (arith, count_none f); few = omega arith }; within = omega arith; none = λ k h. absurd (omega arith) }

module _ {f : ℕ → Bool} {limit r n : ℕ} (d : NoneYet f limit r n) where
  pub none_out : f r ≡ false → NoneYet f limit (r + 1) n
  none_out e = record { passed = one_out d.passed e; within = d.within; none = passed_more (λ k. f k && leb limit (count f k)) r d.none (rw e refl) }

  pub none_in : f r ≡ true → (n ≡ limit → ⊥) → NoneYet f limit (r + 1) (n + 1)
  none_in e other = record {
    passed = one_in d.passed e;
    within = omega (arith, d.within);
    none = passed_more (λ k. f k && leb limit (count f k)) r d.none (rw (e, lt-leb limit (count f r) (omega (arith, d.passed.count_is, d.within))) refl);
  }

  pub surplus_here : {m : ℕ} → f r ≡ true → n ≡ limit → r < m → Some r ≡ earliest (λ k. f k && leb limit (count f k)) m
  surplus_here {m} e full h = sym (earliest_some (λ k. f k && leb limit (count f k)) m r h d.none (rw (e, le-leb limit (count f r) (omega (arith, d.passed.count_is))) refl))

  pub surplus_nowhere : {m : ℕ} → m ≤ r → None ≡ earliest (λ k. f k && leb limit (count f k)) m
  surplus_nowhere {m} h = sym (earliest_none (λ k. f k && leb limit (count f k)) m (λ k l. d.none k (omega arith)))
