-- A program's fields, as the table has them.
use Prim.Native.Nat.{ℕ, ◌<◌, ◌≤◌}
use mathlib.Core.Path.{◌≡◌, refl}
use mathlib.Core.List.{List}
use mathlib.Core.Bool.{true}
use lib.Dec.{eqb}
use borrow.Author.Tests.{eqb-true, eq-eqb, lt-ltb, le-ltb}
use Rattle.table.specs.Record.{sort_of, field_a, field_b, field_c, functions, nodes, edges, node_sort, node_owner, node_target, edge_from, edge_to, plain}
use Rattle.table.specs.Program.{program_of, within}
use Rattle.table.specs.SameButEdges.{HasEdge}
use Rattle.table.proofs.Booleans.{and_true_left, and_true_right}
use Rattle.table.proofs.Below.{any_some, any_which}

pub within_in : (n i x : ℕ) → i < n → within n i x ≡ x
within_in n i x h = rw (lt-ltb i n h) refl

pub within_out : (n i x : ℕ) → n ≤ i → within n i x ≡ 0
within_out n i x h = rw (le-ltb i n h) refl

module _ (t : List ℕ) where
  pub functions_read : (program_of t).functions ≡ functions t
  unfolding program_of
  functions_read = refl

  pub nodes_read : (program_of t).nodes ≡ nodes t
  unfolding program_of
  nodes_read = refl

  module _ (f : ℕ) (h : f < functions t) where
    pub entry_read : (program_of t).entry f ≡ eqb (sort_of t f) 1
    unfolding program_of
    entry_read = rw (lt-ltb f (functions t) h) refl

    pub first_read : (program_of t).first f ≡ field_a t f
    unfolding program_of
    first_read = within_in _ _ _ h

    pub exit_read : (program_of t).exit f ≡ field_b t f
    unfolding program_of
    exit_read = within_in _ _ _ h

    pub frame_read : (program_of t).frame f ≡ field_c t f
    unfolding program_of
    frame_read = within_in _ _ _ h

  module _ (n : ℕ) (h : n < nodes t) where
    pub sort_read : (program_of t).sort n ≡ node_sort t n
    unfolding program_of
    sort_read = within_in _ _ _ h

    pub owner_read : (program_of t).owner n ≡ node_owner t n
    unfolding program_of
    owner_read = within_in _ _ _ h

    pub target_read : (program_of t).target n ≡ node_target t n
    unfolding program_of
    target_read = within_in _ _ _ h

  -- a node that does not exist counts as plain
  pub sort_past : (n : ℕ) → nodes t ≤ n → (program_of t).sort n ≡ plain
  unfolding program_of
  sort_past n h = within_out _ _ _ h

  -- the edges are those of the edge records
  pub edge_read : (a b : ℕ) → HasEdge t a b → (program_of t).edge a b ≡ true
  unfolding program_of
  edge_read a b w = any_some _ (edges t) w.0 w.1 (rw (eq-eqb _ _ w.2, eq-eqb _ _ w.3) refl)

  pub edge_which : (a b : ℕ) → (program_of t).edge a b ≡ true → HasEdge t a b
  unfolding program_of
  edge_which a b h =
      let w = any_which _ (edges t) h in
      let p = eqb (edge_from t w.0) a in
      let q = eqb (edge_to t w.0) b in
      (w.0, w.1, eqb-true _ _ (and_true_left p q w.2), eqb-true _ _ (and_true_right p q w.2))
