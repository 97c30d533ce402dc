-- The bytes of a program that is well formed and can be described describe it.
use Prim.Native.Nat.{ℕ, ◌/◌, ◌%◌, ◌<◌, ◌≤◌}
use mathlib.Core.Path.{◌≡◌, refl, sym, ap, ap₂, ◌∙◌, fun_ext}
use mathlib.Core.Bool.{Bool, true, false, cond, ◌&&◌}
use mathlib.Core.Logic.{⊎_elim}
use native.Mathlib.Omega.{arith}
use lib.Dec.{eqb, ltb}
use Rattle.std.proofs.lemmas.Bool.{cases_lt, lt-ltb, le-ltb}
use Rattle.table.specs.Below.{count}
use Rattle.table.specs.Record.{records, sort_of, field_a, field_b, functions, nodes, edges, edge_record}
use Rattle.table.specs.Program.{Program, program_of, within}
use Rattle.table.specs.WellFormed.{WellFormed}
use Rattle.table.proofs.Booleans.{same_test}
use Rattle.table.proofs.Laws.{edge_read, edge_which}
use Rattle.program_bytes.specs.Bytes.{bytes_of, Describable}
use Rattle.program_bytes.specs.Pairs.{place, is_pair}
use Rattle.program_bytes.proofs.Parts.{edge_place, function_at, node_reads, edge_at, pair_counted, pair_at, records_are, functions_are, nodes_are, edges_are}

within_is : (n i x y : ℕ) → (i < n → x ≡ y) → (n ≤ i → y ≡ 0) → within n i x ≡ y
within_is n i x y inside past =
    ⊎_elim
    (λ (l : i < n). rw (lt-ltb i n l) (inside l))
    (λ (m : n ≤ i). rw (le-ltb i n m) (sym (past m)))
    (cases_lt i n)

bit_told : (b : Bool) → eqb (cond b 1 0) 1 ≡ b
bit_told true = refl
bit_told false = refl

module _ (g : Program) (w : WellFormed g) (d : Describable g) where
  -- a number of a function, and one of a node
  of_function : (x y : ℕ → ℕ) → ((f : ℕ) → f < g.functions → x f ≡ y f) → ((f : ℕ) → g.functions ≤ f → y f ≡ 0) → (f : ℕ)
      → within (functions (bytes_of g)) f (x f) ≡ y f
  of_function x y inside past f = rw (functions_are g w) (within_is g.functions f (x f) (y f) (inside f) (past f))

  of_node : (x y : ℕ → ℕ) → ((n : ℕ) → n < g.nodes → x n ≡ y n) → ((n : ℕ) → g.nodes ≤ n → y n ≡ 0) → (n : ℕ)
      → within (nodes (bytes_of g)) n (x n) ≡ y n
  of_node x y inside past n = rw (nodes_are g w) (within_is g.nodes n (x n) (y n) (inside n) (past n))

  entry_same : (f : ℕ) → (ltb f (functions (bytes_of g)) && eqb (sort_of (bytes_of g) f) 1) ≡ g.entry f
  entry_same f =
      rw (functions_are g w)
      (⊎_elim
      (λ (l : f < g.functions). rw (lt-ltb f g.functions l, (function_at g f l).sort_is) (bit_told (g.entry f)))
      (λ (m : g.functions ≤ f). rw (le-ltb f g.functions m) (sym (d.no_entry f m)))
      (cases_lt f g.functions))

  edge_there : (a b : ℕ) → (program_of (bytes_of g)).edge a b ≡ true → g.edge a b ≡ true
  edge_there a b t =
      let e = edge_which (bytes_of g) a b t in
      let r = edge_record (bytes_of g) e.0 in
      let low : r < records (bytes_of g) = omega (arith, records_are g, functions_are g w, nodes_are g w, edges_are g w, e.1) in
      let v = pair_at g w r (omega (arith, functions_are g w, nodes_are g w)) low in
      ap₂ g.edge (sym e.2 ∙ v.3.a_is) (sym e.3 ∙ v.3.b_is) ∙ v.1

  edge_back : (a b : ℕ) → g.edge a b ≡ true → (program_of (bytes_of g)).edge a b ≡ true
  edge_back a b t =
      let p = place a b in
      let ends = w.edge_together a b t in
      let from : p / 512 ≡ a = omega (arith, ends.to_exists, w.few_nodes) in
      let to : p % 512 ≡ b = omega (arith, ends.to_exists, w.few_nodes) in
      let is = ap₂ g.edge from to ∙ t in
      let e = count (is_pair g) p in
      let there : edge_record (bytes_of g) e ≡ edge_place g p = omega (arith, functions_are g w, nodes_are g w) in
      let x = edge_at g w p is in
      let low : e < edges (bytes_of g) = omega (arith, edges_are g w, pair_counted g w p is) in
      edge_read (bytes_of g) a b (e, low, ap (field_a (bytes_of g)) there ∙ x.a_is ∙ from, ap (field_b (bytes_of g)) there ∙ x.b_is ∙ to)

  edge_same : (program_of (bytes_of g)).edge ≡ g.edge
  edge_same = fun_ext (λ a. fun_ext (λ b. same_test _ _ (edge_there a b) (edge_back a b)))

  pub bytes_describe : program_of (bytes_of g) ≡ g
  unfolding program_of
  bytes_describe = λ i. record {
    functions = functions_are g w i;
    nodes = nodes_are g w i;
    entry = λ f. entry_same f i;
    first = λ f. of_function _ g.first (λ f h. (function_at g f h).a_is) d.no_first f i;
    exit = λ f. of_function _ g.exit (λ f h. (function_at g f h).b_is) d.no_exit f i;
    frame = λ f. of_function _ g.frame (λ f h. (function_at g f h).c_is) d.no_frame f i;
    sort = λ n. of_node _ g.sort (λ n h. (node_reads g w n h).sort_is) d.no_sort n i;
    owner = λ n. of_node _ g.owner (λ n h. (node_reads g w n h).a_is) d.no_owner n i;
    target = λ n. of_node _ g.target (λ n h. (node_reads g w n h).b_is) d.no_target n i;
    edge = edge_same i;
  }
