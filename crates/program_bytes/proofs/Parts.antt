-- The records of a program's bytes, each in its place: function f is record f, then come the nodes, then the edges, by the pairs that they are.
use Prim.Native.Nat.{ℕ, ◌+◌, ◌-◌, ◌*◌, ◌<◌, ◌≤◌}
use mathlib.Core.Path.{◌≡◌, sym, ap, ap₂, ◌∙◌, subst}
use mathlib.Core.Bool.{true, cond}
use mathlib.Core.List.{List, [], ◌∷◌, ◌++◌}
use mathlib.Core.Logic.{⊎_elim}
use native.Mathlib.Omega.{arith}
use lib.Dec.{eqb}
use lib.ListN.{length, get_or, length-append, get_or-append}
use Rattle.std.proofs.lemmas.Bool.{cases_lt}
use Rattle.std.proofs.lemmas.List.{get_or-append-add}
use Rattle.table.specs.Below.{count}
use Rattle.table.specs.Record.{records, kind_of, functions, nodes, edges, node_record}
use Rattle.table.specs.Program.{Program}
use Rattle.table.specs.WellFormed.{WellFormed}
use Rattle.program_bytes.specs.Bytes.{Fields, each, function_fields, node_fields, front_records, edge_records, bytes_of}
use Rattle.program_bytes.proofs.Each.{count_rises, count_apart, count_steady, passing_long, passing_at, passing_which, ones_long, ones_at}
use Rattle.program_bytes.specs.Pairs.{pair_fields, is_pair}
use Rattle.program_bytes.proofs.Pairs.{edges_in_row}
use Rattle.program_bytes.proofs.Reading.{Reads, reads, records_bytes}

abbrev pub all_records : Program → List Fields
all_records g = front_records g ++ edge_records g

abbrev pub edge_number : Program → ℕ
edge_number g = length (edge_records g)

front_long : (g : Program) → length (front_records g) ≡ g.functions + g.nodes
unfolding front_records
front_long g = length-append _ _ ∙ ap₂ (λ (m n : ℕ). m + n) (ones_long (function_fields g) g.functions) (ones_long (node_fields g) g.nodes)

all_long : (g : Program) → length (all_records g) ≡ g.functions + g.nodes + edge_number g
all_long g = omega (arith, front_long g, length-append (front_records g) (edge_records g))

pub records_are : (g : Program) → records (bytes_of g) ≡ g.functions + g.nodes + edge_number g
unfolding bytes_of
records_are g = records_bytes (all_records g) ∙ all_long g

-- where the edge of pair p stands: after as many edges as there are pairs before it
abbrev pub edge_place : Program → ℕ → ℕ
edge_place g p = g.functions + g.nodes + count (is_pair g) p

module _ (g : Program) where
  at_place : (r : ℕ) (x : Fields) → r < g.functions + g.nodes + edge_number g → get_or (all_records g) r x ≡ x → Reads (bytes_of g) r x
  unfolding bytes_of
  at_place r x h e = subst (Reads (bytes_of g) r) e (reads (all_records g) r x (omega (arith, all_long g)))

  pub function_at : (f : ℕ) → f < g.functions → Reads (bytes_of g) f (function_fields g f)
  unfolding front_records
  function_at f h =
      let x = function_fields g f in
      at_place
      f
      x
      (omega arith)
      (get_or-append (front_records g) (edge_records g) x f (omega (arith, front_long g))
      ∙ get_or-append _ _ x f (omega (arith, ones_long (function_fields g) g.functions))
      ∙ ones_at (function_fields g) g.functions f x h)

  pub node_at : (n : ℕ) → n < g.nodes → Reads (bytes_of g) (g.functions + n) (node_fields g n)
  unfolding front_records
  node_at n h =
      let x = node_fields g n in
      let before = each g.functions (λ f. function_fields g f ∷ []) in
      let nodes = each g.nodes (λ n. node_fields g n ∷ []) in
      at_place
      (g.functions + n)
      x
      (omega arith)
      (get_or-append (front_records g) (edge_records g) x (g.functions + n) (omega (arith, front_long g))
      ∙ ap (λ (m : ℕ). get_or (before ++ nodes) (m + n) x) (sym (ones_long (function_fields g) g.functions))
      ∙ get_or-append-add before nodes n x
      ∙ ones_at (node_fields g) g.nodes n x h)

module _ (g : Program) (w : WellFormed g) where
  edge_number_is : edge_number g ≡ count (is_pair g) (g.nodes * 512)
  edge_number_is = ap (λ (xs : List Fields). length xs) (edges_in_row g w) ∙ passing_long pair_fields (is_pair g) (g.nodes * 512)

  pair_low : (p : ℕ) → is_pair g p ≡ true → p < g.nodes * 512
  pair_low p t = omega (arith, (w.edge_together _ _ t).from_exists)

  pub pair_counted : (p : ℕ) → is_pair g p ≡ true → count (is_pair g) p < edge_number g
  pair_counted p t = omega (arith, edge_number_is, count_rises (is_pair g) (g.nodes * 512) p (pair_low p t) t)

  -- each pair has its edge
  pub edge_at : (p : ℕ) → is_pair g p ≡ true → Reads (bytes_of g) (edge_place g p) (pair_fields p)
  edge_at p t =
      let x = pair_fields p in
      let e = count (is_pair g) p in
      at_place
      g
      (edge_place g p)
      x
      (omega (arith, pair_counted p t))
      (ap (λ (m : ℕ). get_or (all_records g) (m + e) x) (sym (front_long g))
      ∙ get_or-append-add (front_records g) (edge_records g) e x
      ∙ ap (λ (xs : List Fields). get_or xs e x) (edges_in_row g w)
      ∙ passing_at pair_fields (is_pair g) (g.nodes * 512) p x (pair_low p t) t)

  -- and each record after the nodes its pair
  pub pair_at : (r : ℕ) → g.functions + g.nodes ≤ r → r < records (bytes_of g)
      → (p : ℕ) × (is_pair g p ≡ true) × (edge_place g p ≡ r) × Reads (bytes_of g) r (pair_fields p)
  pair_at r m h =
      let e = r - (g.functions + g.nodes) in
      let v = passing_which pair_fields (is_pair g) (g.nodes * 512) e (omega (arith, records_are g, ap (λ (xs : List Fields). length xs) (edges_in_row g w))) in
      let there : edge_place g v.0 ≡ r = omega (arith, v.3) in
      (v.0, v.2, there, subst (λ (k : ℕ). Reads (bytes_of g) k (pair_fields v.0)) there (edge_at v.0 v.2))

  -- every record is one of these
  pub each_record : (P : ℕ → Type 0)
      → ((f : ℕ) → f < g.functions → Reads (bytes_of g) f (function_fields g f) → P f)
      → ((n : ℕ) → n < g.nodes → Reads (bytes_of g) (g.functions + n) (node_fields g n) → P (g.functions + n))
      → ((p : ℕ) → is_pair g p ≡ true → Reads (bytes_of g) (edge_place g p) (pair_fields p) → P (edge_place g p))
      → (r : ℕ) → r < records (bytes_of g) → P r
  each_record P function node edge r h =
      ⊎_elim
      (λ (l : r < g.functions). function r l (function_at g r l))
      (λ (m : g.functions ≤ r).
      ⊎_elim
      (λ (l : r < g.functions + g.nodes).
      let n = r - g.functions in
      let b : n < g.nodes = omega arith in
      subst P (omega arith) (node n b (node_at g n b)))
      (λ (m : g.functions + g.nodes ≤ r). let v = pair_at r m h in subst P v.2 (edge v.0 v.1 (edge_at v.0 v.1)))
      (cases_lt r (g.functions + g.nodes)))
      (cases_lt r g.functions)

  -- how many records are of kind k
  of_kind_are : (k : ℕ)
      → count (λ r. eqb (kind_of (bytes_of g) r) k) (records (bytes_of g))
      ≡ cond (eqb 1 k) g.functions 0 + cond (eqb 2 k) g.nodes 0 + cond (eqb 3 k) (edge_number g) 0
  of_kind_are k =
      let is_kind = λ (r : ℕ). eqb (kind_of (bytes_of g) r) k in
      let front = g.functions + g.nodes in
      ap (count is_kind) (records_are g)
      ∙ count_apart is_kind front (edge_number g)
      ∙ ap₂
      (λ (m n : ℕ). m + n)
      (count_apart is_kind g.functions g.nodes
      ∙ ap₂
      (λ (m n : ℕ). m + n)
      (count_steady is_kind (eqb 1 k) g.functions (λ f h. ap (λ (m : ℕ). eqb m k) (function_at g f h).kind_is))
      (count_steady _ (eqb 2 k) g.nodes (λ n h. ap (λ (m : ℕ). eqb m k) (node_at g n h).kind_is)))
      (count_steady _ (eqb 3 k) (edge_number g) (λ e h. ap (λ (m : ℕ). eqb m k) (pair_at (front + e) (omega arith) (omega (arith, records_are g))).3.kind_is))

  pub functions_are : functions (bytes_of g) ≡ g.functions
  unfolding functions
  functions_are = omega (arith, of_kind_are 1)

  pub nodes_are : nodes (bytes_of g) ≡ g.nodes
  unfolding nodes
  nodes_are = omega (arith, of_kind_are 2)

  pub edges_are : edges (bytes_of g) ≡ edge_number g
  unfolding edges
  edges_are = omega (arith, of_kind_are 3)

  -- node n as the table has it
  pub node_reads : (n : ℕ) → n < g.nodes → Reads (bytes_of g) (node_record (bytes_of g) n) (node_fields g n)
  node_reads n h = subst (λ (m : ℕ). Reads (bytes_of g) (m + n) (node_fields g n)) (sym functions_are) (node_at g n h)
