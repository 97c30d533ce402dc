-- What the readers of a program ask and give, in the counts that the code holds.
use Prim.Native.Nat.{ℕ, ◌+◌, ◌<◌, ◌≤◌}
use mathlib.Core.Path.{◌≡◌, refl, sym, ap, ap₂, ◌∙◌}
use mathlib.Core.List.{List}
use mathlib.Core.Bool.{true}
use native.Mathlib.Omega.{arith}
use lib.Dec.{eqb}
use Rattle.table.specs.Record.{sync, sort_of, field_a, field_b, field_c, edge_record, edge_from, edge_to}
use Rattle.table.specs.Answer.{Ready}
use Rattle.table.specs.Program.{program_of}
use Rattle.table.specs.WellFormed.{WellFormed}
use Rattle.table.specs.declared.Counts.{Counts}
use Rattle.table.proofs.Laws.{well_formed, functions_read, nodes_read, entry_read, first_read, exit_read, frame_read, sort_read, owner_read, target_read, edge_read}
use Rattle.table.proofs.Laws as laws

module _ (t : List ℕ) (c : Counts) (r : Ready t c) where
  formed : WellFormed (program_of t)
  formed = well_formed t r.accepted_is

  -- the counts are small: no sum of record numbers wraps
  pub few_nodes : c.nodes ≤ 512
  few_nodes = omega (arith, formed.few_nodes, nodes_read t, r.counts_are.nodes_are)

  pub few_functions : c.functions ≤ 64
  few_functions = omega (arith, formed.few_functions, functions_read t, r.counts_are.functions_are)

  pub few_edges : c.edges ≤ 1024
  few_edges = omega (arith, laws.few_edges t r.accepted_is, r.counts_are.edges_are)

  pub few_records : c.functions + c.nodes + c.edges ≤ 1600
  few_records = omega (arith, few_nodes, few_functions, few_edges)

  -- and they are the program's
  pub functions_are : c.functions ≡ (program_of t).functions
  functions_are = r.counts_are.functions_are ∙ sym (functions_read t)

  pub nodes_are : c.nodes ≡ (program_of t).nodes
  nodes_are = r.counts_are.nodes_are ∙ sym (nodes_read t)

  -- the e-th edge is one
  pub edge_is : (e : ℕ) → e < c.edges → (program_of t).edge (edge_from t e) (edge_to t e) ≡ true
  edge_is e h = edge_read t _ _ (e, omega (arith, r.counts_are.edges_are), refl, refl)

  -- what the readers give, from the field that they read
  pub entry_given : (f x : ℕ) → f < c.functions → x ≡ sort_of t f → eqb x 1 ≡ (program_of t).entry f
  entry_given f x h e = ap (λ (s : ℕ). eqb s 1) e ∙ sym (entry_read t f (omega (arith, r.counts_are.functions_are)))

  pub first_given : (f x : ℕ) → f < c.functions → x ≡ field_a t f → (x ≡ (program_of t).first f) × (x < c.nodes)
  first_given f x h e =
      let y : x ≡ (program_of t).first f = e ∙ sym (first_read t f (omega (arith, r.counts_are.functions_are))) in
      (y, omega (arith, nodes_are, (formed.first_own f (omega (arith, functions_are))).exists))

  pub exit_given : (f x : ℕ) → f < c.functions → x ≡ field_b t f → (x ≡ (program_of t).exit f) × (x < c.nodes)
  exit_given f x h e =
      let y : x ≡ (program_of t).exit f = e ∙ sym (exit_read t f (omega (arith, r.counts_are.functions_are))) in
      (y, omega (arith, nodes_are, (formed.exit_own f (omega (arith, functions_are))).exists))

  pub frame_given : (f x : ℕ) → f < c.functions → x ≡ field_c t f → x ≡ (program_of t).frame f
  frame_given f x h e = e ∙ sym (frame_read t f (omega (arith, r.counts_are.functions_are)))

  pub sort_given : (n x : ℕ) → n < c.nodes → x ≡ sort_of t (c.functions + n) → x ≡ (program_of t).sort n
  sort_given n x h e =
      e ∙ ap (λ (m : ℕ). sort_of t (m + n)) r.counts_are.functions_are ∙ sym (sort_read t n (omega (arith, r.counts_are.nodes_are)))

  pub sort_few : (n : ℕ) → n < c.nodes → (program_of t).sort n ≤ sync
  sort_few n h = formed.sort_listed n (omega (arith, nodes_are))

  pub owner_given : (n x : ℕ) → n < c.nodes → x ≡ field_a t (c.functions + n) → (x ≡ (program_of t).owner n) × (x < c.functions)
  owner_given n x h e =
      let y : x ≡ (program_of t).owner n =
      e ∙ ap (λ (m : ℕ). field_a t (m + n)) r.counts_are.functions_are ∙ sym (owner_read t n (omega (arith, r.counts_are.nodes_are))) in
      (y, omega (arith, functions_are, formed.owner_exists n (omega (arith, nodes_are))))

  pub target_given : (n x : ℕ) → n < c.nodes → x ≡ field_b t (c.functions + n) → (x ≡ (program_of t).target n) × (x < c.functions)
  target_given n x h e =
      let y : x ≡ (program_of t).target n =
      e ∙ ap (λ (m : ℕ). field_b t (m + n)) r.counts_are.functions_are ∙ sym (target_read t n (omega (arith, r.counts_are.nodes_are))) in
      (y, omega (arith, functions_are, formed.target_exists n (omega (arith, nodes_are))))

  -- where the e-th edge record stands
  edge_at : (field : List ℕ → ℕ → ℕ) (e : ℕ) → field t (c.functions + c.nodes + e) ≡ field t (edge_record t e)
  edge_at field e = ap₂ (λ (m n : ℕ). field t (m + n + e)) r.counts_are.functions_are r.counts_are.nodes_are

  pub from_given : (e x : ℕ) → e < c.edges → x ≡ field_a t (c.functions + c.nodes + e) → (x ≡ edge_from t e) × (x < c.nodes)
  from_given e x h q =
      let y : x ≡ edge_from t e = q ∙ edge_at field_a e in
      (y, omega (arith, nodes_are, (formed.edge_together _ _ (edge_is e h)).from_exists))

  pub to_given : (e x : ℕ) → e < c.edges → x ≡ field_b t (c.functions + c.nodes + e) → (x ≡ edge_to t e) × (x < c.nodes)
  to_given e x h q =
      let y : x ≡ edge_to t e = q ∙ edge_at field_b e in
      (y, omega (arith, nodes_are, (formed.edge_together _ _ (edge_is e h)).to_exists))
