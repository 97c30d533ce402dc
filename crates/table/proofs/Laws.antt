-- What the crates above may use of this one beside the promises of its functions: the statements, with their proofs elsewhere.
use Prim.Native.Nat.{ℕ, ◌+◌, ◌*◌, ◌<◌, ◌≤◌}
use mathlib.Core.Path.{◌≡◌, sym}
use mathlib.Core.List.{List}
use mathlib.Core.Bool.{true}
use Rattle.std.specs.Prelude.{Some, Ok, Err}
use lib.Dec.{eqb}
use lib.ListN.{length}
use Rattle.table.specs.Refusal.{refused_at, refusal}
use Rattle.table.specs.Record.{records, kind_of, sort_of, field_a, field_b, field_c, functions, nodes, edges, node_record, edge_record, node_sort, node_owner, node_target, edge_from, edge_to, plain}
use Rattle.table.specs.Checks.{free_checks, checks, FreeOrder, Accepted, above}
use Rattle.table.specs.Answer.{number_of, outcome, free_outcome, outcome_of, CountsOf, Ready}
use Rattle.table.specs.Program.{program_of}
use Rattle.table.specs.WellFormed.{WellFormed}
use Rattle.table.specs.SameButEdges.{SameButEdges, HasEdge}
use Rattle.table.specs.declared.Counts.{Counts}
use Rattle.table.specs.declared.refusal.Refused.{Refused}
use Rattle.table.proofs.Fields as fields
use Rattle.table.proofs.Rows as rows
use Rattle.table.proofs.Accepted as accepted
use Rattle.table.proofs.SameButEdges as same
use Rattle.table.proofs.Answer as answer
use Rattle.table.proofs.Ascending as order

module _ (t : List ℕ) where
  -- the two cases of an answer
  pub answer_accepted : (c : Counts) → outcome_of (Ok c) ≡ outcome t → Ready t c
  answer_accepted = answer.answer_accepted t

  pub answer_refused : (e : Refused) → outcome_of (Err e) ≡ outcome t → refusal checks t ≡ Some (refused_at (number_of e.cause) e.place)
  answer_refused = answer.answer_refused t

  -- the program's fields, as the table has them
  pub functions_read : (program_of t).functions ≡ functions t
  functions_read = fields.functions_read t

  pub nodes_read : (program_of t).nodes ≡ nodes t
  nodes_read = fields.nodes_read t

  pub entry_read : (f : ℕ) → f < functions t → (program_of t).entry f ≡ eqb (sort_of t f) 1
  entry_read = fields.entry_read t

  pub first_read : (f : ℕ) → f < functions t → (program_of t).first f ≡ field_a t f
  first_read = fields.first_read t

  pub exit_read : (f : ℕ) → f < functions t → (program_of t).exit f ≡ field_b t f
  exit_read = fields.exit_read t

  pub frame_read : (f : ℕ) → f < functions t → (program_of t).frame f ≡ field_c t f
  frame_read = fields.frame_read t

  pub sort_read : (n : ℕ) → n < nodes t → (program_of t).sort n ≡ node_sort t n
  sort_read = fields.sort_read t

  pub sort_past : (n : ℕ) → nodes t ≤ n → (program_of t).sort n ≡ plain
  sort_past = fields.sort_past t

  pub owner_read : (n : ℕ) → n < nodes t → (program_of t).owner n ≡ node_owner t n
  owner_read = fields.owner_read t

  pub target_read : (n : ℕ) → n < nodes t → (program_of t).target n ≡ node_target t n
  target_read = fields.target_read t

  pub edge_read : (a b : ℕ) → HasEdge t a b → (program_of t).edge a b ≡ true
  edge_read = fields.edge_read t

  pub edge_which : (a b : ℕ) → (program_of t).edge a b ≡ true → HasEdge t a b
  edge_which = fields.edge_which t

  -- the two cases of an answer where the order of edges is free
  pub free_accepted : (c : Counts) → outcome_of (Ok c) ≡ free_outcome t → FreeOrder t × CountsOf t c
  free_accepted = answer.free_accepted t

  pub free_refused : (e : Refused) → outcome_of (Err e) ≡ free_outcome t → refusal free_checks t ≡ Some (refused_at (number_of e.cause) e.place)
  free_refused = answer.free_refused t

  -- an accepted table is one in free order
  pub free_order : Accepted t → FreeOrder t
  free_order = order.free_order t

-- of a table in free order
module _ (t : List ℕ) (free : FreeOrder t) where
  -- it is its functions, then its nodes, then its edges, at most 1,024 of these
  pub free_records_are : functions t + nodes t + edges t ≡ records t
  free_records_are = accepted.records_are t free

  pub free_few_edges : edges t ≤ 1024
  free_few_edges = accepted.few_edges t free

  pub free_whole : length t ≡ records t * 8
  free_whole = accepted.whole t free

  -- Function f is record f, and what stands in it besides the fields of a program is what has to; so it is with nodes and edges.
  pub function_record_is : (f : ℕ) → f < functions t → (kind_of t f ≡ 1) × (sort_of t f ≤ 1)
  function_record_is f h = (rows.function_kind_lem t free f h, accepted.entry_listed t free f h)

  pub node_record_is : (n : ℕ) → n < nodes t → (kind_of t (node_record t n) ≡ 2) × (field_c t (node_record t n) ≡ 0)
  node_record_is n h = (rows.node_kind_lem t free n h, accepted.node_rest t free n h)

  pub edge_record_is : (e : ℕ) → e < edges t → (kind_of t (edge_record t e) ≡ 3) × (sort_of t (edge_record t e) ≡ 0) × (field_c t (edge_record t e) ≡ 0)
  edge_record_is e h = let w = accepted.edge_rest t free e h in (rows.edge_kind_lem t free e h, w.0, w.1)

  -- every other fact that the checks see to
  pub free_well_formed : WellFormed (program_of t)
  free_well_formed = accepted.well_formed t free

-- and so of an accepted one
module _ (t : List ℕ) (ok : Accepted t) where
  pub records_are : functions t + nodes t + edges t ≡ records t
  records_are = free_records_are t (free_order t ok)

  pub few_edges : edges t ≤ 1024
  few_edges = free_few_edges t (free_order t ok)

  -- function f is record f
  pub function_kind : (f : ℕ) → f < functions t → kind_of t f ≡ 1
  function_kind f h = (function_record_is t (free_order t ok) f h).0

  pub well_formed : WellFormed (program_of t)
  well_formed = free_well_formed t (free_order t ok)

  -- its edges ascend, each above all before it
  pub ascending : (e d : ℕ) → e < d → d < edges t → above (edge_from t d) (edge_to t d) (edge_from t e) (edge_to t e) ≡ true
  ascending = order.ascending t ok

-- "Edges may stand in any order and may repeat; neither matters to any result."
pub same_program : (t u : List ℕ) → SameButEdges t u → program_of t ≡ program_of u
same_program = same.same_program

pub same_back : (t u : List ℕ) → SameButEdges t u → SameButEdges u t
same_back t u s = record { functions_same = sym s.functions_same; nodes_same = sym s.nodes_same; front_same = sym s.front_same; there = s.back; back = s.there }
