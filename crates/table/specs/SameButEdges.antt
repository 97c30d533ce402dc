-- "Edges may stand in any order and may repeat; neither matters to any result": two tables that differ in nothing else. Document 02 lets one of them be
-- accepted (check 15) and has a writer that makes it from any other.
-- Their programs are equal (`same_program` in proofs/Laws.antt), so whatever is stated over programs is the same for both.
use Rattle.std.specs.Prelude.{ℕ, ◌+◌, ◌*◌, ◌<◌, ◌≡◌, List, take}
use Rattle.table.specs.Record.{functions, nodes, edges, edge_from, edge_to}

-- some edge record of t goes from a to b
abbrev pub HasEdge : List ℕ → ℕ → ℕ → Type 0
HasEdge t a b = (e : ℕ) × (e < edges t) × (edge_from t e ≡ a) × (edge_to t e ≡ b)

-- the bytes of the function and node records
abbrev pub front : List ℕ → List ℕ
front t = take ((functions t + nodes t) * 8) t

pub record SameButEdges (t u : List ℕ) : Type 0 where
  pub functions_same : functions t ≡ functions u
  pub nodes_same : nodes t ≡ nodes u
  pub front_same : front t ≡ front u
  -- each edge of one is an edge of the other, in any order and any number of times
  pub there : (e : ℕ) → e < edges t → HasEdge u (edge_from t e) (edge_to t e)
  pub back : (e : ℕ) → e < edges u → HasEdge t (edge_from u e) (edge_to u e)
