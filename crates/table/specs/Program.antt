-- The program that a table describes: what every crate above is stated over. The order and the repetition of edge records do not show in it.
use Rattle.std.specs.Prelude.{ℕ, List, Bool, cond, ◌&&◌, eqb, ltb}
use Rattle.table.specs.Below.{any}
use Rattle.table.specs.Record.{sort_of, field_a, field_b, field_c, functions, nodes, edges, node_sort, node_owner, node_target, edge_from, edge_to}

pub record Program : Type 0 where
  pub functions : ℕ
  pub nodes : ℕ
  -- of a function: is it an entry, its first and exit node, its frame in bytes
  pub entry : ℕ → Bool
  pub first : ℕ → ℕ
  pub exit : ℕ → ℕ
  pub frame : ℕ → ℕ
  -- of a node: its sort (plain, call, spawn or sync of `Record`), its owning function, the target of a call or spawn
  pub sort : ℕ → ℕ
  pub owner : ℕ → ℕ
  pub target : ℕ → ℕ
  -- "Control may pass from node a to node b."
  pub edge : ℕ → ℕ → Bool

-- a number of item i of n, and 0 where there is no such item
abbrev pub within : ℕ → ℕ → ℕ → ℕ
within n i x = cond (ltb i n) x 0

-- "Function, kind 1. [..] a is the first node, b the exit node, c the frame in bytes."
unfoldable pub program_of : List ℕ → Program
program_of t = record {
  functions = functions t;
  nodes = nodes t;
  entry = λ f. ltb f (functions t) && eqb (sort_of t f) 1;
  first = λ f. within (functions t) f (field_a t f);
  exit = λ f. within (functions t) f (field_b t f);
  frame = λ f. within (functions t) f (field_c t f);
  sort = λ n. within (nodes t) n (node_sort t n);
  owner = λ n. within (nodes t) n (node_owner t n);
  target = λ n. within (nodes t) n (node_target t n);
  edge = λ a b. any (λ e. eqb (edge_from t e) a && eqb (edge_to t e) b) (edges t);
}
