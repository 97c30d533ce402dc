-- Document 02, "One order for edges": the bytes of a program are those of the table that describes it and has its edges in order.
use Rattle.std.specs.Prelude.{ℕ, zero, suc, ◌/◌, ◌%◌, ◌<◌, ◌≤◌, ◌≡◌, cond, false, List, [], ◌∷◌, ◌++◌, length, get_or}
use Rattle.table.specs.Program.{Program}

-- the fields of a record
pub record Fields : Type 0 where
  pub kind : ℕ
  pub sort : ℕ
  pub a : ℕ
  pub b : ℕ
  pub c : ℕ

-- "Byte 0 is the kind and byte 1 the sort. Then come three 16-bit little-endian numbers a, b, c."
abbrev pub record_bytes : Fields → List ℕ
record_bytes x = x.kind ∷ x.sort ∷ x.a % 256 ∷ x.a / 256 ∷ x.b % 256 ∷ x.b / 256 ∷ x.c % 256 ∷ x.c / 256 ∷ []

-- of one record after the other
abbrev pub bytes : List Fields → List ℕ
bytes [] = []
bytes (x ∷ xs) = record_bytes x ++ bytes xs

-- what there is for each number below n: for 0, then for 1, and so on
unfoldable pub each : {X : Type 0} → ℕ → (ℕ → List X) → List X
each zero of = []
each (suc n) of = each n of ++ of n

-- "Function, kind 1. Sort 1 is an entry, sort 0 is not. a is the first node, b the exit node, c the frame in bytes."
abbrev pub function_fields : Program → ℕ → Fields
function_fields g f = record { kind = 1; sort = cond (g.entry f) 1 0; a = g.first f; b = g.exit f; c = g.frame f }

-- "Node, kind 2. [..] a is the owning function. b is the target function of a call or spawn, else 0. c is 0."
abbrev pub node_fields : Program → ℕ → Fields
node_fields g n = record { kind = 2; sort = g.sort n; a = g.owner n; b = g.target n; c = 0 }

-- "Edge, kind 3. Sort 0. Control may pass from node a to node b. c is 0."
abbrev pub edge_fields : ℕ → ℕ → Fields
edge_fields a b = record { kind = 3; sort = 0; a = a; b = b; c = 0 }

-- "Functions stand first, then nodes"
unfoldable pub front_records : Program → List Fields
front_records g = each g.functions (λ f. function_fields g f ∷ []) ++ each g.nodes (λ n. node_fields g n ∷ [])

-- "then edges", which "ascend by from-node and then to-node, each once": all pairs of nodes with an edge
unfoldable pub edge_records : Program → List Fields
edge_records g = each g.nodes (λ a. each g.nodes (λ b. cond (g.edge a b) (edge_fields a b ∷ []) []))

unfoldable pub bytes_of : Program → List ℕ
bytes_of g = bytes (front_records g ++ edge_records g)

-- a list of bytes
abbrev pub Bytes : List ℕ → Type 0
Bytes t = (i : ℕ) → get_or t i 0 < 256

-- A program that a table can describe: "At most [..] 1,024 edges", a frame is one of "0 to 65,535", and of functions and nodes that there are not it says
-- nothing but 0 (`program_of`).
pub record Describable (g : Program) : Type 0 where
  pub few_edges : length (edge_records g) ≤ 1024
  pub frame_fits : (f : ℕ) → f < g.functions → g.frame f ≤ 65535
  pub no_entry : (f : ℕ) → g.functions ≤ f → g.entry f ≡ false
  pub no_first : (f : ℕ) → g.functions ≤ f → g.first f ≡ 0
  pub no_exit : (f : ℕ) → g.functions ≤ f → g.exit f ≡ 0
  pub no_frame : (f : ℕ) → g.functions ≤ f → g.frame f ≡ 0
  pub no_sort : (n : ℕ) → g.nodes ≤ n → g.sort n ≡ 0
  pub no_owner : (n : ℕ) → g.nodes ≤ n → g.owner n ≡ 0
  pub no_target : (n : ℕ) → g.nodes ≤ n → g.target n ≡ 0
