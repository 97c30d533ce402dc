-- What the crates above may use of this one: the statements, with their proofs elsewhere.
use Prim.Native.Nat.{ℕ, ◌+◌, ◌*◌, ◌<◌, ◌≤◌}
use mathlib.Core.Path.{◌≡◌}
use mathlib.Core.List.{List}
use lib.Dec.{eqb}
use lib.ListN.{length, take}
use Rattle.table.specs.Below.{any}
use Rattle.table.specs.Record.{functions, nodes, edges}
use Rattle.table.specs.Checks.{FreeOrder, Accepted}
use Rattle.table.specs.Program.{Program, program_of}
use Rattle.table.specs.WellFormed.{WellFormed}
use Rattle.program_bytes.specs.Bytes.{Bytes, Describable, bytes, front_records, edge_records, bytes_of}
use Rattle.program_bytes.specs.Pairs.{is_pair, pair_of, pairs_to}
use Rattle.program_bytes.proofs.Own as own
use Rattle.program_bytes.proofs.Edges as edge
use Rattle.program_bytes.proofs.Pairs as pairs
use Rattle.program_bytes.proofs.Passed as passed
use Rattle.program_bytes.proofs.Described as described
use Rattle.program_bytes.proofs.Fit as fit

-- ---- two laws about a table and its program: an accepted table is the bytes of its own program
pub own_bytes : (t : List ℕ) → Accepted t → Bytes t → bytes_of (program_of t) ≡ t
own_bytes = edge.bytes_same

-- and the bytes of a well-formed program that a table can describe are accepted and describe it; each of them is a byte
module _ (g : Program) (w : WellFormed g) (d : Describable g) where
  pub bytes_accepted : Accepted (bytes_of g)
  bytes_accepted = passed.bytes_accepted g w d

  pub bytes_describe : program_of (bytes_of g) ≡ g
  bytes_describe = described.bytes_describe g w d

  pub bytes_fit : Bytes (bytes_of g)
  bytes_fit = fit.bytes_fit g w d

-- ---- for a writer

-- the edges of a program are those of its pairs in a row
pub edges_in_row : (g : Program) → WellFormed g → edge_records g ≡ pairs_to (is_pair g) (g.nodes * 512)
edges_in_row = pairs.edges_in_row

module _ (t : List ℕ) (free : FreeOrder t) where
  -- the front of a table in free order is that of the bytes of its program
  pub own_front : Bytes t → bytes (front_records (program_of t)) ≡ take ((functions t + nodes t) * 8) t
  own_front = own.own_front t free

  -- its edges are the pairs with an edge
  pub pair_within : (e : ℕ) → e < edges t → pair_of t e < nodes t * 512
  pair_within = edge.pair_within t free

  pub pair_told : (p : ℕ) → any (λ e. eqb p (pair_of t e)) (edges t) ≡ is_pair (program_of t) p
  pair_told = edge.pair_told t free

  -- of which there are no more than edge records
  pub few_pairs : length (edge_records (program_of t)) ≤ edges t
  few_pairs = edge.few_pairs t free

  -- and a table can describe its program
  pub describable : Bytes t → Describable (program_of t)
  describable = edge.describable t free
