-- What the checks see to: what holds of the program of every accepted table (`well_formed` in proofs/Laws.antt), and all that the crates above know of one.
use Rattle.std.specs.Prelude.{ℕ, ◌<◌, ◌≤◌, ◌≡◌, true, false}
use Rattle.table.specs.Record.{plain, sync, has_target}
use Rattle.table.specs.Program.{Program}

-- node n exists, is plain and is owned by function f
pub record PlainOwn (g : Program) (f n : ℕ) : Type 0 where
  pub exists : n < g.nodes
  pub plain_is : g.sort n ≡ plain
  pub owner_is : g.owner n ≡ f

-- nodes a and b exist and have one owner
pub record Together (g : Program) (a b : ℕ) : Type 0 where
  pub from_exists : a < g.nodes
  pub to_exists : b < g.nodes
  pub owner_same : g.owner a ≡ g.owner b

pub record WellFormed (g : Program) : Type 0 where
  -- "At most 64 functions, 512 nodes"
  pub few_functions : g.functions ≤ 64
  pub few_nodes : g.nodes ≤ 512
  -- an entry exists
  pub some_entry : (f : ℕ) × (f < g.functions) × (g.entry f ≡ true)
  -- first and exit node of a function exist, and are plain and its own
  pub first_own : (f : ℕ) → f < g.functions → PlainOwn g f (g.first f)
  pub exit_own : (f : ℕ) → f < g.functions → PlainOwn g f (g.exit f)
  -- a node's sort is a listed one, its owner exists, and so does the target of a call or spawn; of other nodes the target is 0
  pub sort_listed : (n : ℕ) → n < g.nodes → g.sort n ≤ sync
  pub owner_exists : (n : ℕ) → n < g.nodes → g.owner n < g.functions
  pub target_exists : (n : ℕ) → n < g.nodes → g.target n < g.functions
  pub target_none : (n : ℕ) → n < g.nodes → has_target (g.sort n) ≡ false → g.target n ≡ 0
  -- an edge joins two nodes of one function
  pub edge_together : (a b : ℕ) → g.edge a b ≡ true → Together g a b
