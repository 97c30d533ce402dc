-- For the contracts of the search along edges. Helps proofs only: no public promise rests on it.
use Rattle.std.specs.Prelude.{ℕ, ◌<◌, ◌≤◌, ◌≡◌, List, Bool, true, false, eqb, get_or, length}
use Rattle.table.specs.Record.{edge_from}
use Rattle.table.specs.Program.{Program}
use Rattle.sync.specs.declared.found.Found.{Found}
use Rattle.sync.specs.Pass.{Through}
use Rattle.sync.specs.Words.{member}

-- the e-th edge comes from node a
abbrev pub edge_of : List ℕ → ℕ → ℕ → Bool
edge_of t a e = eqb a (edge_from t e)

-- the node that was found at a place
abbrev pub node_at : Found → ℕ → ℕ
node_at f i = get_or f.nodes.items i 0

-- a search from node s has found nodes that paths lead to, and s among them
pub record Finds (g : Program) (avoid : ℕ → Bool) (s : ℕ) (f : Found) : Type 0 where
  pub sound : (i : ℕ) → i < length f.nodes.items → Through g avoid s (node_at f i)
  pub places : (n : ℕ) → member f.set n ≡ true → (i : ℕ) × (i < length f.nodes.items) × (node_at f i ≡ n)
  pub starts : member f.set s ≡ true

-- what was found stays where it is
pub record Keeps (old new : Found) : Type 0 where
  pub longer : length old.nodes.items ≤ length new.nodes.items
  pub stays : (i : ℕ) → i < length old.nodes.items → node_at new i ≡ node_at old i
  pub members : (n : ℕ) → member old.set n ≡ true → member new.set n ≡ true

-- node n is found now, if it is not to be avoided
pub record Offered (avoid : ℕ → Bool) (n : ℕ) (old new : Found) : Type 0 where
  pub keeps : Keeps old new
  pub finds : (g : Program) (s : ℕ) → Finds g avoid s old → (avoid n ≡ false → Through g avoid s n) → Finds g avoid s new
  pub found : avoid n ≡ false → member new.set n ≡ true

-- all nodes are that the edges of node a lead to
pub record Leaves (g : Program) (avoid : ℕ → Bool) (a : ℕ) (old new : Found) : Type 0 where
  pub keeps : Keeps old new
  pub finds : (s : ℕ) → Finds g avoid s old → Through g avoid s a → Finds g avoid s new
  pub found : (b : ℕ) → g.edge a b ≡ true → avoid b ≡ false → member new.set b ≡ true
