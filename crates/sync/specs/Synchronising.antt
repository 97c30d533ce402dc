-- Document 01, "Synchronising nodes": the smallest set with two rules. A set of nodes is a test.
use Rattle.std.specs.Prelude.{ℕ, ◌<◌, ◌≡◌, Bool, true, ◌↔◌}
use Rattle.table.specs.Record.{sync, call}
use Rattle.table.specs.Program.{Program}
use Rattle.sync.specs.Paths.{Path, Holds, Clear}

-- "A sync is synchronising. A call is synchronising if every path from its target's first node to the target's exit holds a synchronising
-- node." A set that keeps these two rules. ("With no such path at all, the call is synchronising": then every path holds one.)
pub record Closed (g : Program) (set : ℕ → Bool) : Type 0 where
  pub syncs : (n : ℕ) → g.sort n ≡ sync → set n ≡ true
  pub calls : (n : ℕ) → g.sort n ≡ call → ((p : Path g (g.first (g.target n)) (g.exit (g.target n))) → Holds set p) → set n ≡ true

-- "The set is the smallest with these two rules."
pub record Synchronising (g : Program) (set : ℕ → Bool) : Type 0 where
  pub closed : Closed g set
  pub smallest : (other : ℕ → Bool) → Closed g other → (n : ℕ) → set n ≡ true → other n ≡ true

-- n is reached from its function's first node by a path none of whose nodes after the first is in the set
abbrev pub ReachedBy : Program → (ℕ → Bool) → ℕ → Type 0
ReachedBy g set n = (n < g.nodes) × ((p : Path g (g.first (g.owner n)) n) × Clear set p)

-- the nodes that are so reached
abbrev pub Reached : Program → (ℕ → Bool) → (ℕ → Bool) → Type 0
Reached g set reached = (n : ℕ) → (reached n ≡ true) ↔ ReachedBy g set n
