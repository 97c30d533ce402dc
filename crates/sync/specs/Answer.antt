-- What the answer says of its two sets.
use Rattle.std.specs.Prelude.{ℕ, ◌<◌, ◌≡◌, List, true}
use Rattle.table.specs.Program.{Program}
use Rattle.sync.specs.Synchronising.{Synchronising, Reached}
use Rattle.sync.specs.Words.{member}

-- every bit of both sets of words: the synchronising nodes, none that does not exist, and the nodes that are reached without them
pub record Sets (g : Program) (synchronising reached : List ℕ) : Type 0 where
  pub set : Synchronising g (member synchronising)
  pub exists : (n : ℕ) → member synchronising n ≡ true → n < g.nodes
  pub reach : Reached g (member synchronising) (member reached)
