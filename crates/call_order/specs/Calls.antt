-- Document 02, Ask 3: which functions a function calls, and which it reaches by calls. Spawns don't count.
use Rattle.std.specs.Prelude.{ℕ, ◌<◌, ◌≡◌}
use Rattle.table.specs.Record.{call}
use Rattle.table.specs.Program.{Program}

-- h is one of the "call targets" of f: a call in any node of f counts.
pub record Calls (g : Program) (f h : ℕ) : Type 0 where
  pub node : ℕ
  pub exists : node < g.nodes
  pub call_is : g.sort node ≡ call
  pub owner_is : g.owner node ≡ f
  pub target_is : g.target node ≡ h

-- "reach [..] by calls": by one call or more. So a function that calls itself reaches itself, and one that is in no circle of calls doesn't.
pub data Reaches (g : Program) : ℕ → ℕ → Type 0 where
  one : {f h : ℕ} → Calls g f h → Reaches g f h
  more : {f m h : ℕ} → Reaches g f m → Calls g m h → Reaches g f h

-- "no function reaches itself by calls"
abbrev pub NoneReachesItself : Program → Type 0
NoneReachesItself g = (f : ℕ) → Reaches g f f → ⊥
