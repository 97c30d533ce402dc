-- Document 02, Ask 3: the call order. "At each place the lowest-numbered one left whose call targets each stand earlier or reach it back by calls."
use Rattle.std.specs.Prelude.{ℕ, ◌<◌, ◌≡◌, ◌⊎◌, List, get_or}
use Rattle.table.specs.Program.{Program}
use Rattle.call_order.specs.Calls.{Calls, Reaches}

-- h "stands earlier" than place i
abbrev pub Stands : (ℕ → ℕ) → ℕ → ℕ → Type 0
Stands order i h = (j : ℕ) × (j < i) × (order j ≡ h)

-- "whose call targets each stand earlier or reach it back by calls"
abbrev pub MayCome : Program → (ℕ → ℕ) → ℕ → ℕ → Type 0
MayCome g order i f = (h : ℕ) → Calls g f h → Stands order i h ⊎ Reaches g h f

-- "the lowest-numbered one left": f exists and doesn't stand earlier than place i, f may come there, and no lower one does both
pub record Next (g : Program) (order : ℕ → ℕ) (i f : ℕ) : Type 0 where
  pub exists : f < g.functions
  pub left : Stands order i f → ⊥
  pub may : MayCome g order i f
  pub lowest : (x : ℕ) → x < f → (Stands order i x → ⊥) → MayCome g order i x → ⊥

-- the function at each place, where the functions stand in a list
abbrev pub places : List ℕ → ℕ → ℕ
places functions i = get_or functions i 0

-- "at each place": there is one for each function
pub record CallOrder (g : Program) (order : ℕ → ℕ) : Type 0 where
  pub each : (i : ℕ) → i < g.functions → Next g order i (order i)
