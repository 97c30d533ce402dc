-- Document 02, Ask 3: the search for synchronising calls goes over the functions in an order, and takes each once in a pass.
use Rattle.std.specs.Prelude.{ℕ, zero, suc, ◌≡◌, Bool, ◌&&◌, ◌||◌, eqb}
use Rattle.table.specs.Record.{call, sync}
use Rattle.table.specs.Program.{Program}
use Rattle.sync.specs.Paths.{Path, Clear}

-- a path gets through from a to n past the set: none of its nodes after the first is in it
abbrev pub Through : Program → (ℕ → Bool) → ℕ → ℕ → Type 0
Through g set a n = (p : Path g a n) × Clear set p

-- node n is a call of f
abbrev pub call_of : Program → ℕ → ℕ → Bool
call_of g f n = eqb (g.sort n) call && eqb f (g.target n)

-- What a look at f makes of the set: where no path gets through f from its first node to its exit past the set as it stands, all calls of it
-- are added at once, and else none.
pub data Look (g : Program) (f : ℕ) (before after : ℕ → Bool) : Type 0 where
  barred : (Through g before (g.first f) (g.exit f) → ⊥) → ((n : ℕ) → after n ≡ (before n || call_of g f n)) → Look g f before after
  passed : Through g before (g.first f) (g.exit f) → ((n : ℕ) → after n ≡ before n) → Look g f before after

-- What looks at the first k functions of an order make of it, one after another: each sees what those before it have added.
pub data Looks (g : Program) (order : ℕ → ℕ) (from : ℕ → Bool) : ℕ → (ℕ → Bool) → Type 0 where
  none : Looks g order from zero from
  more : {k : ℕ} {before after : ℕ → Bool} → Looks g order from k before → Look g (order k) before after → Looks g order from (suc k) after

-- "from the syncs alone"
abbrev pub SyncsAlone : Program → (ℕ → Bool) → Type 0
SyncsAlone g set = (n : ℕ) → set n ≡ eqb (g.sort n) sync
