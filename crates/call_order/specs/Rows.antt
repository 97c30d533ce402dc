-- How the call order is found: relations between functions, one word for each function. Helps proofs only.
use Rattle.std.specs.Prelude.{ℕ, ◌<◌, ◌≡◌, Bool, true, false, not, ◌&&◌, eqb, List, get_or, Option, MatchOption}
use Rattle.table.specs.Record.{call}
use Rattle.table.specs.Program.{Program}
use Rattle.word.specs.Bit.{bit}
use Rattle.call_order.specs.Calls.{Calls, Reaches}

-- bit h of word f
abbrev pub joined : List ℕ → ℕ → ℕ → Bool
joined rows f h = bit (get_or rows f 0) h

-- node n is a call whose target is not joined back to the caller
abbrev pub one_way : Program → List ℕ → ℕ → Bool
one_way g back n = eqb (g.sort n) call && not (joined back (g.target n) (g.owner n))

-- the words have the call targets of each function, but for those that are joined back to it in `back`
pub record Targets (g : Program) (back rows : List ℕ) : Type 0 where
  pub called : (f h : ℕ) → joined rows f h ≡ true → Calls g f h
  pub forth : (f h : ℕ) → joined rows f h ≡ true → joined back h f ≡ false
  pub all : (f h : ℕ) → Calls g f h → joined back h f ≡ false → joined rows f h ≡ true

-- the words have what each function reaches
pub record ReachOf (g : Program) (rows : List ℕ) : Type 0 where
  pub reached : (f h : ℕ) → joined rows f h ≡ true → Reaches g f h
  pub all : (f h : ℕ) → Reaches g f h → joined rows f h ≡ true

-- f is not among the functions placed, and all that it waits for is
pub record Due (waits : List ℕ) (placed f : ℕ) : Type 0 where
  pub left : bit placed f ≡ false
  pub waited : (h : ℕ) → joined waits f h ≡ true → bit placed h ≡ true

-- o is the lowest number below n of which P holds, and none where it holds of none
abbrev pub Lowest : ℕ → (ℕ → Type 0) → Option ℕ → Type 0
Lowest n P o = MatchOption o ((x : ℕ) → x < n → P x → ⊥) (λ f. (f < n) × P f × ((x : ℕ) → x < f → P x → ⊥))
