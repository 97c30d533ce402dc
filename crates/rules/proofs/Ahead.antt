-- Paths with no member of a set before their last node: the mirror image of clear ones.
use Prim.Native.Nat.{ℕ, ◌+◌}
use mathlib.Core.Path.{◌≡◌, refl}
use mathlib.Core.Bool.{Bool, true, false}
use native.Mathlib.Omega.{arith}
use Rattle.table.specs.Program.{Program}
use Rattle.sync.specs.Paths.{Path, stop, step, Clear, Open}
use Rattle.rules.specs.Rules.{sum, sum_before}
use Rattle.rules.specs.Sums.{Ahead}

-- a path with one node more in front
abbrev pub prepend : {g : Program} {p n b : ℕ} → g.edge p n ≡ true → Path g n b → Path g p b
prepend e stop = step stop e
prepend e (step q i) = step (prepend e q) i

module _ (g : Program) (set : ℕ → Bool) where
  -- an open path whose first node is no member
  clear_ahead : {a p : ℕ} (q : Path g a p) → set a ≡ false → Clear set q → Ahead set q × (set p ≡ false)
  clear_ahead stop f c = (tt, f)
  clear_ahead (step q e) f c = (clear_ahead q f c.0, c.1)

  pub open_ahead : {a n : ℕ} (q : Path g a n) → set a ≡ false → Open set q → Ahead set q
  open_ahead stop f o = tt
  open_ahead (step q e) f o = clear_ahead q f o

  -- and back
  ahead_clear : {a n : ℕ} (q : Path g a n) → Ahead set q → set n ≡ false → Clear set q
  ahead_clear stop k f = tt
  ahead_clear (step q e) k f = (ahead_clear q k.0 k.1, f)

  pub ahead_open : {a n : ℕ} (q : Path g a n) → Ahead set q → Open set q
  ahead_open stop k = tt
  ahead_open (step q e) k = ahead_clear q k.0 k.1

  pub prepend_ahead : {p n b : ℕ} (e : g.edge p n ≡ true) → set p ≡ false → (q : Path g n b) → Ahead set q → Ahead set (prepend e q)
  prepend_ahead e f stop k = (tt, f)
  prepend_ahead e f (step q i) k = (prepend_ahead e f q k.0, k.1)

module _ (g : Program) (weight : ℕ → ℕ) where
  prepend_all : {p n b : ℕ} (e : g.edge p n ≡ true) (q : Path g n b) → sum weight (prepend e q) ≡ weight p + sum weight q
  prepend_all e stop = refl
  prepend_all e (step q i) = omega (arith, prepend_all e q)

  pub prepend_sum : {p n b : ℕ} (e : g.edge p n ≡ true) (q : Path g n b) → sum_before weight (prepend e q) ≡ weight p + sum_before weight q
  prepend_sum e stop = omega arith
  prepend_sum e (step q i) = prepend_all e q
