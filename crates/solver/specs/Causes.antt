-- Causes: for each entry, the entry of its rule that made it rise last. An entry that would rise because of itself is unbounded. Helps proofs only.
use Rattle.std.specs.Prelude.{ℕ, ◌+◌, ◌<◌, ◌≤◌, ◌≡◌, ◌≢◌, ◌⊎◌}
use Rattle.size.specs.Size.{unbounded, cap}
use Rattle.solver.specs.System.{Form, Derives}
use Rattle.solver.specs.Words.{entry_count}

-- x, which has t, gains on y, which has u: whatever y derives, x derives that and more
pub record Lead {E R : Type 0} (form : R → Form E) (x : E) (t : ℕ) (y : E) (u : ℕ) : Type 0 where
  pub by : ℕ
  pub fits : t ≤ by + u
  pub each : (w : ℕ) → Derives form y w → Derives form x (cap (by + w))

-- The invariant of values v with causes k, where a cause past the last entry is none: what is there is derived, and gains on its cause.
pub record Ok {R : Type 0} (form : R → Form ℕ) (v k : ℕ → ℕ) : Type 0 where
  pub sound : (x : ℕ) → Derives form x (v x)
  pub leads : (x : ℕ) → x < entry_count → k x < entry_count → Lead form x (v x) (k x) (v (k x))

-- The causes lead from x to z.
pub data Chain (k : ℕ → ℕ) (z : ℕ) : ℕ → Type 0 where
  met : z < entry_count → Chain k z z
  via : {x : ℕ} → x < entry_count → Chain k z (k x) → Chain k z x

-- the cause that is none
abbrev pub uncaused : ℕ
uncaused = 65535

-- w is v but for t at x
pub record Put (v : ℕ → ℕ) (x t : ℕ) (w : ℕ → ℕ) : Type 0 where
  pub there : w x ≡ t
  pub other : (y : ℕ) → y ≢ x → w y ≡ v y

-- What a rule that asks for sum at entry x, more than it has, from the entries y and z does to the causes k and to the value.
pub data Risen (k : ℕ → ℕ) (x y z sum : ℕ) (l : ℕ → ℕ) (v : ℕ) : Type 0 where
  rises : (c : ℕ) → (c ≡ y) ⊎ (c ≡ z) → Put k x c l → v ≡ sum → Risen k x y z sum l v
  leaps : Chain k x y ⊎ Chain k x z → Put k x uncaused l → v ≡ unbounded → Risen k x y z sum l v
