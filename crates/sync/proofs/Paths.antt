-- Laws of paths, for the crates above too.
use Prim.Native.Nat.{ℕ, ◌<◌}
use mathlib.Core.Path.{◌≡◌, refl, ap, ◌∙◌}
use mathlib.Core.Bool.{Bool, true, false}
use mathlib.Core.Logic.{◌⊎◌, inl, inr, ⊎_elim}
use Rattle.table.specs.Program.{Program}
use Rattle.table.specs.WellFormed.{WellFormed}
use Rattle.table.proofs.Booleans.{either_way, not_both}
use Rattle.sync.specs.Paths.{Path, stop, step, On, Holds, Clear, Open}

module _ (g : Program) where
  -- a path has no member after its first node, or it holds one
  pub clear_or_holds : (set : ℕ → Bool) {a n : ℕ} (p : Path g a n) → Clear set p ⊎ Holds set p
  clear_or_holds set stop = inl tt
  clear_or_holds set (step {n = n} p e) = go (clear_or_holds set p) (either_way (set n))
    where
      go : Clear set p ⊎ Holds set p → (set n ≡ true) ⊎ (set n ≡ false) → (Clear set p × (set n ≡ false)) ⊎ Holds set (step p e)
      go (inl c) (inl t) = inr (n, inr refl, t)
      go (inl c) (inr f) = inl (c, f)
      go (inr h) s = inr (h.0, inl h.1, h.2)

  -- and not both, where the first node is no member
  pub clear_holds_none : (set : ℕ → Bool) {a n : ℕ} (p : Path g a n) → set a ≡ false → Clear set p → (y : ℕ) → On y p → set y ≡ false
  clear_holds_none set stop f c y o = ap set o ∙ f
  clear_holds_none set (step p e) f c y (inl o) = clear_holds_none set p f c.0 y o
  clear_holds_none set (step p e) f c y (inr q) = ap set q ∙ c.1

  -- a clear path is open; an open one of two or more nodes is a clear one and a last step
  pub clear_open : (set : ℕ → Bool) {a n : ℕ} (p : Path g a n) → Clear set p → Open set p
  clear_open set stop c = tt
  clear_open set (step p e) c = c.0

  -- on a smaller set a clear path stays clear
  pub clear_below : (set other : ℕ → Bool) → ((n : ℕ) → other n ≡ true → set n ≡ true) → {a n : ℕ} (p : Path g a n) → Clear set p → Clear other p
  clear_below set other h stop c = tt
  clear_below set other h (step {n = n} p e) c =
      (clear_below set other h p c.0, ⊎_elim (λ t. not_both (set n) (h n t) c.1) (λ f. f) (either_way (other n)))

  module _ (w : WellFormed g) where
    -- "inside one function"
    pub path_owner : {a n : ℕ} → Path g a n → g.owner a ≡ g.owner n
    path_owner stop = refl
    path_owner (step p e) = path_owner p ∙ (w.edge_together _ _ e).owner_same

    pub path_exists : {a n : ℕ} → Path g a n → a < g.nodes → n < g.nodes
    path_exists stop h = h
    path_exists (step p e) h = (w.edge_together _ _ e).to_exists

-- one path after another
abbrev pub join : {g : Program} {a b n : ℕ} → Path g a b → Path g b n → Path g a n
join p stop = p
join p (step q e) = step (join p q) e

pub clear_join : (g : Program) (set : ℕ → Bool) {a b n : ℕ} (p : Path g a b) (q : Path g b n) → Clear set p → Clear set q → Clear set (join p q)
clear_join g set p stop c d = c
clear_join g set p (step q e) c d = (clear_join g set p q c d.0, d.1)
