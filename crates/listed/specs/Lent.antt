-- What is said of a closure that is lent a state to change and a value of which something holds. Helps proofs only.
use Rattle.std.specs.Borrow.{Bor, MutBor}
use Rattle.std.specs.Fn.{Once}
use Rattle.std.specs.Prelude.{◌≡◌}

-- It may be called at such a value,
abbrev pub Callable : {F S A R : Type 0} → (A → Type 0) → Once F (MutBor S × (Bor A × Unit {0})) (R × (MutBor S × Unit {0})) → F → S → Type 0
Callable {F} {S} {A} fits g f s = (value : Bor A) → fits value.now → (state : MutBor S) → state.now ≡ s → g.pre f (state, (value, tt))

-- and this is what it gave, and what it left.
pub record Called {F S A R : Type 0} (fits : A → Type 0) (g : Once F (MutBor S × (Bor A × Unit {0})) (R × (MutBor S × Unit {0}))) (f : F) (old new : S) (result : R) : Type 0 where
  pub value : Bor A
  pub fit : fits value.now
  pub shown : MutBor S
  pub shows : shown.now ≡ old
  pub left : MutBor S
  pub leaves : left.now ≡ new
  pub called : g.post f (shown, (value, tt)) (result, (left, tt))
