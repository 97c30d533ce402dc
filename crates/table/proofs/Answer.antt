-- What a caller learns from an answer.
use Prim.Native.Nat.{ℕ}
use mathlib.Core.Path.{◌≡◌, refl, sym}
use mathlib.Core.List.{List}
use Rattle.std.specs.Prelude.{Option, None, Some, Ok, Err}
use native.Mathlib.Omega.{arith}
use Rattle.table.specs.Refusal.{Refusal, refused_at, refusal}
use Rattle.table.specs.Checks.{free_checks, checks, FreeOrder}
use Rattle.table.specs.Answer.{accepted, refused, number_of, outcome, free_outcome, outcome_for, outcome_of, CountsOf, Ready}
use Rattle.table.specs.declared.Counts.{Counts}
use Rattle.table.specs.declared.refusal.Refused.{Refused}

told_apart : {f n e k p : ℕ} → accepted f n e ≡ refused k p → ⊥
told_apart h = let z : ◌≡◌ {A = ℕ} 0 1 = cc in omega arith

module _ (t : List ℕ) where
  counts_told : (o : Option Refusal) (c : Counts) → outcome_of (Ok c) ≡ outcome_for t o → (o ≡ None) × CountsOf t c
  unfolding outcome_for
  counts_told None c e = (refl, record { functions_are = cc; nodes_are = cc; edges_are = cc })
  counts_told (Some r) c e = absurd (told_apart e)

  refusal_told : (o : Option Refusal) (e : Refused) → outcome_of (Err e) ≡ outcome_for t o → o ≡ Some (refused_at (number_of e.cause) e.place)
  unfolding outcome_for
  refusal_told None e q = absurd (told_apart (sym q))
  refusal_told (Some r) e q =
      let x : r.number ≡ number_of e.cause = cc in
      let y : r.place ≡ e.place = cc in
      λ i. Some (refused_at (x i) (y i))

  pub answer_accepted : (c : Counts) → outcome_of (Ok c) ≡ outcome t → Ready t c
  unfolding outcome
  answer_accepted c e = let w = counts_told (refusal checks t) c e in record { accepted_is = w.0; counts_are = w.1 }

  pub answer_refused : (e : Refused) → outcome_of (Err e) ≡ outcome t → refusal checks t ≡ Some (refused_at (number_of e.cause) e.place)
  unfolding outcome
  answer_refused = refusal_told (refusal checks t)

  -- and of one for a table in free order
  pub free_accepted : (c : Counts) → outcome_of (Ok c) ≡ free_outcome t → FreeOrder t × CountsOf t c
  unfolding free_outcome
  free_accepted = counts_told (refusal free_checks t)

  pub free_refused : (e : Refused) → outcome_of (Err e) ≡ free_outcome t → refusal free_checks t ≡ Some (refused_at (number_of e.cause) e.place)
  unfolding free_outcome
  free_refused = refusal_told (refusal free_checks t)
