-- What a check of a table comes to, once it is known what is found where the order of edges is free.
use mathlib.Core.Path.{◌≡◌, refl, sym, ap, ◌∙◌}
use mathlib.Core.List.{List, [], ◌∷◌}
use Prim.Native.Nat.{ℕ}
use Rattle.std.specs.Prelude.{None, Some, Err}
use Rattle.table.specs.Refusal.{refusal}
use Rattle.table.specs.Checks.{free_checks, order_checks, checks, FreeOrder}
use Rattle.table.specs.Answer.{accepted, refused, outcome, free_outcome, outcome_for, outcome_of, CountsOf}
use Rattle.table.specs.Scan.{place_for}
use Rattle.table.specs.declared.Counts.{Counts}
use Rattle.table.specs.declared.refusal.Refused.{Refused}
use Rattle.table.specs.declared.refusal.Cause.TheVariants.{NotAbove}
use Rattle.table.proofs.Answer.{free_refused}
use Rattle.table.proofs.Refusals.{refusal_pass, refusal_here, refusal_before_none, refusal_before_some}
use Rattle.table.proofs.Told.{row}

module _ (t : List ℕ) where
  -- what 1 to 8 refuse is refused
  pub free_refuses : (e : Refused) → outcome_of (Err e) ≡ free_outcome t → outcome_of (Err e) ≡ outcome t
  unfolding outcome outcome_for checks
  free_refuses e h = ap (outcome_for t) (sym (refusal_before_some order_checks t free_checks (free_refused t e h)))

  module _ (free : FreeOrder t) where
    -- where they say nothing, 15 decides
    past_free : refusal checks t ≡ refusal (row NotAbove ∷ []) t
    unfolding checks order_checks
    past_free = refusal_before_none order_checks t free_checks free

    pub last_refuses : (p : ℕ) → Some p ≡ place_for NotAbove t → refused 15 p ≡ outcome t
    unfolding outcome outcome_for
    last_refuses p h = ap (outcome_for t) (sym (past_free ∙ refusal_here t (row NotAbove) [] (sym h)))

    pub none_refuses : {of : Counts} → CountsOf t of → None ≡ place_for NotAbove t → accepted of.functions of.nodes of.edges ≡ outcome t
    unfolding outcome outcome_for refusal
    none_refuses {of} counts h = rw (past_free ∙ refusal_pass t (row NotAbove) [] (sym h), counts.functions_are, counts.nodes_are, counts.edges_are) refl
