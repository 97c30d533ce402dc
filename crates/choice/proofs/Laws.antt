-- What the best-choice call's promise comes to: exactly one choice is returned, and only the program counts.
use Prim.Native.Nat.{ℕ, ◌<◌, ◌≤◌}
use mathlib.Core.Path.{◌≡◌, refl, sym, ap, ◌∙◌, subst}
use mathlib.Core.Bool.{true≢false}
use mathlib.Core.List.{List}
use lib.ListN.{length}
use Rattle.table.specs.Checks.{Accepted}
use Rattle.table.specs.Program.{Program, program_of}
use Rattle.table.specs.SameButEdges.{SameButEdges}
use Rattle.table.proofs.Laws.{same_program}
use Rattle.rules.specs.Choice.{ChoiceFor}
use Rattle.rules.specs.Rules.{entries}
use Rattle.table.specs.Result.{result_of}
use Rattle.sizes.specs.Call.{choice_of}
use Rattle.std.specs.Prelude.{Ok, Err}
use Rattle.std.specs.Prelude.{Result as CodeResult}
use Rattle.table.specs.declared.refusal.Refused.{Refused}
use Rattle.table.proofs.Results.{is_done}
use Rattle.table.proofs.Results.{long_enough}
use Rattle.choice.specs.Beats.{Best, Returned}
use Rattle.choice.specs.Call.{best_call, best_result, LeavesBoth}
use Rattle.choice.proofs.Calls.{sizes_decide}

module _ (g : Program) (r : ℕ → ℕ) (p : Returned g r) where
  -- the choice returned is best
  pub returned_best : Best g r
  returned_best = (p.exactly_when r p.choice_for).0 (λ n h. refl)

  -- and no other choice for the table is
  pub returned_only : (c : ℕ → ℕ) → ChoiceFor g c → Best g c → (n : ℕ) → n < g.nodes → r n ≡ c n
  returned_only c f b = (p.exactly_when c f).1 b

-- So exactly one choice is returned for one program,
pub returned_unique : (g : Program) (r s : ℕ → ℕ) → Returned g r → Returned g s → (n : ℕ) → n < g.nodes → r n ≡ s n
returned_unique g r s p q = returned_only g r p s q.choice_for (returned_best g s q)

-- whatever the table that describes it: edges in another order, or repeated, give the same.
pub returned_same : (t u : List ℕ) → SameButEdges t u → (r s : ℕ → ℕ) → Returned (program_of t) r → Returned (program_of u) s → (n : ℕ) → n < (program_of u).nodes → r n ≡ s n
returned_same t u e r s p = returned_unique (program_of u) r s (subst (λ (g : Program). Returned g r) (same_program t u e) p)

-- "there is one for every accepted table and all lent buffers to which neither 10 nor 11 applies"
pub one_returned : {X : Type 0} (t old_verdicts new_verdicts old_sizes new_sizes : List ℕ) (answer : CodeResult X Refused) → Accepted t → (program_of t).nodes ≤ length old_verdicts → entries (program_of t) ≤ length old_sizes → result_of answer ≡ best_result (best_call t (length old_verdicts) (length old_sizes)) → LeavesBoth t old_verdicts new_verdicts old_sizes new_sizes answer → ((x : X) × (answer ≡ Ok x)) × Returned (program_of t) (choice_of new_verdicts)
one_returned t v w s u (Ok x) a b c r l = ((x, refl), l.returned)
one_returned t v w s u (Err e) a b c r l =
    absurd
    (true≢false (ap is_done (long_enough _ (length s) c ∙ sizes_decide (best_call t (length v) (length s)) a (program_of t).nodes refl b (entries (program_of t)) refl ∙ sym r)))
