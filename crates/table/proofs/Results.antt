-- What a call comes to by its list of checks.
use Prim.Native.Nat.{ℕ, ◌≤◌}
use mathlib.Core.Path.{◌≡◌, refl, sym, ap, ◌∙◌}
use mathlib.Core.Bool.{Bool, true, false, true≢false}
use mathlib.Core.List.{List, [], ◌∷◌, ◌++◌, map, Memᴰ}
use Rattle.std.specs.Prelude.{cond, Option, None, Some, Ok, Err, option_map}
use Rattle.std.specs.Option.{option_or}
use lib.Dec.{ltb}
use borrow.Author.Tests.{le-ltb, ltb-false}
use Rattle.std.specs.Prelude.{Result as CodeResult}
use Rattle.table.specs.Refusal.{Check, Refusal, over, refused_at, refusal}
use Rattle.table.specs.Checks.{free_checks, checks, Accepted}
use Rattle.table.specs.Answer.{number_of, outcome, free_outcome, outcome_of}
use Rattle.table.specs.Result.{Result, done, refused, result_for, result_of, table_result, room_row, room_result}
use Rattle.table.specs.declared.Counts.{Counts}
use Rattle.table.specs.declared.refusal.Refused.{Refused}
use Rattle.table.proofs.Answer.{answer_accepted, answer_refused, free_accepted, free_refused}
use Rattle.table.proofs.Refusals.{none_before, refusal_over, refusal_over_some, whole_passes}

abbrev pub is_done : Result → Bool
is_done done = true
is_done (refused n p) = false

module _ {X : Type 0} (cs : List (Check X)) (x : X) where
  pub told_refused : (n p : ℕ) → refusal cs x ≡ Some (refused_at n p) → refused n p ≡ result_for (refusal cs x)
  unfolding result_for
  told_refused n p e = ap result_for (sym e)

  pub told_done : refusal cs x ≡ None → done ≡ result_for (refusal cs x)
  unfolding result_for
  told_done e = ap result_for (sym e)

  pub none_refused : done ≡ result_for (refusal cs x) → refusal cs x ≡ None
  unfolding result_for
  none_refused e = go (refusal cs x) refl
    where
      go : (o : Option Refusal) → refusal cs x ≡ o → refusal cs x ≡ None
      go None q = q
      go (Some r) q = absurd (true≢false (ap is_done (e ∙ ap result_for q)))

  pub which_refused : (n p : ℕ) → refused n p ≡ result_for (refusal cs x) → refusal cs x ≡ Some (refused_at n p)
  unfolding result_for
  which_refused n p e = go (refusal cs x) refl
    where
      go : (o : Option Refusal) → refusal cs x ≡ o → refusal cs x ≡ Some (refused_at n p)
      go None q = absurd (true≢false (sym (ap is_done (e ∙ ap result_for q))))
      go (Some r) q =
          let same : refused n p ≡ refused r.number r.place = e ∙ ap result_for q in
          let number : n ≡ r.number = cc in
          let place : p ≡ r.place = cc in
          q ∙ λ i. Some (refused_at (sym number i) (sym place i))

-- what a table's check finds is what the checks of a table say
pub checked_result : (t : List ℕ) (r : CodeResult Counts Refused) → outcome_of r ≡ outcome t → result_of r ≡ table_result t
unfolding table_result
checked_result t (Ok c) e = told_done checks t (answer_accepted t c e).accepted_is
checked_result t (Err r) e = told_refused checks t (number_of r.cause) r.place (answer_refused t r e)

-- and so it is where the order of edges is free
pub free_result : (t : List ℕ) (r : CodeResult Counts Refused) → outcome_of r ≡ free_outcome t → result_of r ≡ result_for (refusal free_checks t)
free_result t (Ok c) e = told_done free_checks t (free_accepted t c e).0
free_result t (Err r) e = told_refused free_checks t (number_of r.cause) r.place (free_refused t r e)

-- where checks on a part come first: the first of them that applies decides
pub part_refused : {X Y : Type 0} (part : X → Y) (rows : List (Check Y)) (cs : List (Check X)) (x : X) {n p : ℕ}
    → refused n p ≡ result_for (refusal rows (part x)) → refused n p ≡ result_for (refusal (map (over part) rows ++ cs) x)
part_refused part rows cs x {n} {p} e = told_refused (map (over part) rows ++ cs) x n p (refusal_over_some part cs x rows (which_refused rows (part x) n p e))

-- so it is with those on a table; and the table is accepted if none of all applies
module _ {X : Type 0} (table : X → List ℕ) (cs : List (Check X)) (x : X) where
  pub table_refused : {n p : ℕ} → refused n p ≡ table_result (table x) → refused n p ≡ result_for (refusal (map (over table) checks ++ cs) x)
  unfolding table_result
  table_refused = part_refused table checks cs x

  pub table_accepted : refusal (map (over table) checks ++ cs) x ≡ None → Accepted (table x)
  table_accepted e = sym (refusal_over table x checks) ∙ none_before cs x (map (over table) checks) e

-- the row of a buffer: it decides where it is the last one left, and what nothing refuses fits
module _ {X : Type 0} (needed room : X → ℕ) (x : X) (cs : List (Check X)) where
  pub last_row : refusal cs x ≡ refusal (room_row needed room ∷ []) x → (found : ℕ) → found ≡ needed x → room_result found (room x) ≡ result_for (refusal cs x)
  unfolding refusal result_for
  last_row past found e = rw (past, e) (go (ltb (room x) (needed x)))
    where
      go : (b : Bool) → cond b (refused 11 (needed x)) done ≡ result_for (option_or (option_map (refused_at 11) (cond b (Some (needed x)) None)) None)
      go true = refl
      go false = refl

  pub room_fits : Memᴰ (room_row needed room) cs → refusal cs x ≡ None → needed x ≤ room x
  room_fits m e = ltb-false _ _ (whole_passes x 11 (λ y. ltb (room y) (needed y)) needed cs e m)

pub long_enough : (needed room : ℕ) → needed ≤ room → done ≡ room_result needed room
long_enough needed room h = rw (le-ltb room needed h)
