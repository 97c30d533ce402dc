-- The checks of a call with a choice and a sizes buffer, one after another.
use Prim.Native.Nat.{ℕ, ◌<◌, ◌≤◌}
use mathlib.Core.Path.{◌≡◌, refl, sym, ◌∙◌, subst}
use mathlib.Core.Bool.{Bool, true, false, true≢false, not, ◌&&◌, ◌||◌}
use mathlib.Core.List.{List, map, Memᴰ}
use Rattle.std.specs.Prelude.{Option, None, Some}
use lib.Dec.{eqb, leb}
use lib.ListN.{length, drop}
use borrow.Author.Tests.{eq-eqb, ne_eqb, eqb-true, leb-true, not-false}
use Rattle.table.specs.Below.{earliest}
use Rattle.table.specs.Record.{spawn}
use Rattle.table.specs.Refusal.{refusal}
use Rattle.std.specs.Prelude.{Ok, Err}
use Rattle.std.specs.Prelude.{Result as CodeResult}
use Rattle.table.specs.Answer.{outcome, outcome_of}
use Rattle.table.specs.declared.refusal.Refused.{Refused}
use Rattle.sync.specs.Found.{counts_found}
use Rattle.table.specs.Checks.{checks, Accepted}
use Rattle.table.specs.Program.{program_of}
use Rattle.sync.specs.Words.{member}
use Rattle.table.proofs.Booleans.{or_false, and_true_left, and_true_right}
use Rattle.table.proofs.Refusals.{refusal_pass, refusal_here, whole_here, whole_pass, whole_passes, each_passes, refusal_over_none}
use Rattle.rules.specs.Choice.{unmerged, unguarded, ChoiceFor}
use Rattle.rules.specs.Rules.{entries, LeastSizes}
use Rattle.sizes.specs.Call.{Call, choice_of, wrong_length, outside, choice_checks, call_checks, call_result}
use Rattle.table.specs.Result.{done, refused, result_of, table_result, room_result}
use Rattle.table.proofs.Results.{last_row, room_fits, told_refused, none_refused, table_accepted, checked_result}
use Rattle.sizes.specs.Known.{KnownFor}
use Rattle.sizes.specs.Trials.{known_program, FoundFor}
use Rattle.sync.specs.declared.Known.{Known}
use Rattle.size.specs.Size.{value_of}
use Rattle.size.specs.Numbers.{at, Written}
use Rattle.solver.specs.declared.solution.Solution.{Solution}

-- what the table's check finds is what the checks of a table say
pub looked_result : (t : List ℕ) (r : CodeResult Known Refused) → outcome_of (counts_found r) ≡ outcome t → result_of r ≡ table_result t
looked_result t (Ok known) e = checked_result t (Ok known.program.of) e
looked_result t (Err r) e = checked_result t (Err r) e

-- ---- the checks of a call with a choice

module _ (x : Call) (a : Accepted x.table) where
  past_table : refusal call_checks x ≡ refusal choice_checks x
  unfolding call_checks
  past_table = refusal_over_none (λ (y : Call). y.table) choice_checks x checks a

  pub length_refused : (nodes : ℕ) → nodes ≡ (program_of x.table).nodes → (length x.choice ≡ nodes → ⊥) → refused 9 nodes ≡ call_result x
  unfolding call_result choice_checks wrong_length
  length_refused nodes e h =
      told_refused call_checks x 9 nodes
      (rw e (past_table ∙ whole_here x 9 wrong_length _ _ (rw (ne_eqb (length x.choice) (program_of x.table).nodes (λ q. h (q ∙ sym e))) refl)))

  past_length : length x.choice ≡ (program_of x.table).nodes → refusal call_checks x ≡ refusal (drop 1 choice_checks) x
  unfolding choice_checks wrong_length
  past_length h = past_table ∙ whole_pass x 9 wrong_length _ _ (rw (eq-eqb (length x.choice) (program_of x.table).nodes h) refl)

  module _ (h : length x.choice ≡ (program_of x.table).nodes) {found : Option ℕ} (f : found ≡ earliest (λ n. outside x.table n (choice_of x.choice n)) (program_of x.table).nodes) where
    pub byte_refused : (n : ℕ) → found ≡ Some n → refused 9 n ≡ call_result x
    unfolding call_result choice_checks
    byte_refused n e = told_refused call_checks x 9 n (past_length h ∙ refusal_here x _ _ (sym f ∙ e))

    past_bytes : found ≡ None → refusal call_checks x ≡ refusal (drop 2 choice_checks) x
    unfolding choice_checks
    past_bytes e = past_length h ∙ refusal_pass x _ _ (sym f ∙ e)

    pub sizes_decide : found ≡ None → (needed : ℕ) → needed ≡ entries (program_of x.table) → room_result needed x.buffer ≡ call_result x
    unfolding call_result choice_checks
    sizes_decide l = last_row _ _ x call_checks (past_bytes l)

-- ---- a call that is not refused

ruleset in_List = (Memᴰ.head, Memᴰ.tail)

-- its table is accepted, its bytes are a choice for it, and the sizes fit
pub record Valid (x : Call) : Type 0 where
  pub accepted_is : Accepted x.table
  pub one_byte : length x.choice ≡ (program_of x.table).nodes
  pub choice_for : ChoiceFor (program_of x.table) (choice_of x.choice)
  pub fits : entries (program_of x.table) ≤ x.buffer

module _ (x : Call) (e : refusal choice_checks x ≡ None) where
  length_right : length x.choice ≡ (program_of x.table).nodes
  unfolding choice_checks wrong_length
  length_right =
      eqb-true _ _ (not-false _ (whole_passes x 9 wrong_length (λ y. (program_of y.table).nodes) choice_checks e (search in_List depth 40)))

  none_outside : (n : ℕ) → n < (program_of x.table).nodes → outside x.table n (choice_of x.choice n) ≡ false
  unfolding choice_checks
  none_outside = each_passes x 9 (λ y n. outside y.table n (choice_of y.choice n)) (λ y. (program_of y.table).nodes) choice_checks e (search in_List depth 40)

-- a byte that is not outside its list
byte_listed : (t : List ℕ) (n byte : ℕ) → outside t n byte ≡ false → ((eqb ((program_of t).sort n) spawn && leb unmerged byte && leb byte unguarded) || (not (eqb ((program_of t).sort n) spawn) && eqb byte 0)) ≡ true
unfolding outside
byte_listed t n byte e = not-false _ e

module _ (t : List ℕ) (n byte : ℕ) (e : outside t n byte ≡ false) where
  pub spawn_byte : (program_of t).sort n ≡ spawn → (unmerged ≤ byte) × (byte ≤ unguarded)
  spawn_byte s =
      let a = eqb ((program_of t).sort n) spawn in
      let low = leb unmerged byte in
      let high = leb byte unguarded in
      let h : (low && high) ≡ true = spawn_side a low high (eqb byte 0) (eq-eqb _ _ s) (byte_listed t n byte e) in
      (leb-true _ _ (and_true_left low high h), leb-true _ _ (and_true_right low high h))
    where
      spawn_side : (a b c d : Bool) → a ≡ true → ((a && b && c) || (not a && d)) ≡ true → (b && c) ≡ true
      spawn_side true b c d q h = sym (or_false (b && c)) ∙ h
      spawn_side false b c d q h = absurd (true≢false (sym q))

  pub other_byte : ((program_of t).sort n ≡ spawn → ⊥) → byte ≡ 0
  other_byte s =
      let a = eqb ((program_of t).sort n) spawn in
      eqb-true _ _ (other_side a (leb unmerged byte) (leb byte unguarded) (eqb byte 0) (ne_eqb _ _ s) (byte_listed t n byte e))
    where
      other_side : (a b c d : Bool) → a ≡ false → ((a && b && c) || (not a && d)) ≡ true → d ≡ true
      other_side false b c d q h = h
      other_side true b c d q h = absurd (true≢false q)

pub done_valid : (x : Call) → done ≡ call_result x → Valid x
unfolding call_result call_checks choice_checks
done_valid x e =
    let n = none_refused call_checks x e in
    let a = table_accepted (λ (y : Call). y.table) choice_checks x n in
    let c = sym (past_table x a) ∙ n in
    record {
      accepted_is = a;
      one_byte = length_right x c;
      choice_for = record {
        others = λ m h s. other_byte x.table m (choice_of x.choice m) (none_outside x c m h) s;
        spawns = λ m h s. spawn_byte x.table m (choice_of x.choice m) (none_outside x c m h) s;
      };
      fits = room_fits (λ (y : Call). entries (program_of y.table)) (λ (y : Call). y.buffer) x choice_checks (search in_List depth 40) c;
    }

-- what is found and written is what the call leaves
pub found_leaves : (t choice : List ℕ) {known : Known} {f : Solution} {old new : List ℕ} → KnownFor t known → FoundFor known (choice_of choice) f → Written (entries (known_program known)) (at (map value_of f.sizes)) old new → (sizes : ℕ → ℕ) × LeastSizes (program_of t) (choice_of choice) sizes × Written (entries (program_of t)) sizes old new
found_leaves t choice {known} {f} {old} {new} k found w =
    subst
    (λ (u : List ℕ). (sizes : ℕ → ℕ) × LeastSizes (program_of u) (choice_of choice) sizes × Written (entries (program_of u)) sizes old new)
    k.table_is
    (found.sizes, (member known.synchronising, k.looked.set, found.sizes_of.least), record { long = w.long; written = λ x h. w.written x h ∙ found.sizes_are x h; tail = w.tail })
