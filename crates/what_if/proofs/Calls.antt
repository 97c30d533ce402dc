-- The checks of a call with a list of choices, one after another.
use Prim.Native.Nat.{ℕ, ◌<◌, ◌≤◌}
use mathlib.Core.Path.{◌≡◌, refl, sym, ◌∙◌}
use mathlib.Core.Bool.{true, false}
use mathlib.Core.List.{List}
use mathlib.Core.List.Memᴰ
use native.Mathlib.Omega.{arith}
use lib.Dec.{eqb, ltb}
use lib.ListN.{length, drop}
use borrow.Author.Tests.{eq-eqb, ne_eqb, eqb-true, ltb-false, not-false}
use Rattle.std.specs.Prelude.{Option, None, Some}
use Rattle.table.specs.Below.{earliest}
use Rattle.table.specs.Refusal.{refusal}
use Rattle.table.specs.Checks.{checks, Accepted}
use Rattle.table.proofs.Refusals.{refusal_pass, refusal_here, whole_here, whole_pass, whole_passes, each_passes, refusal_over_none}
use Rattle.table.specs.Result.{done, refused, room_result}
use Rattle.table.proofs.Results.{told_refused, none_refused, table_accepted}
use Rattle.table.proofs.Results.{last_row, room_fits}
use Rattle.table.proofs.Booleans.{or_false_right}
use Rattle.what_if.specs.Fits.{Fits}
use Rattle.what_if.specs.Call.{ListCall, wrong_number, wanted, wrong_list, outside_list, needed, list_checks, what_if_checks, what_if_result}

module _ (x : ListCall) (a : Accepted x.table) where
  past_table : refusal what_if_checks x ≡ refusal list_checks x
  unfolding what_if_checks
  past_table = refusal_over_none (λ (y : ListCall). y.table) list_checks x checks a

  pub number_refused : wrong_number x ≡ true → refused 12 x.number ≡ what_if_result x
  unfolding what_if_result list_checks
  number_refused w = told_refused what_if_checks x 12 x.number (past_table ∙ whole_here x 12 wrong_number (λ (y : ListCall). y.number) _ w)

  module _ (n : wrong_number x ≡ false) where
    past_number : refusal what_if_checks x ≡ refusal (drop 1 list_checks) x
    unfolding list_checks
    past_number = past_table ∙ whole_pass x 12 wrong_number (λ (y : ListCall). y.number) _ n

    pub length_refused : (long : ℕ) → long ≡ wanted x → (length x.choices ≡ long → ⊥) → refused 9 long ≡ what_if_result x
    unfolding what_if_result list_checks wrong_list
    length_refused long e h =
        told_refused what_if_checks x 9 long
        (rw e (past_number ∙ whole_here x 9 wrong_list wanted _ (rw (ne_eqb (length x.choices) (wanted x) (λ q. h (q ∙ sym e))) refl)))

    module _ (h : length x.choices ≡ wanted x) where
      past_list : refusal what_if_checks x ≡ refusal (drop 2 list_checks) x
      unfolding list_checks wrong_list
      past_list = past_number ∙ whole_pass x 9 wrong_list wanted _ (rw (eq-eqb (length x.choices) (wanted x) h) refl)

      module _ {found : Option ℕ} (f : found ≡ earliest (outside_list x.table x.choices) (length x.choices)) where
        pub byte_refused : (p : ℕ) → found ≡ Some p → refused 9 p ≡ what_if_result x
        unfolding what_if_result list_checks
        byte_refused p e = told_refused what_if_checks x 9 p (past_list ∙ refusal_here x _ _ (sym f ∙ e))

        past_bytes : found ≡ None → refusal what_if_checks x ≡ refusal (drop 3 list_checks) x
        unfolding list_checks
        past_bytes e = past_list ∙ refusal_pass x _ _ (sym f ∙ e)

        pub sizes_decide : found ≡ None → (room : ℕ) → room ≡ needed x → room_result room x.buffer ≡ what_if_result x
        unfolding what_if_result list_checks
        sizes_decide l = last_row _ _ x what_if_checks (past_bytes l)

-- ---- a call that is not refused

ruleset in_List = (Memᴰ.head, Memᴰ.tail)

-- its table is accepted, there are 1 to 16 choices, the list has a byte for each node of each and none outside its list, and the sizes fit
pub record Valid (x : ListCall) : Type 0 where
  pub accepted_is : Accepted x.table
  pub number_is : wrong_number x ≡ false
  pub long : length x.choices ≡ wanted x
  pub none_outside : (p : ℕ) → p < length x.choices → outside_list x.table x.choices p ≡ false
  pub fits : needed x ≤ x.buffer

-- what the choices are judged by
pub valid_fits : (x : ListCall) (numbers : List ℕ) → Valid x → length numbers ≡ x.buffer → Fits x.table x.choices x.number numbers
unfolding wrong_number
valid_fits x numbers v e = record {
  few = ltb-false 16 x.number (or_false_right (eqb x.number 0) (ltb 16 x.number) v.number_is);
  bytes = v.long;
  room = omega (arith, v.fits, e);
}

pub done_valid : (x : ListCall) → done ≡ what_if_result x → Valid x
unfolding what_if_result what_if_checks list_checks wrong_list
done_valid x e =
    let n = none_refused what_if_checks x e in
    let a = table_accepted (λ (y : ListCall). y.table) list_checks x n in
    let c = sym (past_table x a) ∙ n in
    record {
      accepted_is = a;
      number_is = whole_passes x 12 wrong_number (λ (y : ListCall). y.number) list_checks c (search in_List depth 40);
      long = eqb-true _ _ (not-false _ (whole_passes x 9 wrong_list wanted list_checks c (search in_List depth 40)));
      none_outside = each_passes x 9 (λ (y : ListCall). outside_list y.table y.choices) (λ (y : ListCall). length y.choices) list_checks c (search in_List depth 40);
      fits = room_fits needed (λ (y : ListCall). y.buffer) x list_checks (search in_List depth 40) c;
    }
