-- Laws for a caller: 0 is returned where nothing is refused, and nowhere else.
use Prim.Native.Nat.{ℕ, ◌≤◌}
use mathlib.Core.Path.{◌≡◌, refl, sym, ap, ◌∙◌}
use mathlib.Core.List.{List, [], ◌∷◌, ◌++◌, map}
use Rattle.std.specs.Prelude.{Option, None, Some}
use native.Mathlib.Omega.{arith}
use borrow.Author.Rules.{rules}
use Rattle.table.specs.Refusal.{Check, Refusal, over, refusal}
use Rattle.table.specs.Checks.{free_checks, order_checks, checks, Accepted}
use Rattle.table.specs.Answer.{outcome, outcome_for}
use Rattle.table.proofs.Refusals.{refusal_pass, refusal_here}
use Rattle.table.specs.Result.{done, result_for}
use Rattle.sizes.specs.Call.{Call, call_result, call_checks, choice_checks}
use Rattle.table.proofs.Results.{told_done}
use Rattle.choice.specs.Call.{BestCall, best_result, best_checks, buffer_checks}
use Rattle.what_if.specs.Call.{ListCall, list_checks, what_if_checks, what_if_result}
use Rattle.stack_usage.specs.Call.{FramesCall, usage_checks, frames_checks, frames_result}
use Rattle.ordered_table.specs.Call.{WriterCall, room_checks, writer_checks, writer_result}
use Rattle.nagbiro.specs.Codes.{table_result, code_of}

-- no check of a list has the number 0
abbrev Numbered : {X : Type 0} → List (Check X) → Type 0
Numbered [] = Unit {0}
Numbered (c ∷ cs) = (1 ≤ c.number) × Numbered cs

numbered_over : {X Y : Type 0} (part : X → Y) (cs : List (Check Y)) (ds : List (Check X)) → Numbered cs → Numbered ds → Numbered (map (over part) cs ++ ds)
numbered_over part [] ds h k = k
numbered_over part (c ∷ cs) ds h k = (h.0, numbered_over part cs ds h.1 k)

-- so nothing is refused under 0
module _ {X : Type 0} (x : X) where
  none_zero : (cs : List (Check X)) → Numbered cs → code_of (result_for (refusal cs x)) ≡ 0 → refusal cs x ≡ None
  unfolding result_for refusal
  none_zero [] h e = refl
  none_zero (c ∷ cs) h e = go (c.place x) refl (none_zero cs h.1)
    where
      go : (o : Option ℕ) → c.place x ≡ o → (code_of (result_for (refusal cs x)) ≡ 0 → refusal cs x ≡ None) → refusal (c ∷ cs) x ≡ None
      go None q later = refusal_pass x c cs q ∙ later (ap (λ r. code_of (result_for r)) (sym (refusal_pass x c cs q)) ∙ e)
      go (Some p) q later =
          let z : c.number ≡ 0 = ap (λ r. code_of (result_for r)) (sym (refusal_here x c cs q)) ∙ e in
          absurd (omega (arith, h.0, z))

table_numbered : Numbered checks
unfolding free_checks order_checks checks
table_numbered = search rules

-- with the row of a buffer behind those that leave the order of edges free
writer_numbered : Numbered writer_checks
unfolding writer_checks room_checks free_checks
writer_numbered = numbered_over (λ (x : WriterCall). x.table) free_checks room_checks (search rules) (search rules)

choice_numbered : Numbered call_checks
unfolding call_checks choice_checks
choice_numbered = numbered_over (λ (x : Call). x.table) checks choice_checks table_numbered (search rules)

buffers_numbered : Numbered best_checks
unfolding best_checks buffer_checks
buffers_numbered = numbered_over (λ (x : BestCall). x.table) checks buffer_checks table_numbered (search rules)

list_numbered : Numbered what_if_checks
unfolding what_if_checks list_checks
list_numbered = numbered_over (λ (x : ListCall). x.table) checks list_checks table_numbered (search rules)

usage_numbered : Numbered frames_checks
unfolding frames_checks usage_checks
usage_numbered = numbered_over (λ (x : FramesCall). x.table) checks usage_checks table_numbered (search rules)

same_code : (t : List ℕ) (o : Option Refusal) → code_of (result_for o) ≡ code_of (table_result (outcome_for t o))
unfolding result_for outcome_for
same_code t None = refl
same_code t (Some r) = refl

-- a check, and the synchronising set
pub table_zero : (t : List ℕ) → code_of (table_result (outcome t)) ≡ 0 → Accepted t
unfolding outcome
table_zero t e = none_zero t checks table_numbered (same_code t (refusal checks t) ∙ e)

-- the call for one choice
pub choice_zero : (x : Call) → code_of (call_result x) ≡ 0 → done ≡ call_result x
unfolding call_result
choice_zero x e = told_done call_checks x (none_zero x call_checks choice_numbered e)

-- the call for a list of choices
pub list_zero : (x : ListCall) → code_of (what_if_result x) ≡ 0 → done ≡ what_if_result x
unfolding what_if_result
list_zero x e = told_done what_if_checks x (none_zero x what_if_checks list_numbered e)

-- the best-choice call
pub best_zero : (x : BestCall) → code_of (best_result x) ≡ 0 → done ≡ best_result x
unfolding best_result
best_zero x e = told_done best_checks x (none_zero x best_checks buffers_numbered e)

-- frames from a report
pub frames_zero : (x : FramesCall) → code_of (frames_result x) ≡ 0 → done ≡ frames_result x
unfolding frames_result
frames_zero x e = told_done frames_checks x (none_zero x frames_checks usage_numbered e)

-- the writer
pub ordered_zero : (x : WriterCall) → code_of (writer_result x) ≡ 0 → done ≡ writer_result x
unfolding writer_result
ordered_zero x e = told_done writer_checks x (none_zero x writer_checks writer_numbered e)
