-- What the exported functions tell and leave, from what the calls under them answer.
use Prim.Native.Nat.{ℕ}
use mathlib.Core.Path.{◌≡◌, refl, sym, ◌∙◌}
use mathlib.Core.Bool.{Bool, true, false, true≢false}
use mathlib.Core.List.{List, ◌++◌}
use mathlib.Core.Logic.{inl, inr}
use native.Mathlib.Omega.{arith}
use Rattle.std.specs.Prelude.{◌↔◌, Ok, length, take, drop}
use Rattle.std.proofs.lemmas.List.{get_or-take}
use Rattle.table.specs.Answer.{Outcome, accepted, outcome, outcome_of}
use Rattle.table.specs.declared.Counts.{Counts}
use Rattle.table.proofs.Laws.{answer_accepted}
use Rattle.table.proofs.Ready.{functions_are}
use Rattle.table.specs.Program.{program_of}
use Rattle.call_order.specs.CallOrder.{places, CallOrder}
use Rattle.call_order.proofs.Laws.{same_order}
use Rattle.sync.specs.Answer.{Sets}
use Rattle.sync.specs.Words.{Eight}
use Rattle.table.specs.Result.{Result, done, refused}
use Rattle.sizes.specs.Call.{Call, choice_of, call_result}
use Rattle.safety.specs.Safety.{Safe}
use Rattle.nagbiro.specs.Codes.{table_result, Told}
use Rattle.nagbiro.specs.Left.{Counted, LeavesWords, LeavesOrder, Judges}
use mir.Val.{bool_byte}

pub done_told : {x : Result} (old : ℕ) → done ≡ x → Told x 0 old old
done_told old e = rw (← e) (refl, refl)

pub refused_told : {x : Result} {n p code place : ℕ} (old : ℕ) → refused n p ≡ x → code ≡ n → place ≡ p → Told x code old place
refused_told old e c p = rw (← e) (c, p)

pub counted : {x : Outcome} {functions nodes edges : ℕ} (old_b old_c : ℕ) → accepted functions nodes edges ≡ x → Counted x old_b old_c functions nodes edges
counted old_b old_c e = rw (← e) (refl, refl, refl)

pub judged : (x : Call) {safe : Bool} {new : ℕ} (old : ℕ) → done ≡ call_result x → (safe ≡ true) ↔ Safe (program_of x.table) (choice_of x.choice) → new ≡ bool_byte safe → Judges x old new
judged x {safe = true} old e t n = rw (← e) (inl (n, t.0 refl))
judged x {safe = false} old e t n = rw (← e) (inr (n, λ s. absurd (true≢false (sym (t.1 s)))))

pub words_left : (t old : List ℕ) {x : Outcome} {functions nodes edges : ℕ} {set reached new : List ℕ} → accepted functions nodes edges ≡ x → Sets (program_of t) set reached → Eight set → new ≡ take (length old) set ++ drop 8 old → LeavesWords t (table_result x) old new
words_left t old {set = set} e of eight written = rw (← e) (set, record { eight = eight; set = of.set; exists = of.exists }, written)

-- the functions that a buffer has room for
pub order_left : (t order old : List ℕ) (of : Counts) {front new : List ℕ} → outcome_of (Ok of) ≡ outcome t → CallOrder (program_of t) (places order) → length front ≡ of.functions → front ≡ take of.functions order → new ≡ take (length old) front ++ drop (length front) old → LeavesOrder t (table_result (outcome t)) old new
order_left t order old of {front = front} e in_order long is written =
    let as_many : of.functions ≡ (program_of t).functions = functions_are t of (answer_accepted t of e) in
    let as_long : length front ≡ (program_of t).functions = long ∙ as_many in
    rw (← e) (front, same_order (program_of t) (places order) (places front) (λ i l. rw is (sym (get_or-take of.functions order i 0 (omega (arith, l, as_many))))) in_order, as_long, rw (← as_long) written)
