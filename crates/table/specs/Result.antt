-- What a call comes to, whatever is handed in beside the table: "a result or a numbered refusal with a place".
use Rattle.std.specs.Prelude.{ℕ, List, cond, ltb, Option, None, Some, Ok, Err}
use Rattle.std.specs.Prelude.{Result as CodeResult}
use Rattle.table.specs.Refusal.{Check, Refusal, of_whole, refusal}
use Rattle.table.specs.Checks.{checks}
use Rattle.table.specs.Answer.{number_of}
use Rattle.table.specs.declared.refusal.Refused.{Refused}

pub data Result : Type 0 where
  done : Result
  refused : (number place : ℕ) → Result

unfoldable pub result_for : Option Refusal → Result
result_for None = done
result_for (Some r) = refused r.number r.place

-- what each case of the answer says
abbrev pub result_of : {X : Type 0} → CodeResult X Refused → Result
result_of (Ok x) = done
result_of (Err r) = refused (number_of r.cause) r.place

-- by the checks on a table alone
unfoldable pub table_result : List ℕ → Result
table_result t = result_for (refusal checks t)

-- 11: "sizes buffer too short", and "a buffer shorter than that gives 11" (document 02): in any call that needs room in a lent buffer, but for the verdict
-- buffer, which is 10. Place: "length needed".
abbrev pub room_row : {X : Type 0} → (needed room : X → ℕ) → Check X
room_row needed room = record { number = 11; place = of_whole (λ x. ltb (room x) (needed x)) needed }

-- where no check applies but perhaps that one
abbrev pub room_result : (needed room : ℕ) → Result
room_result needed room = cond (ltb room needed) (refused 11 needed) done
