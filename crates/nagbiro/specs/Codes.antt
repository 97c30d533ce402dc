-- What the exported functions return, in document 01's numbers: 0 where nothing is refused, else the refusal's number, with its place.
use Rattle.std.specs.Prelude.{ℕ, ◌≡◌}
use Rattle.table.specs.Answer.{Outcome}
use Rattle.table.specs.Answer.Outcome.{accepted}
use Rattle.table.specs.Answer.Outcome.{refused as table_refused}
use Rattle.table.specs.Result.{Result, done, refused}

-- what a call comes to that is handed a table and nothing else that can be refused
abbrev pub table_result : Outcome → Result
table_result (accepted functions nodes edges) = done
table_result (table_refused number place) = refused number place

-- the number returned
abbrev pub code_of : Result → ℕ
code_of done = 0
code_of (refused number place) = number

-- what stands in `place` afterwards: what stood there before, where nothing is refused
abbrev pub place_of : Result → ℕ → ℕ
place_of done old = old
place_of (refused number place) old = place

-- what a caller is told: the number returned, and the place
abbrev pub Told : Result → (returned old_place new_place : ℕ) → Type 0
Told x returned old_place new_place = (returned ≡ code_of x) × (new_place ≡ place_of x old_place)
