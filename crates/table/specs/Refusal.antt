-- Document 01, "Refused tables": how a list of checks decides. What is checked, X, is a table here and more in the crates above.
use Rattle.std.specs.Prelude.{ℕ, List, [], ◌∷◌, Bool, cond, Option, None, Some, option_map}
use Rattle.std.specs.Option.{option_or}
use Rattle.table.specs.Below.{earliest}

-- "Returned | When | Place": one row. `place` is the earliest place where its condition holds, and none where it holds nowhere.
pub record Check (X : Type 0) : Type 0 where
  pub number : ℕ
  pub place : X → Option ℕ

-- A row about the whole of what is checked has one place; of a row about its records, nodes or bytes the place is the earliest one.
abbrev pub of_whole : {X : Type 0} → (X → Bool) → (X → ℕ) → X → Option ℕ
of_whole condition place x = cond (condition x) (Some (place x)) None

abbrev pub of_each : {X : Type 0} → (X → ℕ → Bool) → (X → ℕ) → X → Option ℕ
of_each condition count x = earliest (condition x) (count x)

-- a row about a part of what is checked
abbrev pub over : {X Y : Type 0} → (X → Y) → Check Y → Check X
over part c = record { number = c.number; place = λ x. c.place (part x) }

-- "a numbered refusal with a place"
pub record Refusal : Type 0 where
  pub number : ℕ
  pub place : ℕ

abbrev pub refused_at : ℕ → ℕ → Refusal
refused_at n p = record { number = n; place = p }

-- "The lowest number wins, then the earliest record or node": rows stand in a list, in the order in which they win,
-- and the first that applies gives the refusal.
unfoldable pub refusal : {X : Type 0} → List (Check X) → X → Option Refusal
refusal [] x = None
refusal (c ∷ cs) x = option_or (option_map (refused_at c.number) (c.place x)) (refusal cs x)
