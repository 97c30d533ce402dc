-- What a check of a table finds, in document 01's numbers, and what each case of the code's answer stands for.
use Rattle.std.specs.Prelude.{ℕ, ◌≡◌, List, Option, None, Some, Result, Ok, Err}
use Rattle.table.specs.Refusal.{Refusal, refusal}
use Rattle.table.specs.Record.{functions, nodes, edges}
use Rattle.table.specs.Checks.{checks, free_checks}
use Rattle.table.specs.Checks.{Accepted as IsAccepted}
use Rattle.table.specs.declared.Counts.{Counts}
use Rattle.table.specs.declared.refusal.Refused.{Refused}
use Rattle.table.specs.declared.refusal.Cause.{Cause}
use Rattle.table.specs.declared.refusal.Cause.TheVariants.{Length, Unlisted, OutOfOrder, TooMany, NoEntry, Absent, Foreign, NotPlain, Choice, Verdicts, Room, Number, Line, Mentions, NotAbove}

-- accepted, with how many functions, nodes and edges there are; or refused, with the number and the place of "Refused tables"
pub data Outcome : Type 0 where
  accepted : (functions nodes edges : ℕ) → Outcome
  refused : (number place : ℕ) → Outcome

-- what document 01 says of a table: the refusal, if there is one
unfoldable pub outcome_for : List ℕ → Option Refusal → Outcome
outcome_for t None = accepted (functions t) (nodes t) (edges t)
outcome_for t (Some r) = refused r.number r.place

unfoldable pub outcome : List ℕ → Outcome
unfolding outcome_for
outcome t = outcome_for t (refusal checks t)

-- and what it says where the order of edges is free
unfoldable pub free_outcome : List ℕ → Outcome
unfolding outcome_for
free_outcome t = outcome_for t (refusal free_checks t)

-- the number under which "Refused tables" has each cause
abbrev pub number_of : Cause → ℕ
number_of Length = 1
number_of Unlisted = 2
number_of OutOfOrder = 3
number_of TooMany = 4
number_of NoEntry = 5
number_of Absent = 6
number_of Foreign = 7
number_of NotPlain = 8
number_of Choice = 9
number_of Verdicts = 10
number_of Room = 11
number_of Number = 12
number_of Line = 13
number_of Mentions = 14
number_of NotAbove = 15

-- what each case of the answer says
abbrev pub outcome_of : Result Counts Refused → Outcome
outcome_of (Ok c) = accepted c.functions c.nodes c.edges
outcome_of (Err r) = refused (number_of r.cause) r.place

-- c holds the table's counts
pub record CountsOf (t : List ℕ) (c : Counts) : Type 0 where
  pub functions_are : c.functions ≡ functions t
  pub nodes_are : c.nodes ≡ nodes t
  pub edges_are : c.edges ≡ edges t

-- c is what an accepted table was accepted with: what the readers of its program ask
pub record Ready (t : List ℕ) (c : Counts) : Type 0 where
  pub accepted_is : IsAccepted t
  pub counts_are : CountsOf t c
