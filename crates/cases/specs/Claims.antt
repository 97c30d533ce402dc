-- Document 01, "Cases to hold as one": what is said of a table there, each in the words of the rules themselves.
use Rattle.std.specs.Prelude.{ℕ, ◌≡◌, Bool, false, List, [], ◌∷◌, Some}
use Rattle.table.specs.Refusal.{refusal, refused_at}
use Rattle.table.specs.Checks.{checks, Accepted}
use Rattle.table.specs.Program.{program_of}
use Rattle.sync.specs.Synchronising.{Synchronising}
use Rattle.rules.specs.Choice.{ChoiceFor}
use Rattle.rules.specs.Rules.{of_function, LeastSizes}
use Rattle.sizes.specs.Call.{choice_of}
use Rattle.safety.specs.Safety.{Safe}
use Rattle.choice.specs.Beats.{Best}
use Rattle.text.specs.Listing.{ListingOf}

-- A choice is given by its bytes, one for each node; a function, a node and a kind of size (`total`, `post`, `pre`, `through`) by their numbers.
pub data Claim : Type 0 where
  -- its listing is this text
  listed : List ℕ → Claim
  -- this is its best choice
  best : List ℕ → Claim
  -- with a choice, a size of a function is this one
  sized : (choice : List ℕ) (f k size : ℕ) → Claim
  -- a choice is unsafe
  unsafe : List ℕ → Claim
  -- a node is not synchronising
  not_synchronising : ℕ → Claim
  -- it is refused with this number at this place
  refused : (number place : ℕ) → Claim

-- The claim is true of the table.
abbrev pub Says : List ℕ → Claim → Type 0
Says t (listed text) = ListingOf t text
Says t (best c) = Accepted t × ChoiceFor (program_of t) (choice_of c) × Best (program_of t) (choice_of c)
Says t (sized c f k size) =
    Accepted t
    × ChoiceFor (program_of t) (choice_of c)
    × ((sizes : ℕ → ℕ) × LeastSizes (program_of t) (choice_of c) sizes × (of_function (program_of t) sizes k f ≡ size))
Says t (unsafe c) = Accepted t × ChoiceFor (program_of t) (choice_of c) × (Safe (program_of t) (choice_of c) → ⊥)
Says t (not_synchronising n) = Accepted t × ((set : ℕ → Bool) × Synchronising (program_of t) set × (set n ≡ false))
Says t (refused number place) = refusal checks t ≡ Some (refused_at number place)

-- A table with what is said of it, and that all of it is true.
pub record Case : Type 0 where
  pub table : List ℕ
  pub claims : List Claim

abbrev pub AllSay : List ℕ → List Claim → Type 0
AllSay t [] = Unit {0}
AllSay t (c ∷ l) = Says t c × AllSay t l

abbrev pub Holds : Case → Type 0
Holds x = AllSay x.table x.claims

abbrev pub AllHold : List Case → Type 0
AllHold [] = Unit {0}
AllHold (x ∷ l) = Holds x × AllHold l
