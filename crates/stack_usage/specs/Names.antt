-- A list with a name for each function, read line by line. Helps proofs only.
use Rattle.std.specs.Prelude.{ℕ, ◌+◌, ◌<◌, ◌≡◌, true, false, List, [], ◌∷◌, None, drop, get_or}
use Rattle.std.specs.Borrow.{Bor}
use Rattle.table.specs.Below.{earliest}
use Rattle.usage_line.specs.Bytes.{is_name}
use Rattle.usage_line.specs.Lines.{pieces, piece_at, body, line, is_line}
use Rattle.stack_usage.specs.Call.{wrong_name}
use Rattle.stack_usage.specs.declared.names.Names.{Names}

-- the first line is a name, and these are the lines behind it
abbrev pub TakesName : List ℕ → List ℕ → List ℕ → Type 0
TakesName file name behind = (piece : List ℕ) × (pieces file ≡ piece ∷ pieces behind) × (is_line is_name piece ≡ true) × (name ≡ body piece)

-- there is no line, or the first is no name
abbrev pub NoName : List ℕ → Type 0
NoName file = is_line is_name (get_or (pieces file) 0 []) ≡ false

-- the first lines of a file are names, and these are the lines behind them
pub record NamesRead (file : List ℕ) (done : ℕ) (of : List (Bor (List ℕ))) (rest : List ℕ) : Type 0 where
  pub name_is : (f : ℕ) (d : Bor (List ℕ)) → f < done → (get_or of f d).now ≡ line file f
  pub each_name : (f : ℕ) → f < done → is_line is_name (piece_at file f) ≡ true
  pub left : drop done (pieces file) ≡ pieces rest

-- the names of a file's lines
abbrev pub NamesOf : List ℕ → Names → Type 0
NamesOf file names = (f : ℕ) (d : Bor (List ℕ)) → f < names.functions → (get_or names.of f d).now ≡ line file f

-- a name for each function, and no line besides
pub record NamesFor (file : List ℕ) (functions : ℕ) (names : Names) : Type 0 where
  pub functions_are : names.functions ≡ functions
  pub names_are : NamesOf file names
  pub none_wrong : earliest (wrong_name file functions) (functions + 1) ≡ None
