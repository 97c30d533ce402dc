-- What is found of a choice, and from what it may be found. Helps proofs only: the crates above know these records by the laws in
-- proofs/Trying, and do not look inside.
use Rattle.std.specs.Prelude.{ℕ, ◌<◌, ◌≡◌, List, map, length}
use Rattle.table.specs.Program.{Program, program_of}
use Rattle.sync.specs.Found.{Looked}
use Rattle.sync.specs.Words.{member}
use Rattle.sync.specs.declared.Known.{Known}
use Rattle.size.specs.Size.{value_of}
use Rattle.size.specs.Numbers.{at}
use Rattle.solver.specs.Values.{starts_from}
use Rattle.solver.specs.declared.solution.Solution.{Solution}
use Rattle.rules.specs.Rules.{entries}
use Rattle.rules.specs.System.{Derived}
use Rattle.listed.specs.Listed.{Widest}
use Rattle.sizes.specs.Answer.{SizesOf}
use Rattle.sizes.specs.declared.trials.Prepared.{Prepared}

-- the program that is known
abbrev pub known_program : Known → Program
known_program known = program_of known.program.table.now

abbrev pub DerivedFor : Known → (ℕ → ℕ) → (ℕ → ℕ) → Type 0
DerivedFor known = Derived (known_program known) (member known.synchronising) (member known.reached)

-- What finding the sizes of a choice gives; those of a larger choice may be found from them.
pub record FoundFor (known : Known) (choice : ℕ → ℕ) (found : Solution) : Type 0 where
  pub sizes : ℕ → ℕ
  pub sizes_of : SizesOf (known_program known) (member known.synchronising) choice sizes (at (map value_of found.after)) (at (map value_of found.before))
  pub derived : DerivedFor known choice sizes
  pub sizes_are : (x : ℕ) → x < entries (known_program known) → at (map value_of found.sizes) x ≡ sizes x

-- The words prepare a table for trials: they are the rules of the widest choice.
pub record WordsFor (known : Known) (words : List ℕ) : Type 0 where
  pub widest : Widest known words

-- A table that is known is prepared by these words.
abbrev pub PreparedFrom : Known → List ℕ → Type 0
PreparedFrom known words = Looked known × WordsFor known words

-- It is prepared.
pub record PreparedFor (p : Prepared) : Type 0 where
  pub looked : Looked p.known
  pub words_for : WordsFor p.known p.words.now

-- It is this table that is prepared.
abbrev pub Prepares : Known → Prepared → Type 0
Prepares known p = (p.known ≡ known) × PreparedFor p

-- The sizes of a choice may be found from these numbers.
pub record StartsFor (p : Prepared) (choice : ℕ → ℕ) (numbers : List ℕ) : Type 0 where
  pub long : length numbers ≡ 2304
  pub derived : DerivedFor p.known choice (starts_from (entries (known_program p.known)) numbers)

-- They were found, and stand in the first of these numbers.
pub record Holds (p : Prepared) (choice : ℕ → ℕ) (numbers : List ℕ) : Type 0 where
  pub long : length numbers ≡ 2304
  pub solution : Solution
  pub found : FoundFor p.known choice solution
  pub written : (x : ℕ) → x < entries (known_program p.known) → at numbers x ≡ found.sizes x
