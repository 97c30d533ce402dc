-- Rules as words in a list, as the code keeps them. Entries are numbers: 2,304 sizes, and three sums for each of 512 nodes.
use Rattle.std.specs.Prelude.{ℕ, ◌/◌, ◌%◌, ◌<◌, cond, List, [], ◌∷◌, ltb, Option, None, Some}
use Rattle.size.specs.Numbers.{at}
use Rattle.solver.specs.System.{Form}
use Rattle.solver.specs.declared.rule.Rule.{Rule}

abbrev pub size_count : ℕ
size_count = 2304

abbrev pub entry_count : ℕ
entry_count = 3840

-- In one word: 12 bits for each entry, and the base above them.
abbrev pub head_of : ℕ → ℕ
head_of w = w % 4096

abbrev pub part_of : ℕ → ℕ
part_of w = w / 4096 % 4096

abbrev pub other_of : ℕ → ℕ
other_of w = w / 16777216 % 4096

abbrev pub base_of : ℕ → ℕ
base_of w = w / 68719476736

-- the other entry of a rule's body, if there is one: a size
abbrev pub others : ℕ → List ℕ
others z = cond (ltb z 2304) (z ∷ []) []

-- the rule that a word says; numbers past the sizes stand for no other entry
abbrev pub size_at : ℕ → Option ℕ
size_at z = cond (ltb z 2304) (Some z) None

abbrev pub rule_of : ℕ → Rule
rule_of w = record { head = head_of w; base = base_of w; part = part_of w; other = size_at (other_of w) }

-- what a word says
abbrev pub word_form : ℕ → Form ℕ
word_form w = record { head = head_of w; base = base_of w; body = part_of w ∷ others (other_of w) }

-- entries that the first words name exist
pub record Named (rules : List ℕ) (count : ℕ) : Type 0 where
  pub heads : (j : ℕ) → j < count → head_of (at rules j) < entry_count
  pub parts : (j : ℕ) → j < count → part_of (at rules j) < entry_count

-- The rules that are solved: the first words of a list, and that each entry is at least what it starts from.
pub data Item (count : ℕ) : Type 0 where
  word : (j : ℕ) → j < count → Item count
  start : (x : ℕ) → Item count

abbrev pub item_form : (rules : List ℕ) (count : ℕ) → (ℕ → ℕ) → Item count → Form ℕ
item_form rules count from (word j h) = word_form (at rules j)
item_form rules count from (start x) = record { head = x; base = from x; body = [] }
