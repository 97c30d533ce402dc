-- What the lines of a report that are read so far say of a function. Helps proofs only.
use Rattle.std.specs.Prelude.{ℕ, ◌<◌, ◌≤◌, ◌≡◌, List, Some, get_or}
use Rattle.table.specs.Below.{earliest, count}
use Rattle.usage_line.specs.Lines.{line}
use Rattle.usage_line.specs.Line.{count_in}
use Rattle.stack_usage.specs.Call.{about}
use Rattle.stack_usage.specs.declared.mention.Mention.{Mention}
use Rattle.stack_usage.specs.declared.mention.Mention.TheVariants.{Never, Once, More}

-- with one more line about it, that has this count
abbrev pub more : Mention → ℕ → Mention
more Never count = Once count
more (Once c) count = More
more More count = More

-- the first j lines say this of function f
abbrev pub Says : (names report : List ℕ) → (f j : ℕ) → Mention → Type 0
Says names report f j Never = count (about names report f) j ≡ 0
Says names report f j (Once c) = (count (about names report f) j ≡ 1) × (i : ℕ) × (earliest (about names report f) j ≡ Some i) × (c ≡ count_in (line report i))
Says names report f j More = 2 ≤ count (about names report f) j

-- and this of each of the functions
abbrev pub SaysOfEach : (names report : List ℕ) → (functions j : ℕ) → List Mention → Type 0
SaysOfEach names report functions j mentions = (f : ℕ) → f < functions → Says names report f j (get_or mentions f Never)
