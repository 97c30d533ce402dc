-- A report, read line by line. Helps proofs only.
use Rattle.std.specs.Prelude.{ℕ, ◌<◌, ◌≤◌, ◌≡◌, true, false, ◌&&◌, cond, List, length, drop, get_or, bytes_eq}
use Rattle.std.specs.Borrow.{Bor}
use Rattle.usage_line.specs.Line.{name_in, count_in, is_usage}
use Rattle.usage_line.specs.Lines.{pieces, lines}
use Rattle.usage_line.specs.declared.answer.Usage.{Usage}
use Rattle.usage_line.specs.declared.lines.Cut.{Cut}
use Rattle.stack_usage.specs.Call.{wrong_usage}
use Rattle.stack_usage.specs.Mention.{more, SaysOfEach}
use Rattle.stack_usage.specs.Names.{NamesOf}
use Rattle.stack_usage.specs.declared.mention.Mention.{Mention}
use Rattle.stack_usage.specs.declared.mention.Mention.TheVariants.{Never}
use Rattle.stack_usage.specs.declared.names.Names.{Names}

-- the line is of its form and in range, and this is what it says
abbrev pub Reads : Cut → Usage → Type 0
Reads cut usage = ((cut.ended && is_usage cut.line.now) ≡ true) × (usage.name.now ≡ name_in cut.line.now) × (usage.count ≡ count_in cut.line.now)

-- one more line about those of the first n functions that have its name, and about no other
pub record Noted (names : Names) (usage : Usage) (n : ℕ) (old new : List Mention) : Type 0 where
  pub long : length new ≡ length old
  pub noted : (f : ℕ) (d : Bor (List ℕ)) → f < n → get_or new f Never ≡ cond (bytes_eq (get_or names.of f d).now usage.name.now) (more (get_or old f Never) usage.count) (get_or old f Never)
  pub others : (f : ℕ) → n ≤ f → get_or new f Never ≡ get_or old f Never

-- the first j lines are of their form, say this of the functions, and the others are left
pub record ReportRead (report : List ℕ) (names : Names) (j : ℕ) (mentions : List Mention) (rest : List ℕ) : Type 0 where
  pub said : (file : List ℕ) → NamesOf file names → SaysOfEach file report names.functions j mentions
  pub each_right : (k : ℕ) → k < j → wrong_usage report k ≡ false
  pub within : j ≤ lines report
  pub left : drop j (pieces report) ≡ pieces rest
