-- For the contracts of the passes over the records. Helps proofs only: no public promise rests on it.
use Rattle.std.specs.Prelude.{ℕ, List, Bool, false, ◌&&◌, eqb, leb, Option, None}
use Rattle.table.specs.declared.refusal.Cause.{Cause}
use Rattle.table.specs.declared.refusal.Cause.TheVariants.{Length, Unlisted, OutOfOrder, TooMany, NoEntry, Absent, Foreign, NotPlain, Choice, Verdicts, Room, Number, Line, Mentions, NotAbove}
use Rattle.table.specs.Below.{count}
use Rattle.table.specs.Refusal.{of_whole}
use Rattle.table.specs.Record.{records, kind_of, is_entry}
use Rattle.table.specs.Checks.{broken, unlisted, out_of_order, too_many, no_entry, absent, foreign, not_plain, not_above, of_record}

-- record r is of kind k; and as many as the limit stand before it
abbrev pub of_kind : List ℕ → ℕ → ℕ → Bool
of_kind t k r = eqb (kind_of t r) k

abbrev pub surplus_of : List ℕ → ℕ → ℕ → ℕ → Bool
surplus_of t k limit r = of_kind t k r && leb limit (count (of_kind t k) r)

-- what the check for a cause looks for among the records: what it refuses, and of check 5 an entry
abbrev pub sought : Cause → List ℕ → ℕ → Bool
sought Unlisted = unlisted
sought OutOfOrder = out_of_order
sought NoEntry = is_entry
sought Absent = absent
sought Foreign = foreign
sought NotPlain = not_plain
sought NotAbove = not_above
sought Length = λ t r. false
sought TooMany = λ t r. false
sought Choice = λ t r. false
sought Verdicts = λ t r. false
sought Room = λ t r. false
sought Number = λ t r. false
sought Line = λ t r. false
sought Mentions = λ t r. false

-- the place of the row for a cause, where it is about the table itself
abbrev pub place_for : Cause → List ℕ → Option ℕ
place_for Length = of_whole broken records
place_for Unlisted = of_record unlisted
place_for OutOfOrder = of_record out_of_order
place_for TooMany = of_record too_many
place_for NoEntry = of_whole no_entry (λ t. 0)
place_for Absent = of_record absent
place_for Foreign = of_record foreign
place_for NotPlain = of_record not_plain
place_for NotAbove = of_record not_above
place_for Choice = λ t. None
place_for Verdicts = λ t. None
place_for Room = λ t. None
place_for Number = λ t. None
place_for Line = λ t. None
place_for Mentions = λ t. None
