use mathlib.Core.Path.{◌∙◌}
use Rattle.table.proofs.Told.{length_told, entry_told, record_told}
use Rattle.table.proofs.checks.Counted.place_of.Goals as goal

pub returns-in-Length : goal.returns-in-Length
returns-in-Length c = rw c.in-Length.is (length_told _ c.then_some.ensures)

pub returns-in-NoEntry : goal.returns-in-NoEntry
returns-in-NoEntry c = rw c.in-NoEntry.is (entry_told _ _ c.args.self.now.counts_of (rw c.in-NoEntry.is at c.first.ensures) c.is_none.ensures c.then_some-in-NoEntry.ensures)

pub returns-in_default : goal.returns-in_default
returns-in_default c = c.first-in_default.ensures ∙ record_told _ _ c.in_default.not-Length c.in_default.not-TooMany c.in_default.not-NoEntry
