-- The rows before the one that the loop is at do not apply.
use Rattle.table.proofs.Told.{Past}
use Rattle.table.proofs.check_free.Given as goal

abbrev pub invariant-loop-cause : goal.invariant-loop-cause
invariant-loop-cause l = Past l.t l.cause-items l.cause-index
