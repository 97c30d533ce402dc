-- The invariant: the records before r are counted.
use Rattle.table.proofs.Counting.{Tallied}
use Rattle.table.proofs.scan.tally.Given as goal

abbrev pub invariant-loop-r : goal.invariant-loop-r
invariant-loop-r l = Tallied l.t l.r l.of
