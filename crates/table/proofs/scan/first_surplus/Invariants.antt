-- The invariant: the records before r of the kind are counted, and none of them is past the limit.
use Rattle.table.specs.Kind.{number_of_kind}
use Rattle.table.specs.Scan.{of_kind}
use Rattle.table.proofs.Counting.{NoneYet}
use Rattle.table.proofs.scan.first_surplus.Given as goal

abbrev pub invariant-loop-r : goal.invariant-loop-r
invariant-loop-r l = NoneYet (of_kind l.t (number_of_kind l.kind)) l.limit l.r l.before
