-- The first f functions are counted.
use Rattle.stack_usage.specs.Counted.{EachOnce}
use Rattle.stack_usage.proofs.counts.each_once.Given as goal

abbrev pub invariant-loop-f : goal.invariant-loop-f
invariant-loop-f l = EachOnce l.mentions l.f l.counts
