-- The invariant: the verdicts of the nodes below n are raised, and the other bytes are as they were.
use Rattle.size.specs.Numbers.{Written}
use Rattle.sizes.specs.Call.{choice_of}
use Rattle.search.specs.Verdict.{level}
use Rattle.search.specs.Walk.{raised_to}
use Rattle.search.proofs.trials.raised.Given as goal

abbrev pub invariant-loop-n : goal.invariant-loop-n
invariant-loop-n l = Written l.n (λ m. raised_to (level l.verdict) (choice_of l.verdicts m)) l.verdicts l.larger
