-- The invariant: the walk has gone over the spawns so far, the bytes past the nodes are as they were, and the numbers are the sizes of the choice.
use Rattle.std.proofs.Common.{◌≡◌, length}
use Rattle.size.specs.Numbers.{at, Written}
use Rattle.sizes.specs.Call.{choice_of}
use Rattle.sizes.specs.Trials.{Holds}
use Rattle.search.specs.Verdict.{level}
use Rattle.search.specs.Problem.{program_in}
use Rattle.search.specs.Walk.{Walked}
use Rattle.search.proofs.found.Found.one_by_one.Given as goal

abbrev pub invariant-loop-n : goal.invariant-loop-n
invariant-loop-n l = record {
  walked : Walked (program_in l.problem) (level l.verdict) l.n-index (at l.problem.order.now) (choice_of l.initial.self.verdicts) (choice_of l.self.verdicts);
  written : Written (program_in l.problem).nodes (choice_of l.self.verdicts) l.initial.self.verdicts l.self.verdicts;
  holds : Holds l.problem.prepared.now (choice_of l.self.verdicts) l.self.sizes;
  long : length l.self.verdicts ≡ 512;
}
