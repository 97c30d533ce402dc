use Rattle.solver.specs.Words.{entry_count}
use Rattle.solver.specs.Values.{number_at}
use Rattle.solver.specs.Rounds.{cause_at, room, Settling}
use Rattle.solver.proofs.solution.Solution.solve.Given as goal

abbrev pub invariant-loop-last : goal.invariant-loop-last
invariant-loop-last l = Settling l.rules (number_at l.initial.self) (number_at l.self) (cause_at l.causes) l.stop l.turns

abbrev pub decreases-loop-last : goal.decreases-loop-last
decreases-loop-last l = room entry_count (number_at l.self)
