use Rattle.solver.specs.Values.{number_at}
use Rattle.solver.specs.Rounds.{cause_at, Turn}
use Rattle.solver.proofs.solution.Solution.turn.Given as goal

abbrev pub invariant-loop-i : goal.invariant-loop-i
invariant-loop-i l = Turn l.rules (number_at l.initial.self) (cause_at l.initial.causes) (number_at l.self) (cause_at l.causes) l.i l.end l.last
