use Rattle.solver.specs.Rounds.{cause_at}
use Rattle.solver.specs.Causes.{Chain}
use Rattle.solver.proofs.causes.Causes.lead.Given as goal

abbrev pub invariant-loop-walked : goal.invariant-loop-walked
invariant-loop-walked l = Chain (cause_at l.self) l.to l.entry → Chain (cause_at l.self) l.to l.from
