use mathlib.Core.Path.{refl}
use Rattle.solver.proofs.Values.{number_le}
use Rattle.solver.proofs.Rounds.{settling_start, settling_on, settled}
use Rattle.solver.proofs.solution.Solution.solve.Goals as goal

pub loop-last-init : goal.loop-last-init
loop-last-init c = settling_start (number_le c.args.self.now) c.none-causes.ensures

pub loop-last-preserved : goal.loop-last-preserved
loop-last-preserved c = settling_on c.loop-last.invariant (rw c.in-Some.is at c.turn.ensures.turned) (rw c.in-Some.is at c.turn.ensures.behind)

pub returns : goal.returns
returns c = settled c.loop-last.invariant (rw c.in_default.is at c.turn.ensures.turned) refl
