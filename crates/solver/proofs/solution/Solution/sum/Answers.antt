use native.Mathlib.Omega.{arith}
use Rattle.size.proofs.Values.{value_is}
use Rattle.solver.proofs.Values.{size_got}
use Rattle.solver.proofs.solution.Solution.sum.Goals as goal

pub returns-in-Some : goal.returns-in-Some
returns-in-Some c =
    rw c.in-Some.is (omega (arith, value_is _ _ c.from_number.ensures, value_is _ _ c.add-sum.ensures, value_is _ _ c.add.ensures, c.get.ensures, size_got c.args.self.now c.in-Some.other (rw c.in-Some.is at c.requires.1)))

pub returns-in-None : goal.returns-in-None
returns-in-None c = rw c.in-None.is (omega (arith, value_is _ _ c.from_number.ensures, value_is _ _ c.add-sum.ensures, c.get.ensures))
