use mathlib.Core.Path.{refl}
use native.Mathlib.Omega.{arith}
use Rattle.solver.specs.Rounds.{held, rose}
use Rattle.solver.proofs.solution.Solution.apply.Goals as goal

pub returns-then-from : goal.returns-then-from
returns-then-from c = held (omega (arith, c.sum-sum.ensures, c.get-old.ensures, c.from.ensures, c.from-2.ensures)) refl refl

pub returns : goal.returns
returns c =
    rose _ (omega (arith, c.sum-sum.ensures, c.get-old.ensures, c.from.ensures, c.from-2.ensures))
    (rw (c.sum-sum.ensures, c.unwrap_or-second.ensures) at c.rise-new.ensures.risen)
    c.put.ensures
