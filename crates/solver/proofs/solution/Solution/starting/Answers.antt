use Prim.Native.Nat.{ℕ}
use native.Mathlib.Omega.{arith}
use lib.ListN.{length-replicate}
use Rattle.size.specs.Size.{cap}
use Rattle.size.specs.Numbers.{at}
use Rattle.size.proofs.Values.{value_is}
use Rattle.size.proofs.Writing.{written_size, written_last}
use Rattle.solver.proofs.Values.{starts}
use Rattle.solver.proofs.solution.Solution.starting.Goals as goal

pub loop-x-preserved : goal.loop-x-preserved
loop-x-preserved c =
    let L = c.loop-x in (
      written_size (λ y. cap (at c.args.numbers.now y)) L.x c.from_number.result L.solution.sizes L.invariant.0
          (omega (arith, length-replicate {A = ℕ} 2304 0))
          (value_is c.from_number.result _ c.from_number.ensures),
      L.invariant.1,
      L.invariant.2,
      L.invariant.3,
    )

pub returns : goal.returns
returns c = let i = c.loop-x.invariant in starts c.loop-x.solution c.args.numbers.now c.requires (written_last _ i.0 (omega arith)) i.1 i.2 i.3
