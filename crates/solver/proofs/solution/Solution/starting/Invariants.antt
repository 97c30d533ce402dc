-- The first numbers are taken over, and the rest are zeros.
use mathlib.Core.Path.{◌≡◌}
use mathlib.Core.List.{map}
use lib.ListN.{replicate}
use Rattle.size.specs.Size.{cap, value_of}
use Rattle.size.specs.Numbers.{at, Written}
use Rattle.size.specs.declared.Size.TheVariants.{Bytes}
use Rattle.solver.proofs.solution.Solution.starting.Given as goal

abbrev pub invariant-loop-x : goal.invariant-loop-x
invariant-loop-x l = Written l.x (λ y. cap (at l.numbers y)) (replicate 2304 0) (map value_of l.solution.sizes) × (l.solution.after ≡ replicate 512 (Bytes 0)) × (l.solution.before ≡ replicate 512 (Bytes 0)) × (l.solution.through ≡ replicate 512 (Bytes 0))
