use mathlib.Core.List.{map}
use Rattle.size.specs.Size.{value_of}
use Rattle.size.specs.Numbers.{at, Written}
use Rattle.sizes.proofs.find.write_sizes.Given as goal

abbrev pub invariant-loop-i : goal.invariant-loop-i
invariant-loop-i l = Written l.i (at (map value_of l.sizes)) l.initial.out l.out
