use native.Mathlib.Omega.{arith}
use Rattle.std.proofs.lemmas.List.{length-take-le}
use Rattle.ordered_table.proofs.Laws.{written_fits}
use Rattle.ordered.proofs.run.Goals as goal

pub slice_bounds-out-end : goal.slice_bounds-out-end
slice_bounds-out-end c = written_fits _ _ _ c.in-Ok.ensures.written c.in-Ok.ensures.leaves

pub slice_bounds-write_all-end : goal.slice_bounds-write_all-end
slice_bounds-write_all-end c = omega (arith, length-take-le _ c.ordered.new.out (written_fits _ _ _ c.in-Ok.ensures.written c.in-Ok.ensures.leaves))
