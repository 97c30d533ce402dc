use native.Mathlib.Omega.{arith}
use Rattle.size.proofs.Writing.{written_first}
use Rattle.sizes.proofs.Laws.{written_as}
use Rattle.sizes.proofs.find.write.Goals as goal

pub returns : goal.returns
returns c =
    let p = c.args.program.now in
    let s = written_first c.sizes.result.now (omega (arith, c.sizes.ensures.len)) c.write_sizes.ensures in
    written_as (rw c.sizes.ensures.value at s) (omega (arith, p.functions_are, p.nodes_are))
