use mathlib.Core.Path.{◌∙◌}
use mathlib.Core.List.{map}
use native.Mathlib.Omega.{arith}
use Rattle.size.specs.Size.{value_of}
use Rattle.size.specs.Numbers.{at}
use Rattle.size.proofs.Maps.{map_at}
use Rattle.size.proofs.Writing.{written_none, written_next, written_last}
use Rattle.sizes.proofs.find.write_sizes.Goals as goal

pub loop-i-init : goal.loop-i-init
loop-i-init c = written_none _ _

pub loop-i-preserved : goal.loop-i-preserved
loop-i-preserved c =
    let L = c.loop-i in
    written_next (at (map value_of c.args.sizes.now)) L.i c.from.result L.invariant (omega arith) (c.from.ensures ∙ map_at c.args.sizes.now L.i)

pub returns : goal.returns
returns c = written_last _ c.loop-i.invariant (omega arith)
