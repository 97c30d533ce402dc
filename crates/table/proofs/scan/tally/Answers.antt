use Rattle.std.specs.Prelude.{None, Some}
use Rattle.table.specs.declared.kinds.Kind.TheVariants.{Function, Node, Edge}
use Rattle.table.proofs.Counting.{tallied_none, tallied_more}
use Rattle.table.proofs.scan.tally.Goals as goal
use Rattle.table.proofs.scan.tally.Goals.{in-Some-Function, in-Some-Node, in-Some-Edge, in-None}

pub loop-r-init : goal.loop-r-init
loop-r-init c = tallied_none _

pub loop-r-preserved : goal.loop-r-preserved
loop-r-preserved c =
    let d = c.loop-r.invariant in
    elim c.match-listed_kind.branch [
      | in-Some-Function w ↦ rw w.of-is (tallied_more d (Some Function) (rw w.in-Some-Function.field-0-is at w.in-Some-Function.ensures))
      | in-Some-Node w ↦ rw w.of-is (tallied_more d (Some Node) (rw w.in-Some-Node.field-0-is at w.in-Some-Node.ensures))
      | in-Some-Edge w ↦ rw w.of-is (tallied_more d (Some Edge) (rw w.in-Some-Edge.field-0-is at w.in-Some-Edge.ensures))
      | in-None w ↦ rw w.of-is (tallied_more d None w.in-None.ensures)
    ]
