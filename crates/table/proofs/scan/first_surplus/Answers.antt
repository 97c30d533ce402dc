use Rattle.std.proofs.Common.{sym, ◌∙◌}
use Rattle.table.proofs.Counting.{none_yet, none_out, none_in, surplus_here, surplus_nowhere}
use Rattle.table.proofs.scan.first_surplus.Goals as goal
use Rattle.table.proofs.scan.first_surplus.Goals.{then-is_of+else-before-limit, else-is_of}

pub loop-r-init : goal.loop-r-init
loop-r-init c = none_yet _ _

pub returns-then-before-limit : goal.returns-then-before-limit
returns-then-before-limit c = surplus_here c.loop-r.invariant (sym c.is_of.ensures ∙ c.if-is_of.true) c.if-before-limit.true c.loop-r-test.true

pub loop-r-preserved : goal.loop-r-preserved
loop-r-preserved c =
    let d = c.loop-r.invariant in
    elim c.if-is_of.branch [
      | then-is_of+else-before-limit w ↦ rw w.before-is (none_in d (sym c.is_of.ensures ∙ w.if-is_of.true) w.if-before-limit.false)
      | else-is_of w ↦ rw w.before-is (none_out d (sym c.is_of.ensures ∙ w.if-is_of.false))
    ]

pub returns : goal.returns
returns c = surplus_nowhere c.loop-r.invariant c.loop-r-test.false
