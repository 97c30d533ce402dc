use native.Mathlib.Nat.{mod-lt}
use native.Mathlib.Omega.{arith}
use Prim.Native.Nat.{◌<◌}
use Rattle.table.proofs.Laws.{well_formed}
use Rattle.program.specs.declared.Program.{Program}
use Rattle.what_if.proofs.admit.is_outside_at.Goals as goal

-- the entry that there is has a first node
some_node : (p : Program) → 0 < p.of.nodes
some_node p =
    let w = well_formed p.table.now p.ready.accepted_is in
    omega (arith, p.nodes_are, (w.first_own w.some_entry.0 w.some_entry.1).exists)

pub nonzero_rem-p : goal.nonzero_rem-p
nonzero_rem-p c = some_node c.args.program.now

pub is_outside-requires : goal.is_outside-requires
is_outside-requires c = mod-lt c.args.p (some_node c.args.program.now)
