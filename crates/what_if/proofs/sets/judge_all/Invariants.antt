use Rattle.std.proofs.Common.{◌≡◌}
use Rattle.what_if.specs.Call.{LeavesSets, Safeties}
use Rattle.what_if.proofs.sets.judge_all.Given as goal

abbrev pub invariant-loop-i : goal.invariant-loop-i
invariant-loop-i l =
    let t = l.fn.prepared.known.program.table.now in
    (l.sets.numbers.ghost_name ≡ l.fn.sets.numbers.ghost_name)
    × Safeties t l.fn.choices l.i l.bits
    × LeavesSets t l.fn.choices l.i l.fn.sets.numbers.now l.sets.numbers.now
