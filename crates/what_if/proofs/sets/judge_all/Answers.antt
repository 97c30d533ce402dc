use Prim.Native.Nat.{ℕ, ◌+◌, ◌*◌, ◌≤◌}
use mathlib.Core.Path.{◌≡◌, refl, ap, subst}
use mathlib.Core.List.{List}
use native.Mathlib.Omega.{arith}
use lib.ListN.{length}
use Rattle.table.specs.Program.{program_of}
use Rattle.table.specs.Result.{done}
use Rattle.sizes.specs.Call.{choice_of, LeavesFor}
use Rattle.safety.specs.Safety.{Safe}
use Rattle.safety.specs.Test.{Tells}
use Rattle.what_if.specs.Call.{nodes_of, entries_of, part, Safeties}
use Rattle.what_if.proofs.Parts.{part_within, part_lent, put_lent}
use Rattle.what_if.proofs.Stepping.{none_safe, one_safe, one_unsafe, none_left, one_more_left}
use Rattle.what_if.proofs.sets.judge_all.Goals as goal
use Rattle.what_if.proofs.sets.judge_all.Goals.{then-judged, else-judged}

pub loop-i-init : goal.loop-i-init
loop-i-init c = (refl, none_safe _ _, none_left _ _ _)

pub loop-i-preserved : goal.loop-i-preserved
loop-i-preserved c =
    let p = c.args.prepared.now.known.program in
    let t = p.table.now in
    let choices = c.args.choices.now in
    let i = c.loop-i.i in
    let now = c.loop-i.sets.numbers.now in
    let set = c.judge-judged.new.out in
    let before = c.loop-i.invariant in
    let many : c.entries-entries.result ≡ entries_of t = omega (arith, c.entries-entries.ensures, p.functions_are, p.nodes_are) in
    let told : Tells c.judge-judged.result.safe (Safe (program_of t) (choice_of (part (nodes_of t) i choices))) =
    subst (λ (l : List ℕ). Tells c.judge-judged.result.safe (Safe (program_of t) (choice_of l)))
    (part_lent i (ap (λ (n : ℕ). n * i) p.nodes_are) p.nodes_are choices)
    c.judge-judged.ensures.safe
    in
    let left : LeavesFor t (part (nodes_of t) i choices) (part (entries_of t) i now) done set =
    rw (← part_lent i (ap (λ (n : ℕ). n * i) p.nodes_are) p.nodes_are choices, ← part_lent i (ap (λ (n : ℕ). n * i) many) many now) c.judge-judged.ensures.leaves
    in
    let safe : Safeties t choices (i + 1) c.if-judged.bits =
    elim c.if-judged.branch [
      | then-judged w ↦ rw w.bits-is (one_safe t choices i c.loop-i.bits _ w.with_bit-bits.ensures w.if-judged.true told before.1)
      | else-judged w ↦ rw w.bits-is (one_unsafe t choices i c.loop-i.bits w.if-judged.false told before.1)
    ]
    in
    let within : entries_of t * i + entries_of t ≤ length now = omega (arith, c.requires.1.room, part_within (entries_of t) c.loop-i-test.true, before.2.long) in
    (before.0, safe, rw (put_lent i (ap (λ (n : ℕ). n * i) many) many now set) (one_more_left t choices i c.args.sets.now.numbers.now now set within left before.2))
