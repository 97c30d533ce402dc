use Rattle.std.proofs.Common.{rules}
use native.Mathlib.Omega.{arith}
use mathlib.Core.Logic.{inl, inr}
use Rattle.solver.proofs.Rounds.{head_low, turn_held, turn_rose, turn_over}
use Rattle.solver.proofs.solution.Solution.turn.Goals as goal
use Rattle.solver.proofs.solution.Solution.turn.Goals.{then-apply, else-apply, else-loop-i-test, then-loop-i-test+then-i-end}

pub loop-i-preserved : goal.loop-i-preserved
loop-i-preserved c =
    let L = c.loop-i in
    let r = c.from-rule.result in
    let is = c.from-rule.ensures.0 in
    elim c.if-apply.branch [
      | then-apply w ↦ turn_rose L.invariant (omega (arith, c.if-i-end.false)) r is (head_low r c.requires.named (omega arith) is) (rw w.if-apply.true at c.apply.ensures) (omega arith) (omega arith)
      | else-apply w ↦ turn_held L.invariant (omega (arith, c.if-i-end.false)) r is (rw w.if-apply.false at c.apply.ensures) (omega arith) (omega arith)
    ]

pub returns-clause-turned : goal.returns-clause-turned
returns-clause-turned c =
    rw c.begin_turn.ensures
    (elim c.loop-i-test.branch [
      | else-loop-i-test w ↦ turn_over c.loop-i.invariant (inl w.loop-i-test.false) (search rules)
      | then-loop-i-test+then-i-end w ↦ turn_over c.loop-i.invariant (inr w.if-i-end.true) (search rules)
    ])
