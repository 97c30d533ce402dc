use Prim.Native.Nat.{◌<◌}
use mathlib.Core.Path.{sym, ◌∙◌}
use native.Mathlib.Omega.{arith}
use Rattle.stack_usage.proofs.Noting.{hit, miss}
use Rattle.stack_usage.proofs.report.note.Goals as goal
use Rattle.stack_usage.proofs.report.note.Goals.{then-eq, else-eq}

pub loop-f-preserved : goal.loop-f-preserved
loop-f-preserved c =
    let before = c.loop-f.invariant in
    let few : c.loop-f.f < 64 = omega (arith, c.loop-f-test.true, c.requires) in (
      c.if-eq.array_long,
      before.1,
      elim c.if-eq.branch [
        | then-eq w ↦ rw (w.mentions-is, w.and.ensures) (hit _ _ before.2 before.1 before.0 few _ (sym c.eq.ensures ∙ w.if-eq.true))
        | else-eq w ↦ rw w.mentions-is (miss _ _ before.2 before.1 before.0 few _ (sym c.eq.ensures ∙ w.if-eq.false))
      ],
    )
