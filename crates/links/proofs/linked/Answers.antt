use native.Mathlib.Omega.{arith}
use mathlib.Core.Path.{◌∙◌}
use Rattle.std.proofs.lemmas.List.{length-replicate, length-set}
use Rattle.links.proofs.Chains.{linked_none, linked_pass, linked_put}
use Rattle.links.proofs.linked.Goals as goal
use Rattle.links.proofs.linked.Goals.{in-Some, in_default}

pub loop-i-init : goal.loop-i-init
loop-i-init g c = (length-replicate g.row.K _, length-replicate g.row.N _, λ has k. linked_none has g.row.K g.row.N)

pub loop-i-preserved : goal.loop-i-preserved
loop-i-preserved g c =
    let long = c.loop-i.invariant in
    let here = c.loop-i-test.true in
    elim c.match-key.branch [
      | in-Some w ↦
          rw (w.first-is, w.next-is) (
            length-set _ _ _ ∙ long.0,
            length-set _ _ _ ∙ long.1,
            λ has fits. linked_put has _ _ _ (long.2 has fits) w.in-Some.k (omega (arith, long.0, c.requires.few _ _ here w.in-Some.ensures)) (omega (arith, long.1, c.requires.room)) (fits.key _ _ here w.in-Some.ensures),
          )
      | in_default w ↦ rw (w.first-is, w.next-is) (long.0, long.1, λ has fits. linked_pass has _ _ _ (long.2 has fits) (fits.nothing _ here w.in_default.ensures))
    ]
