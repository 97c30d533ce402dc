use Rattle.std.proofs.Common.{sym, ◌∙◌}
use Rattle.search.proofs.Keeping.{written_tried}
use Rattle.search.proofs.Walking.{next_starts, next_tried, next_past}
use Rattle.search.proofs.found.Found.one_by_one.Goals as goal
use Rattle.search.proofs.found.Found.one_by_one.Goals.{then-is_next, else-is_next}

pub attempt-requires : goal.attempt-requires
attempt-requires c =
    let p = c.args.problem.now in
    let q = c.requires.posed in
    let L = c.loop-n in
    (q.prepared_for, next_starts p.prepared.now p.order.now q.in_order L.self.verdicts L.invariant.long c.args.verdict L.n-index c.loop-n-test.true c.from.ensures (sym c.is_next.ensures ∙ c.if-is_next.true) L.invariant.holds)

pub loop-n-preserved : goal.loop-n-preserved
loop-n-preserved c =
    let p = c.args.problem.now in
    let o = c.requires.posed.in_order in
    let L = c.loop-n in
    elim c.if-is_next.branch [
      | then-is_next w ↦
          let x = next_tried p.prepared.now p.order.now o L.self.verdicts L.invariant.long c.args.verdict L.n-index c.loop-n-test.true w.from.ensures (sym c.is_next.ensures ∙ w.if-is_next.true) L.invariant.holds L.invariant.walked w.attempt.ensures.tried w.attempt.ensures.taken in
          rw w.self-is (record { walked = x.0; written = written_tried _ _ (o.spawns L.n-index c.loop-n-test.true).exists w.attempt.ensures.taken L.invariant.written; holds = x.1; long = x.2 })
      | else-is_next w ↦
          rw w.self-is (record { walked = next_past p.prepared.now p.order.now o L.self.verdicts L.invariant.long c.args.verdict L.n-index c.loop-n-test.true (sym c.is_next.ensures ∙ w.if-is_next.false) L.invariant.walked; written = L.invariant.written; holds = L.invariant.holds; long = L.invariant.long })
    ]
