use Rattle.std.proofs.Common.{◌≡◌, length, sym, ◌∙◌, arith}
use Rattle.listed.proofs.Widest.{kept_none, kept_add, kept_skip, kept_lists}
use Rattle.listed.proofs.force.in_force.Goals as goal
use Rattle.listed.proofs.force.in_force.Goals.{then-has_word, else-has_word}

pub loop-word-preserved : goal.loop-word-preserved
loop-word-preserved g c =
    let kept = c.loop-word.invariant in
    elim c.if-has_word.branch [
      | then-has_word w ↦ rw (w.rules-is, w.push.ensures.items) (kept_add kept (sym c.has_word.ensures ∙ w.if-has_word.true))
      | else-has_word w ↦ rw w.rules-is (kept_skip kept (sym c.has_word.ensures ∙ w.if-has_word.false))
    ]

pub loop-word-init : goal.loop-word-init
loop-word-init g c = kept_none _ _ c.requires.room.0

pub returns : goal.returns
returns g c =
    let e : c.loop-word.word-index ≡ length c.args.all.now = omega arith in
    kept_lists c.requires.widest (rw e at c.loop-word.invariant)
