use mathlib.Core.Path.{sym, ◌∙◌}
use Rattle.sync.proofs.Passing.{reached_more, look_passed, look_barred}
use Rattle.sync.proofs.ways.Ways.look.Goals as goal
use Rattle.sync.proofs.ways.Ways.look.Goals.{then-has, else-has}

pub returns : goal.returns
returns c =
    let found = rw c.first-first.ensures.0 at c.reach-reached.ensures in record {
      look = elim c.if-has.branch [
        | then-has w ↦ rw w.set-is (look_passed _ _ _ _ found _ c.exit-exit.ensures.0 (sym c.has.ensures ∙ w.if-has.true))
        | else-has w ↦ rw w.set-is (look_barred _ _ _ _ found _ c.exit-exit.ensures.0 (sym c.has.ensures ∙ w.if-has.false) _ w.with_calls-set.ensures)
      ];
      reach = reached_more _ _ _ _ found c.union.ensures;
    }
