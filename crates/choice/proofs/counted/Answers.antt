use Rattle.search.specs.Walk.{Searched}
use Rattle.choice.proofs.Calls.{done_fits}
use Rattle.choice.proofs.Leaving.{best_leaves}
use Rattle.choice.proofs.Winning.{searched_best}
use Rattle.choice.proofs.counted.Goals as goal

pub write-requires : goal.write-requires
write-requires c =
    let fits = done_fits _ c.in_ok-known.ensures.answer in
    rw c.in_ok-known.ensures.known.table_is (fits.verdicts, fits.sizes)

pub returns-clause-leaves : goal.returns-clause-leaves
returns-clause-leaves c =
    let m = c.with_prepared.ensures in
    let searched : Searched m.value.now m.left.now = m.called.0 in
    let same = c.in_ok-known.ensures.known.table_is in
    let best = rw (m.fit.0, m.leaves, same) at (searched_best m.fit.1 searched) in
    best_leaves best (rw same at c.write.ensures.verdicts) (rw same at c.write.ensures.sizes)
