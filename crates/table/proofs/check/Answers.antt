use Rattle.std.proofs.lemmas.Result.{err_from_is_err_and}
use Rattle.table.proofs.Laws.{free_accepted}
use Rattle.table.proofs.Order.{free_refuses, last_refuses, none_refuses}
use Rattle.table.proofs.check.Goals as goal

pub returns-in_err-of : goal.returns-in_err-of
returns-in_err-of c =
    let e = err_from_is_err_and c.from_residual.result c.from_residual.ensures.1 in
    rw (e.1, e.2) (free_refuses _ _ c.in_err-of.ensures)

pub invariant_of-counted : goal.invariant_of-counted
invariant_of-counted c = record { counts_of = (free_accepted _ _ c.in_ok-of.ensures).1 }

pub returns-in-Some : goal.returns-in-Some
returns-in-Some c = last_refuses _ (free_accepted _ _ c.in_ok-of.ensures).0 _ c.in-Some.ensures

pub returns-in-None : goal.returns-in-None
returns-in-None c = let w = free_accepted _ _ c.in_ok-of.ensures in none_refuses _ w.0 w.1 c.in-None.ensures
