use Rattle.std.proofs.Common.{refl, arith}
use Rattle.search.proofs.Keeping.{written_as}
use Rattle.search.proofs.Walking.{starts_all, walked_at_once}
use Rattle.search.proofs.found.Found.walk.Goals as goal

pub all_at_once-requires-clause-starts_for : goal.all_at_once-requires-clause-starts_for
all_at_once-requires-clause-starts_for c = λ larger w. starts_all _ _ (omega arith) w c.requires.holds

pub returns-then-all_at_once-clause-walked : goal.returns-then-all_at_once-clause-walked
returns-then-all_at_once-clause-walked c =
    let all = c.if-all_at_once.ensures.all refl in
    walked_at_once c.requires.posed.in_order _ c.requires.above _ all.0 c.requires.safe.1 all.1

pub one_by_one-requires : goal.one_by_one-requires
one_by_one-requires c =
    let none = c.if-all_at_once.ensures.none refl in
    record { posed = c.requires.posed; safe = rw none.0 c.requires.safe.0; holds = rw (none.0, none.1) c.requires.holds }

pub returns-then-all_at_once-clause-written : goal.returns-then-all_at_once-clause-written
returns-then-all_at_once-clause-written c = written_as (c.if-all_at_once.ensures.all refl).0 refl

pub returns-clause-written : goal.returns-clause-written
returns-clause-written c = rw (c.if-all_at_once.ensures.none refl).0 at c.one_by_one.ensures.written
