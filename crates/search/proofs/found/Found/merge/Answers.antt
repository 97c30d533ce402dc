use Rattle.std.proofs.Common.{refl, ◌∙◌, arith}
use Rattle.sizes.proofs.Trying.{zeros_start}
use Rattle.search.proofs.Keeping.{written_as}
use Rattle.search.proofs.Walking.{unmerged_start, walked_at_once}
use Rattle.search.proofs.found.Found.merge.Goals as goal

pub one_by_one-requires-clause-safe : goal.one_by_one-requires-clause-safe
one_by_one-requires-clause-safe c =
    let e = c.find_sizes.ensures.same ∙ (c.if-all_at_once.ensures.none refl).0 in
    unmerged_start c.requires.posed.prepared_for (rw e c.requires.starts.0) c.find_sizes.ensures.holds

pub one_by_one-requires-clause-posed : goal.one_by_one-requires-clause-posed
one_by_one-requires-clause-posed c = c.requires.posed

pub returns-clause-merged : goal.returns-clause-merged
returns-clause-merged c =
    let e = c.find_sizes.ensures.same ∙ (c.if-all_at_once.ensures.none refl).0 in
    record { start = _; unmerged_is = rw e c.requires.starts.0; walked = c.one_by_one.ensures.walked }

pub all_at_once-requires-clause-starts_for : goal.all_at_once-requires-clause-starts_for
all_at_once-requires-clause-starts_for c = λ larger w. zeros_start c.requires.starts.1

pub returns-then-all_at_once-clause-merged : goal.returns-then-all_at_once-clause-merged
returns-then-all_at_once-clause-merged c =
    let all = c.if-all_at_once.ensures.all refl in
    record {
      start = _;
      unmerged_is = c.requires.starts.0;
      walked = walked_at_once c.requires.posed.in_order _ (omega arith) _ all.0 c.requires.starts.0.others all.1;
    }

pub returns-then-all_at_once-clause-written : goal.returns-then-all_at_once-clause-written
returns-then-all_at_once-clause-written c = written_as (c.if-all_at_once.ensures.all refl).0 refl

pub returns-clause-written : goal.returns-clause-written
returns-clause-written c = rw (c.find_sizes.ensures.same ∙ (c.if-all_at_once.ensures.none refl).0) at c.one_by_one.ensures.written
