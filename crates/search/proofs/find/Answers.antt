use Rattle.std.proofs.Common.{arith}
use Rattle.preference.proofs.Firsts.{order_cut}
use Rattle.search.proofs.Keeping.{written_twice}
use Rattle.search.proofs.Walking.{merged_others}
use Rattle.search.proofs.find.Goals as goal

pub merge-requires : goal.merge-requires
merge-requires c = record {
  posed = record { prepared_for = c.requires.0; in_order = order_cut _ c.in_order-order.ensures.in_order c.as_slice.ensures.value c.as_slice.ensures.len };
  starts = (c.unmerge.ensures.unmerged, c.requires.1);
}

pub walk-requires : goal.walk-requires
walk-requires c =
    let o = order_cut _ c.in_order-order.ensures.in_order c.as_slice.ensures.value c.as_slice.ensures.len in
    record {
      posed = record { prepared_for = c.requires.0; in_order = o };
      above = omega arith;
      safe = (c.merge.ensures.merged.walked.safe, merged_others o c.merge.ensures.merged);
      holds = c.merge.ensures.holds;
    }

pub returns-clause-searched : goal.returns-clause-searched
returns-clause-searched c = record {
  count = _;
  order = _;
  middle = _;
  in_order = order_cut _ c.in_order-order.ensures.in_order c.as_slice.ensures.value c.as_slice.ensures.len;
  merged = c.merge.ensures.merged;
  walked = c.walk.ensures.walked;
  holds = c.walk.ensures.still_holds;
}

pub returns-clause-written : goal.returns-clause-written
returns-clause-written c = written_twice (written_twice c.unmerge.ensures.written c.merge.ensures.written) c.walk.ensures.written
