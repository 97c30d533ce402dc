use mathlib.Core.Path.{ap}
use lib.ListN.{length}
use Rattle.what_if.specs.Call.{list_call}
use Rattle.what_if.specs.declared.sets.Sets.{Sets}
use Rattle.what_if.proofs.Calls.{done_valid, valid_fits}
use Rattle.what_if.proofs.counted.Goals as goal

pub with_prepared-requires : goal.with_prepared-requires
with_prepared-requires c =
    let a = c.args in
    let known = c.in_ok-known.ensures.known in
    let valid = done_valid (list_call a.t.now a.number a.choices.now (length a.out.now)) c.in_ok-known.ensures.answer in (
      known.looked,
      λ value prepares state shows.
          (prepares.1, rw (prepares.0, known.table_is) (valid_fits _ _ valid (ap (λ (s : Sets). length s.numbers.now) shows))),
    )
