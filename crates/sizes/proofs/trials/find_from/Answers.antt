use Rattle.solver.specs.Values.{number_at, Settles}
use Rattle.sizes.proofs.Closing.{found_from, derived_cut}
use Rattle.sizes.proofs.trials.find_from.Goals as goal

pub returns : goal.returns
returns c =
    let given = c.with_rules.ensures in
    let settled : Settles given.value.now (number_at given.shown.now) given.left.now = given.called in
    let start = derived_cut c.requires.1 in
    found_from _ c.requires.0.looked given.fit start.0 start.1 (rw c.entries.ensures at c.starting-found.ensures) (rw (given.shows, given.leaves) at settled)
