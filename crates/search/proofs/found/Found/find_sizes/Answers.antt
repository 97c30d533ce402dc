use Rattle.sizes.proofs.Trying.{found_held, zeros_start}
use Rattle.search.proofs.found.Found.find_sizes.Goals as goal

pub find_from-solution-requires : goal.find_from-solution-requires
find_from-solution-requires c = (c.requires.prepared_for, zeros_start c.requires.zeros)

pub returns-clause-holds : goal.returns-clause-holds
returns-clause-holds c = found_held c.find_from-solution.ensures (zeros_start {p = c.args.prepared.now} {c = λ n. 0} c.requires.zeros).long c.write.ensures
