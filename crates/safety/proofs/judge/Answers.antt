use mathlib.Core.Path.{refl}
use Rattle.sizes.specs.Call.{choice_of}
use Rattle.sizes.proofs.Calls.{found_leaves}
use Rattle.sizes.proofs.Trying.{zeros_start}
use Rattle.safety.proofs.Judging.{tells_found}
use Rattle.safety.proofs.judge.Goals as goal

pub find_from-found-requires : goal.find_from-found-requires
find_from-found-requires c = (c.requires.0, zeros_start refl)

pub returns-clause-safe : goal.returns-clause-safe
returns-clause-safe c = tells_found c.requires.0.looked (choice_of c.args.choice.now) c.find_from-found.ensures c.both_hold.ensures

pub returns-clause-leaves : goal.returns-clause-leaves
returns-clause-leaves c = found_leaves _ c.args.choice.now (record { table_is = refl; looked = c.requires.0.looked }) c.find_from-found.ensures c.write.ensures
