use Rattle.std.proofs.Common.{◌≡◌, true, false, arith, rules}
use Rattle.std.proofs.lemmas.Iterator.{cases_from_all, YieldsList-from_range}
use Rattle.safety.proofs.Testing.{one_bounded, edges_told}
use Rattle.safety.proofs.tests.edges_bounded.Goals as goal

pub returns : goal.returns
returns c =
    let program = c.args.program.now in
    let k = program.of.edges in
    let test = one_bounded program.table.now c.args.after.now c.args.before.now in
    edges_told _ program.of program.ready _ _ _ (cases_from_all _ _ _ (λ e. test e ≡ true) (λ e. test e ≡ false) c.all.ensures.ran (YieldsList-from_range 0 k k (search rules) (omega arith)) (λ x q h. search rules) (λ x q h. search rules))
