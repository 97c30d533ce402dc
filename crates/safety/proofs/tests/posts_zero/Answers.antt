use Rattle.std.proofs.Common.{◌≡◌, true, false, arith, rules}
use Rattle.std.proofs.lemmas.Iterator.{cases_from_all, YieldsList-from_range}
use Rattle.table.specs.Program.{program_of}
use Rattle.safety.proofs.Testing.{gives_zero, posts_told}
use Rattle.safety.proofs.tests.posts_zero.Goals as goal

pub returns : goal.returns
returns c =
    let program = c.args.program.now in
    let k = program.of.nodes in
    let test = gives_zero (program_of program.table.now) c.args.sizes.now in
    posts_told _ _ _ _ (cases_from_all _ _ _ (λ n. test n ≡ true) (λ n. test n ≡ false) c.all.ensures.ran (YieldsList-from_range 0 k k (search rules) (omega arith)) (λ x q h. search rules) (λ x q h. search rules))
