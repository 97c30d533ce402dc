use Prim.Native.Nat.{ℕ}
use mathlib.Core.Path.{◌≡◌}
use mathlib.Core.Bool.{Bool, true, false}
use borrow.Author.Rules.{rules}
use Rattle.std.proofs.lemmas.Iterator.{first_from_Range}
use Rattle.sizes.specs.Call.{choice_of, outside}
use Rattle.table.proofs.Below.{earliest_by}
use Rattle.sizes.proofs.admit.first_outside.Goals as goal

pub returns : goal.returns
returns c =
    let test : ℕ → Bool = λ n. outside c.args.program.now.table.now n (choice_of c.args.choice.now n) in
    earliest_by test c.args.program.now.of.nodes c.find.result
    (first_from_Range _ _ _ c.find.result (λ k. test k ≡ true) (λ k. test k ≡ false) c.find.ensures.ran (λ x q k. search rules) (λ x q k. search rules))
