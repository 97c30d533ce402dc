use Prim.Native.Nat.{ℕ}
use mathlib.Core.Path.{◌≡◌}
use mathlib.Core.Bool.{Bool, true, false}
use borrow.Author.Rules.{rules}
use lib.ListN.{length}
use Rattle.std.proofs.lemmas.Iterator.{first_from_Range}
use Rattle.table.proofs.Below.{earliest_by}
use Rattle.what_if.specs.Call.{outside_list}
use Rattle.what_if.proofs.admit.first_outside.Goals as goal

pub returns : goal.returns
returns c =
    let test : ℕ → Bool = outside_list c.args.program.now.table.now c.args.choices.now in
    earliest_by test (length c.args.choices.now) c.find.result
    (first_from_Range _ _ _ c.find.result (λ k. test k ≡ true) (λ k. test k ≡ false) c.find.ensures.ran (λ x q k. search rules) (λ x q k. search rules))
