use Prim.Native.Nat.{ℕ}
use mathlib.Core.Path.{◌≡◌}
use mathlib.Core.Bool.{Bool, true, false}
use borrow.Author.Rules.{rules}
use Rattle.std.proofs.lemmas.Iterator.{first_from_Range}
use Rattle.table.specs.Record.{records}
use Rattle.table.specs.Scan.{sought}
use Rattle.table.proofs.Below.{earliest_by}
use Rattle.table.proofs.checks.Counted.first.Goals as goal

pub returns : goal.returns
returns c =
    let test : ℕ → Bool = sought c.args.cause c.args.self.now.t.now in
    earliest_by test (records c.args.self.now.t.now) c.find.result
    (first_from_Range _ _ _ c.find.result (λ k. test k ≡ true) (λ k. test k ≡ false) c.find.ensures.ran (λ x q k. search rules) (λ x q k. search rules))
