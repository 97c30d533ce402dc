use Prim.Native.Nat.{ℕ}
use borrow.Author.Rules.{rules}
use Rattle.std.proofs.lemmas.Iterator.{first_from_Range}
use Rattle.call_order.specs.Rows.{Due}
use Rattle.call_order.proofs.Placing.{lowest_by}
use Rattle.call_order.proofs.order.next.Goals as goal

pub returns : goal.returns
returns c =
    let due = λ (f : ℕ). Due c.args.waits.now c.args.placed f in
    lowest_by due c.args.functions c.find.result
    (first_from_Range _ _ _ c.find.result due (λ f. due f → ⊥) c.find.ensures.ran (λ x q k. search rules) (λ x q k. search rules))
