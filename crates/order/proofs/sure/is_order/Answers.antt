use Rattle.std.proofs.Common.{length, arith, rules}
use Rattle.std.proofs.lemmas.Iterator.{cases_from_all, YieldsList-from_range}
use Rattle.order.specs.Order.{Placed}
use Rattle.order.proofs.Orders.{all_placed_ordered}
use Rattle.order.proofs.sure.is_order.Goals as goal

pub returns : goal.returns
returns c =
    let k = length c.args.order.now in
    let found = cases_from_all _ _ _ (Placed k c.args.order.now) (λ e. Unit {0}) c.all.ensures.ran (YieldsList-from_range 0 k k (search rules) (omega arith)) (λ x q h. search rules) (λ x q h. tt) in
    λ h. all_placed_ordered _ _ (rw h at found)
