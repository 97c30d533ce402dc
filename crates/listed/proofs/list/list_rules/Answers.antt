use Rattle.std.proofs.Common.{arith}
use Rattle.listed.proofs.Listing.{all_listed}
use Rattle.listed.proofs.list.list_rules.Goals as goal

pub returns : goal.returns
returns g c = record { few = omega (arith, c.list_all.ensures.few); lists = all_listed _ c.order_all-orders.ensures c.list_all.ensures.listed }
