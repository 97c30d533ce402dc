use Rattle.sync.proofs.Offering.{offered_more, offered_none}
use Rattle.sync.proofs.found.Found.offer.Goals as goal

pub returns-then-has : goal.returns-then-has
returns-then-has c = offered_more _ _ _ _ c.add.ensures.nodes c.add.ensures.set (rw (c.has.ensures, c.has-2.ensures) at c.if-has.true)

pub returns-else-has : goal.returns-else-has
returns-else-has c = offered_none _ _ _ (rw (c.has.ensures, c.has-2.ensures) at c.if-has.false)
