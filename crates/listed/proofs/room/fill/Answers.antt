use Rattle.listed.proofs.room.fill.Goals as goal

pub returns-in-Some : goal.returns-in-Some
returns-in-Some g c = rw c.in-Some.is c.in_force.ensures
