use Rattle.listed.proofs.room.with_widest.Goals as goal

pub with_rules-requires-clause-takes : goal.with_rules-requires-clause-takes
with_rules-requires-clause-takes g c = c.requires

pub returns : goal.returns
returns g c = c.with_rules.ensures
