use Rattle.table.proofs.Ready.{owner_given}
use Rattle.program.proofs.Program.owner.Goals as goal

pub returns : goal.returns
returns c = owner_given _ _ c.args.self.now.ready _ _ c.requires c.field_a.ensures.0
