use Rattle.table.proofs.Ready.{first_given}
use Rattle.program.proofs.Program.first.Goals as goal

pub returns : goal.returns
returns c = first_given _ _ c.args.self.now.ready _ _ c.requires c.field_a.ensures.0
