use Rattle.table.proofs.Ready.{exit_given}
use Rattle.program.proofs.Program.exit.Goals as goal

pub returns : goal.returns
returns c = exit_given _ _ c.args.self.now.ready _ _ c.requires c.field_b.ensures.0
