use Rattle.table.proofs.Ready.{target_given}
use Rattle.program.proofs.Program.target.Goals as goal

pub returns : goal.returns
returns c = target_given _ _ c.args.self.now.ready _ _ c.requires c.field_b.ensures.0
