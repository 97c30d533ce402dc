use Rattle.table.proofs.Ready.{entry_given}
use Rattle.program.proofs.Program.is_entry.Goals as goal

pub returns : goal.returns
returns c = entry_given _ _ c.args.self.now.ready _ _ c.requires c.sort.ensures
