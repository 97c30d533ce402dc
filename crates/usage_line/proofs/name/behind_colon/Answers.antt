use Rattle.std.proofs.Common.{sym}
use Rattle.usage_line.proofs.Parts.{behind_last_none, behind_last_some}
use Rattle.usage_line.proofs.name.behind_colon.Goals as goal

pub returns-in-Some-clause-is : goal.returns-in-Some-clause-is
returns-in-Some-clause-is c = sym (behind_last_some _ _ c.requires _ c.in-Some.ensures)

pub returns-in-None-clause-is : goal.returns-in-None-clause-is
returns-in-None-clause-is c = sym (behind_last_none _ _ c.requires c.in-None.ensures)
