use Rattle.std.proofs.Common.{◌∙◌}
use Rattle.usage_line.proofs.Parts.{name_end_by}
use Rattle.usage_line.proofs.name.first_tab.Goals as goal

pub returns-clause-is : goal.returns-clause-is
returns-clause-is c = c.unwrap_or.ensures ∙ name_end_by _ _ c.memchr.ensures
