use Rattle.rules.proofs.Numbers.{gives, start_means}
use Rattle.rules.proofs.kinds.start_rule.Goals as goal

pub returns : goal.returns
returns c = gives _ _ _ c.then_some.ensures c.starts_at.ensures (start_means c.args.program.now.ready c.args.sum c.args.n c.requires c.number.ensures c.kind.ensures)
