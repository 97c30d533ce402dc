use Rattle.rules.proofs.Numbers.{gives, end_means}
use Rattle.rules.proofs.kinds.end_rule.Goals as goal

pub returns : goal.returns
returns c =
    gives _ _ _ c.then_some.ensures c.ends_at.ensures
    (end_means c.args.known.now.program.ready c.args.sum c.args.f c.due.result c.requires c.kind.ensures c.from.ensures c.due.ensures c.ending.ensures c.number.ensures)
