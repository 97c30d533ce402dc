use Rattle.rules.proofs.Numbers.{total_edge_means}
use Rattle.rules.proofs.kinds.total_edge_rule.Goals as goal

pub returns : goal.returns
returns c = total_edge_means c.args.program.now.ready c.frame_size.result c.edge_from-p.ensures c.edge_to-n.ensures c.owner-f.ensures c.from.ensures c.frame_size.ensures c.number.ensures
