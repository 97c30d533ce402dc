use Rattle.rules.proofs.Numbers.{total_node_means}
use Rattle.rules.proofs.kinds.total_node_rule.Goals as goal

pub returns : goal.returns
returns c = total_node_means c.args.program.now.ready c.args.n c.frame_size.result c.requires c.owner-f.ensures c.from.ensures c.frame_size.ensures
