use Rattle.rules.proofs.Numbers.{gives, target_means}
use Rattle.rules.proofs.kinds.target_rule.Goals as goal

pub returns : goal.returns
returns c = gives _ _ _ c.then_some.ensures c.rests_on_target.ensures (target_means c.args.program.now.ready c.args.i c.requires c.target.ensures c.kind_taken.ensures)
