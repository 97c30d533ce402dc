use mathlib.Core.Path.{ap₂, ◌∙◌}
use Rattle.sync.specs.Words.{member}
use Rattle.rules.specs.System.{steps}
use Rattle.rules.proofs.Numbers.{gives, step_means}
use Rattle.rules.proofs.kinds.step_rule.Goals as goal

pub returns : goal.returns
returns c =
    let a = c.args in
    let k = a.known.now in
    let p = c.edge_from-p.ensures in
    let n = c.edge_to-n.ensures in
    gives _ _ _ c.then_some.ensures (c.steps_on.ensures ∙ ap₂ (steps (member k.synchronising) (member k.reached) a.sum) p.0 n.0)
    (step_means k.program.ready a.sum p n c.ends-from.ensures c.number.ensures c.number-2.ensures)
