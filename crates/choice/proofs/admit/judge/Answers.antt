use mathlib.Core.Path.{◌∙◌}
use native.Mathlib.Omega.{arith}
use Rattle.choice.specs.Call.{best_call}
use Rattle.choice.proofs.Calls.{sizes_decide}
use Rattle.choice.proofs.admit.judge.Goals as goal

pub returns : goal.returns
returns c =
    let p = c.args.program.now in
    c.judge_room.ensures ∙ sizes_decide (best_call p.table.now c.args.verdicts c.args.buffer) p.ready.accepted_is p.of.nodes p.nodes_are c.if-verdicts-nodes.false c.entries.result (omega (arith, c.entries.ensures, p.functions_are, p.nodes_are))
