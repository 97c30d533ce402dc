use mathlib.Core.Path.{◌∙◌}
use native.Mathlib.Omega.{arith}
use Rattle.sizes.specs.Call.{call}
use Rattle.sizes.proofs.Calls.{length_refused, byte_refused, sizes_decide}
use Rattle.sizes.proofs.admit.judge.Goals as goal

pub returns-then-choice-nodes : goal.returns-then-choice-nodes
returns-then-choice-nodes c =
    let a = c.args in
    let p = a.program.now in
    length_refused (call p.table.now a.choice.now a.buffer) p.ready.accepted_is p.of.nodes p.nodes_are c.if-choice-nodes.true

pub returns-in-Some : goal.returns-in-Some
returns-in-Some c =
    let a = c.args in
    let p = a.program.now in
    let e = p.nodes_are in
    byte_refused (call p.table.now a.choice.now a.buffer) p.ready.accepted_is (c.if-choice-nodes.false ∙ e) (rw e at c.first_outside.ensures) c.in-Some.place c.in-Some.is

pub returns : goal.returns
returns c =
    let a = c.args in
    let p = a.program.now in
    let e = p.nodes_are in
    c.judge_room.ensures ∙ sizes_decide (call p.table.now a.choice.now a.buffer) p.ready.accepted_is (c.if-choice-nodes.false ∙ e) (rw e at c.first_outside.ensures) c.in_default.is c.entries.result (omega (arith, c.entries.ensures, p.functions_are))
