use mathlib.Core.Path.{◌≡◌, ap, ◌∙◌}
use native.Mathlib.Omega.{arith}
use Prim.Native.Nat.{ℕ, ◌+◌, ◌*◌}
use Rattle.program.specs.declared.Program.{Program}
use Rattle.what_if.specs.Call.{list_call, nodes_of, entries_of, wrong_number}
use Rattle.what_if.proofs.Calls.{number_refused, length_refused, byte_refused, sizes_decide}
use Rattle.what_if.proofs.admit.judge.Goals as goal

-- so many choices have so many bytes, and their sizes so many numbers
bytes : (p : Program) (number : ℕ) → p.of.nodes * number ≡ nodes_of p.table.now * number
bytes p number = ap (λ (n : ℕ). n * number) p.nodes_are

numbers : (p : Program) (number : ℕ) {entries : ℕ} → entries ≡ 4 * (p.of.functions + p.of.nodes) → entries * number ≡ entries_of p.table.now * number
numbers p number e = ap (λ (n : ℕ). n * number) (omega (arith, e, p.functions_are, p.nodes_are))

pub returns-then-wrong : goal.returns-then-wrong
unfolding wrong_number
returns-then-wrong c =
    let a = c.args in
    let p = a.program.now in
    number_refused (list_call p.table.now a.number a.choices.now a.buffer) p.ready.accepted_is c.if-wrong.true

pub returns-then-choices-wanted : goal.returns-then-choices-wanted
unfolding wrong_number
returns-then-choices-wanted c =
    let a = c.args in
    let p = a.program.now in
    length_refused (list_call p.table.now a.number a.choices.now a.buffer) p.ready.accepted_is c.if-wrong.false _ (bytes p a.number) c.if-choices-wanted.true

pub returns-in-Some : goal.returns-in-Some
unfolding wrong_number
returns-in-Some c =
    let a = c.args in
    let p = a.program.now in
    byte_refused (list_call p.table.now a.number a.choices.now a.buffer) p.ready.accepted_is c.if-wrong.false (c.if-choices-wanted.false ∙ bytes p a.number) c.first_outside.ensures c.in-Some.place c.in-Some.is

pub returns : goal.returns
unfolding wrong_number
returns c =
    let a = c.args in
    let p = a.program.now in
    c.judge_room.ensures ∙ sizes_decide (list_call p.table.now a.number a.choices.now a.buffer) p.ready.accepted_is c.if-wrong.false (c.if-choices-wanted.false ∙ bytes p a.number) c.first_outside.ensures c.in_default.is _ (numbers p a.number c.entries.ensures)
