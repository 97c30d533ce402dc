use native.Mathlib.Omega.{arith}
use mathlib.Core.Path.{◌∙◌, refl}
use mathlib.Core.Logic.{⊎_elim}
use borrow.Author.Tests.{lt-ltb, le-ltb}
use Rattle.std.proofs.lemmas.Bool.{cases_lt}
use Rattle.table.proofs.Laws.{nodes_read, sort_past}
use Rattle.word.proofs.Words.{member_empty}
use Rattle.sync.proofs.collect.syncs.Goals as goal

pub loop-n-init : goal.loop-n-init
loop-n-init c = λ m. member_empty 8 m ∙ rw (le-ltb m 0 (omega arith)) refl

pub returns : goal.returns
returns c = λ n.
    let p = c.args.program.now in
    c.loop-n.invariant n
    ∙ ⊎_elim
    (λ h. rw (lt-ltb n c.loop-n.n h) refl)
    (λ h. rw (le-ltb n c.loop-n.n h, sort_past p.table.now n (omega (arith, h, p.nodes_are, nodes_read p.table.now))) refl)
    (cases_lt n c.loop-n.n)
