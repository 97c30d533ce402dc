use Prim.Native.Nat.{ℕ}
use native.Mathlib.Omega.{arith}
use mathlib.Core.Path.{refl, subst}
use Rattle.call_order.specs.CallOrder.{places}
use Rattle.table.specs.Program.{program_of}
use Rattle.sync.specs.Passing.{PassedBy}
use Rattle.word.proofs.Words.{member_empty}
use Rattle.sync.proofs.Passing.{passed_none, passed_more}
use Rattle.sync.proofs.Closing.{part_syncs, settled_first}
use Rattle.sync.proofs.ways.Ways.pass.Goals as goal

pub loop-i-init : goal.loop-i-init
loop-i-init c = passed_none _ _ _ _ refl (member_empty 8)

pub loop-i-preserved : goal.loop-i-preserved
loop-i-preserved c = passed_more _ _ _ _ _ _ c.loop-i.invariant (rw c.from.ensures at c.look-pass.ensures)

-- all are looked at
all : (c : goal.After-loop-i) → PassedBy (program_of c.args.self.now.program.table.now) (places c.args.order.now) c.args.from (program_of c.args.self.now.program.table.now).functions c.loop-i.pass
all c = subst (λ (k : ℕ). PassedBy (program_of c.args.self.now.program.table.now) (places c.args.order.now) c.args.from k c.loop-i.pass) (omega (arith, c.args.self.now.program.functions_are)) c.loop-i.invariant

pub returns-clause-passed : goal.returns-clause-passed
returns-clause-passed c = all c

pub returns-clause-whole : goal.returns-clause-whole
returns-clause-whole c = λ none start.
    let ok = c.args.self.now.program.ready.accepted_is in
    settled_first _ ok _ c.requires _ _ (part_syncs _ _ start) (all c).looks none start
