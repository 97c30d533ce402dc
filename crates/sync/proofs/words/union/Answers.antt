use Prim.Native.Nat.{ℕ}
use mathlib.Core.Path.{subst, ◌∙◌}
use native.Mathlib.Omega.{arith}
use Rattle.std.proofs.lemmas.List.{length-set}
use Rattle.sync.proofs.Members.{Joined, joined_none, joined_more, member_union}
use Rattle.sync.proofs.words.union.Goals as goal

pub loop-i-init : goal.loop-i-init
loop-i-init c = (omega arith, joined_none c.args.x c.args.y)

pub loop-i-preserved : goal.loop-i-preserved
loop-i-preserved c =
    let i = c.loop-i.invariant in
    (length-set _ _ _ ∙ i.0, joined_more _ _ c.loop-i.i _ _ (omega (arith, i.0)) i.1 c.union.ensures)

pub returns : goal.returns
returns c =
    let i = c.loop-i.invariant in
    member_union _ _ (omega arith) (omega arith) _ i.0 (subst (λ (k : ℕ). Joined c.args.x c.args.y k c.loop-i.set) (omega arith) i.1)
