use Prim.Native.Nat.{ℕ}
use mathlib.Core.Path.{◌≡◌}
use mathlib.Core.Bool.{◌&&◌, ◌||◌}
use native.Mathlib.Omega.{arith}
use borrow.Author.Rules.{rules}
use Rattle.std.specs.Prelude.{get_or}
use Rattle.word.specs.Bit.{bit}
use Rattle.call_order.proofs.Rows.{through_each}
use Rattle.table.proofs.Mapping.{mapped_each}
use Rattle.call_order.proofs.reach.join_through.Goals as goal

pub returns : goal.returns
returns c =
    through_each c.args.k c.args.rows.now c.map.result (omega arith) c.map.ensures.items.long
    (mapped_each _ (λ x y. (h : ℕ) → bit y h ≡ (bit x h || (bit x c.args.k && bit (get_or c.args.rows.now c.args.k 0) h))) _ (λ x y q k. search rules) _ _ 64 c.map.ensures.items)
