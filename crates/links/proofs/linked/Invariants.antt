-- The invariant: the items below i are linked, in arrays as long as they were.
use Prim.Native.Nat.{ℕ}
use mathlib.Core.Path.{◌≡◌}
use mathlib.Core.Bool.{Bool}
use lib.ListN.{length}
use Rattle.links.specs.Links.{Keyed, Linked}
use Rattle.links.proofs.linked.Given as goal

abbrev pub invariant-loop-i : goal.invariant-loop-i
invariant-loop-i g l = (length l.first ≡ g.row.K) × (length l.next ≡ g.row.N) × ((has : ℕ → ℕ → Bool) → Keyed (goal.F-post g l.key) has l.items → Linked has l.i l.first l.next)
