-- The invariant: the words below i have the bits of both.
use mathlib.Core.Path.{◌≡◌}
use lib.ListN.{length}
use Rattle.sync.proofs.Members.{Joined}
use Rattle.sync.proofs.words.union.Given as goal

abbrev pub invariant-loop-i : goal.invariant-loop-i
invariant-loop-i l = (length l.set ≡ 8) × Joined l.fn.x l.y l.i l.set
