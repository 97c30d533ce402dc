-- The invariant: the nodes before place `left` are left.
use Prim.Native.Nat.{◌-◌}
use Rattle.table.specs.Program.{program_of}
use Rattle.sync.specs.Words.{member}
use Rattle.sync.proofs.Leaving.{Left}
use Rattle.sync.proofs.ways.Ways.reach.Given as goal

abbrev pub invariant-loop-left : goal.invariant-loop-left
invariant-loop-left l = Left (program_of l.self.program.table.now) (member l.avoid) l.a l.left l.found

abbrev pub decreases-loop-left : goal.decreases-loop-left
decreases-loop-left l = 512 - l.left
