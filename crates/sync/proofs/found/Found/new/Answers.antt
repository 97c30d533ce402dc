use native.Mathlib.Omega.{arith}
use lib.ListN.{replicate}
use Rattle.word.proofs.Words.{member_empty}
use Rattle.sync.proofs.Rooms.{room_fits}
use Rattle.sync.proofs.found.Found.new.Goals as goal

pub invariant_of-result : goal.invariant_of-result
invariant_of-result c = record { few = rw c.new.ensures (omega (arith, room_fits (replicate 8 0))) }

pub returns-clause-set : goal.returns-clause-set
returns-clause-set c = member_empty 8
