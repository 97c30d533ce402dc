use native.Mathlib.Omega.{arith}
use Rattle.sync.proofs.Rooms.{room_falls}
use Rattle.sync.proofs.found.Found.add.Goals as goal

pub push-requires : goal.push-requires
push-requires c =
    let falls = room_falls _ _ _ c.requires.small c.requires.fresh c.insert.ensures in
    (omega arith, omega (arith, falls, c.args.self.now.few))

pub invariant_of-self : goal.invariant_of-self
invariant_of-self c =
    let falls = room_falls _ _ _ c.requires.small c.requires.fresh c.insert.ensures in
    record { few = omega (arith, falls, c.args.self.now.few, c.push.ensures.len) }
