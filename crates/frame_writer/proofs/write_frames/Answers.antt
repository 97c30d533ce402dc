use Prim.Native.Nat.{ℕ}
use mathlib.Core.Path.{refl}
use native.Mathlib.Omega.{arith}
use lib.ListN.{get_or}
use Rattle.frame_writer.proofs.Setting.{frames_none, frames_next, frames_last}
use Rattle.frame_writer.proofs.write_frames.Goals as goal

pub loop-f-init : goal.loop-f-init
loop-f-init c = frames_none _ _

pub loop-f-preserved : goal.loop-f-preserved
loop-f-preserved c =
    let L = c.loop-f in
    let frame = λ (f : ℕ). get_or c.args.frames.now f 0 in
    rw c.write_frame.ensures (frames_next frame L.f (frame L.f) L.invariant (omega (arith, c.requires)) refl)

pub returns : goal.returns
returns c = frames_last _ c.loop-f.invariant (omega arith)
