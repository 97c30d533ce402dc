-- The frames of the functions passed so far are set.
use lib.ListN.{get_or}
use Rattle.frame_writer.specs.Frames.{FramesSet}
use Rattle.frame_writer.proofs.write_frames.Given as goal

abbrev pub invariant-loop-f : goal.invariant-loop-f
invariant-loop-f l = FramesSet l.initial.t l.f (λ f. get_or l.frames f 0) l.t
