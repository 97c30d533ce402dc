use mathlib.Core.Path.{sym}
use Rattle.stack_usage.specs.Call.{frames_call}
use Rattle.stack_usage.proofs.Setting.{as_many, fits, set_leaves}
use Rattle.stack_usage.proofs.frames.Goals as goal

pub slice_bounds-write_frames-end : goal.slice_bounds-write_frames-end
slice_bounds-write_frames-end c = sym (as_many _ c.in_ok-counted.counted c.in_ok-counted.ensures.counted)

pub write_frames-requires : goal.write_frames-requires
write_frames-requires c = fits _ c.in_ok-counted.counted c.in_ok-counted.ensures.counted

pub returns-clause-leaves : goal.returns-clause-leaves
returns-clause-leaves c =
    set_leaves (frames_call c.args.t.now c.args.names.now c.args.report.now) c.in_ok-counted.counted c.in_ok-counted.ensures.counted c.write_frames.ensures
