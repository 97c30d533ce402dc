use Prim.Native.Nat.{ℕ}
use mathlib.Core.Path.{ap, ◌∙◌}
use native.Mathlib.Omega.{arith}
use Rattle.table.proofs.Ready.{frame_given}
use Rattle.size.specs.Size.{cap, aligned}
use Rattle.size.proofs.Values.{value_le, value_is}
use Rattle.program.specs.Frame.{frame_of}
use Rattle.program.proofs.Program.frame.Goals as goal

pub returns : goal.returns
unfolding frame_of
returns c =
    let given = c.from-bytes.ensures ∙ frame_given _ _ c.args.self.now.ready _ _ c.requires c.field_c.ensures in
    let value = value_is c.from_frame.result _ c.from_frame.ensures in
    (c.from.ensures ∙ value ∙ ap (λ (bytes : ℕ). cap (aligned bytes)) given, omega (arith, c.from.ensures, value_le c.from_frame.result))
