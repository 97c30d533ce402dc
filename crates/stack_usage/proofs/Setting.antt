-- The counts in the frames of a table.
use Prim.Native.Nat.{ℕ, ◌*◌, ◌≤◌}
use mathlib.Core.Path.{◌≡◌, ◌∙◌}
use mathlib.Core.List.{List}
use native.Mathlib.Omega.{arith}
use lib.ListN.{get_or, length, take}
use Rattle.std.proofs.lemmas.List.{get_or-take, length-take-le}
use Rattle.table.specs.Record.{functions}
use Rattle.table.proofs.Below.{functions_fit}
use Rattle.frame_writer.specs.Frames.{FramesSet, WithFrames}
use Rattle.frame_writer.proofs.Laws.{set_accepted}
use Rattle.stack_usage.specs.declared.counts.Counted.{Counted}
use Rattle.stack_usage.specs.Call.{FramesCall, counted}
use Rattle.stack_usage.specs.Counted.{CountedFor}

module _ (x : FramesCall) (found : Counted) (c : CountedFor x found) where
  pub as_many : length (take found.functions found.counts) ≡ found.functions
  as_many = length-take-le found.functions found.counts (omega (arith, c.few, c.long))

  pub fits : length (take found.functions found.counts) * 8 ≤ length x.table
  fits = omega (arith, as_many, c.functions_are, functions_fit x.table)

  pub set_leaves : {new : List ℕ} → FramesSet x.table (length (take found.functions found.counts)) (λ f. get_or (take found.functions found.counts) f 0) new → WithFrames x.table (counted x.names x.report) new
  set_leaves {new} s =
      let n : length (take found.functions found.counts) ≡ functions x.table = as_many ∙ c.functions_are in
      let given : FramesSet x.table (functions x.table) (λ f. get_or (take found.functions found.counts) f 0) new = rw n at s in
      set_accepted x.table (counted x.names x.report) c.accepted_is
      record {
        long = given.long;
        frame_is = λ f h. given.frame_is f h ∙ get_or-take found.functions found.counts f 0 (omega (arith, h, c.functions_are)) ∙ c.count_is f h;
        others = given.others;
      }
