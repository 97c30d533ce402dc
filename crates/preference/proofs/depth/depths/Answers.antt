use mathlib.Core.Path.{◌≡◌}
use native.Mathlib.Omega.{arith}
use borrow.Author.Rules.{rules}
use Rattle.std.specs.Prelude.{None}
use Rattle.std.specs.Option.{unwrap_or}
use Rattle.table.proofs.Ready.{functions_are}
use Rattle.size.specs.Numbers.{at}
use Rattle.preference.specs.Levels.{found_in}
use Rattle.preference.proofs.Levels.{depth_known}
use Rattle.preference.proofs.depth.depths.Goals as goal

pub returns : goal.returns
returns c =
    let p = c.args.program.now in
    record {
      depth_of = λ f h.
          let m = c.map.ensures.items.at f None 0 (omega (arith, functions_are _ _ p.ready, p.few_functions)) in
          let e : at c.map.result f ≡ unwrap_or (found_in c.sound.result f) 0 = search rules in
          rw e (depth_known _ f (found_in c.sound.result) c.sound.ensures h);
    }
