use native.Mathlib.Omega.{arith}
use Rattle.table.proofs.Ready.{sort_given, sort_few}
use Rattle.program.proofs.Program.sort.Goals as goal

pub returns-in_default : goal.returns-in_default
returns-in_default c =
    let s = c.args.self.now in
    let e = sort_given _ _ s.ready _ _ c.requires c.sort.ensures in
    let few = sort_few _ _ s.ready _ c.requires in
    omega arith
