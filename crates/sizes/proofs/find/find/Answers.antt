use Prim.Native.Nat.{ℕ}
use mathlib.Core.Path.{refl}
use mathlib.Core.List.{[]}
use native.Mathlib.Omega.{arith}
use Rattle.solver.specs.Values.{number_at, Settles}
use Rattle.size.specs.Numbers.{at}
use Rattle.sizes.proofs.Trying.{zeros_derived}
use Rattle.sizes.proofs.Closing.{found_from}
use Rattle.sizes.proofs.find.find.Goals as goal

pub returns : goal.returns
returns c =
    let given = c.with_rules.ensures in
    let settled : Settles given.value.now (number_at given.shown.now) given.left.now = given.called in
    found_from [] c.requires given.fit (omega arith) (zeros_derived c.args.known.now (at c.args.choice.now) (at []) (λ (x : ℕ). refl)) c.starting-found.ensures (rw (given.shows, given.leaves) at settled)
