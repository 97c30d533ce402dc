-- The invariant: the set has the syncs below n.
use Prim.Native.Nat.{ℕ}
use mathlib.Core.Path.{◌≡◌}
use mathlib.Core.Bool.{◌&&◌}
use lib.Dec.{eqb, ltb}
use Rattle.table.specs.Record.{sync}
use Rattle.table.specs.Program.{program_of}
use Rattle.sync.specs.Words.{member}
use Rattle.sync.proofs.collect.syncs.Given as goal

abbrev pub invariant-loop-n : goal.invariant-loop-n
invariant-loop-n l = (m : ℕ) → member l.set m ≡ (ltb m l.n && eqb ((program_of l.program.table.now).sort m) sync)
