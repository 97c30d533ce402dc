-- What a walk starts from.
use Rattle.std.proofs.Common.{◌≡◌, ℕ, ◌<◌, ◌≤◌, arith}
use native.Mathlib.Decide.{ℕ_discrete}
use Rattle.table.specs.Record.{spawn}
use Rattle.table.specs.Program.{Program}
use Rattle.search.specs.Walk.{Unmerged}

pub nothing_merged : (g : Program) (c : ℕ → ℕ) → Unmerged g c → (n : ℕ) → n < g.nodes → c n ≤ 1
nothing_merged g c u n h = go (ℕ_discrete (g.sort n) spawn)
  where
    go : Dec (g.sort n ≡ spawn) → c n ≤ 1
    go (yes e) = omega (arith, u.spawns n (record { exists = h; spawns = e }))
    go (no e) = omega (arith, u.others n h e)
