-- The verdict that each case of the code's `Verdict` stands for.
use Rattle.std.specs.Prelude.{ℕ}
use Rattle.rules.specs.Choice.{unmerged, guarded, unguarded}
use Rattle.search.specs.declared.verdict.Verdict.{Verdict}
use Rattle.search.specs.declared.verdict.Verdict.TheVariants.{Unmerged, Guarded, Unguarded}

abbrev pub level : Verdict → ℕ
level Unmerged = unmerged
level Guarded = guarded
level Unguarded = unguarded
