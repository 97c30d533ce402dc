-- Entries of the finite system by number, as words name them: sizes, and then the three sums of each node. Helps proofs only.
use Rattle.std.specs.Prelude.{ℕ, ◌-◌, cond, ltb}
use Rattle.rules.specs.System.{Entry, size, along}
use Rattle.rules.specs.declared.sums.Sum.{Sum}
use Rattle.rules.specs.declared.sums.Sum.TheVariants.{After, Before, Through}

abbrev pub offset : Sum → ℕ
offset After = 2304
offset Before = 2816
offset Through = 3328

unfoldable pub entry_at : ℕ → Entry
entry_at x = cond (ltb x 2304) (size x) (cond (ltb x 2816) (along After (x - 2304)) (cond (ltb x 3328) (along Before (x - 2816)) (along Through (x - 3328))))
