-- How much larger a set may grow. Helps proofs only.
use Rattle.std.specs.Prelude.{ℕ, List, not}
use Rattle.table.specs.Below.{count}
use Rattle.sync.specs.Words.{member}

-- how many numbers below 512 are not in the set
unfoldable pub room : List ℕ → ℕ
room words = count (λ n. not (member words n)) 512
