-- Document 01, "Synchronising nodes", of one word: "one bit for each node, in 64-bit words", "lowest first".
use Rattle.std.specs.Prelude.{ℕ, ◌/◌, ◌%◌, ◌^◌, Bool, eqb}

-- bit k of x, lowest first
unfoldable pub bit : ℕ → ℕ → Bool
bit x k = eqb (x / 2 ^ k % 2) 1
