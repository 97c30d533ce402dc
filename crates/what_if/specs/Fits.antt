-- What a list that is not refused has. Helps proofs only.
use Rattle.std.specs.Prelude.{ℕ, ◌*◌, ◌≤◌, ◌≡◌, List, length}
use Rattle.what_if.specs.Call.{nodes_of, entries_of}

-- No more choices than there are bits, a byte for each node of each, and room for a set of sizes of each.
pub record Fits (t choices : List ℕ) (number : ℕ) (numbers : List ℕ) : Type 0 where
  pub few : number ≤ 16
  pub bytes : length choices ≡ nodes_of t * number
  pub room : entries_of t * number ≤ length numbers
