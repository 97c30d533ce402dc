-- One line taken off a file. This helps proofs only.
use Rattle.std.specs.Prelude.{ℕ, ◌<◌, ◌≡◌, Bool, List, ◌∷◌, length}
use Rattle.usage_line.specs.Bytes.{line_feed, ends_in}
use Rattle.usage_line.specs.Lines.{pieces, body}

-- the first piece, whether it ends in its line feed, what stands before that, and the rest of the file
abbrev pub IsCut : List ℕ → List ℕ → Bool → List ℕ → Type 0
IsCut file line ended behind =
    (piece : List ℕ)
    × (pieces file ≡ piece ∷ pieces behind)
    × (ended ≡ ends_in line_feed piece)
    × (line ≡ body piece)
    × (length behind < length file)
