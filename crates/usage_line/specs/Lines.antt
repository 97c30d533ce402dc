-- The lines of a file. "Every line of both files ends in a line feed."
use Rattle.std.specs.Prelude.{ℕ, ◌-◌, Bool, cond, ◌&&◌, eqb, List, [], ◌∷◌, length, take, get_or}
use Rattle.usage_line.specs.Bytes.{line_feed, ends_in}

-- a byte before the first of some pieces
abbrev pub before_first : ℕ → List (List ℕ) → List (List ℕ)
before_first b [] = (b ∷ []) ∷ []
before_first b (piece ∷ pieces) = (b ∷ piece) ∷ pieces

-- a file in pieces: each ends with the first line feed in it, and behind the last line feed stands a piece without one, if any byte stands there
unfoldable pub pieces : List ℕ → List (List ℕ)
pieces [] = []
pieces (b ∷ bytes) = cond (eqb b line_feed) ((b ∷ []) ∷ pieces bytes) (before_first b (pieces bytes))

-- how many lines there are: that last piece is one too, though of no form
abbrev pub lines : List ℕ → ℕ
lines file = length (pieces file)

-- line k, with its line feed, and no bytes where there is no such line
abbrev pub piece_at : List ℕ → ℕ → List ℕ
piece_at file k = get_or (pieces file) k []

-- a line "taken without its line feed", if it ends in one
abbrev pub body : List ℕ → List ℕ
body piece = cond (ends_in line_feed piece) (take (length piece - 1) piece) piece

-- line k of a file without its line feed
abbrev pub line : List ℕ → ℕ → List ℕ
line file k = body (piece_at file k)

-- a piece ends in a line feed, and what stands before that is of the form given
abbrev pub is_line : (List ℕ → Bool) → List ℕ → Bool
is_line form piece = ends_in line_feed piece && form (body piece)
