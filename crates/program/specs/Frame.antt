-- What the frame of a function counts as, wherever a rule of document 01 or the preference order speaks of one: "its bytes rounded up to a
-- multiple of 16", as a size. (Document 02, Ask 6.)
use Rattle.std.specs.Prelude.{ℕ}
use Rattle.table.specs.Program.{Program}
use Rattle.size.specs.Size.{cap, aligned}

unfoldable pub frame_of : Program → ℕ → ℕ
frame_of g f = cap (aligned (g.frame f))
