-- The lines of a program with a choice and its sizes. Helps proofs only.
use Rattle.std.specs.Prelude.{ℕ, ◌+◌, ◌*◌, List, [], ◌∷◌}
use Rattle.table.specs.Program.{program_of}
use Rattle.size.specs.Numbers.{at}
use Rattle.text.specs.Listing.{of_function_text, of_node_text, listing}
use Rattle.text.specs.declared.chosen.Chosen.{Chosen}

-- of function f, and of node n
unfoldable pub function_text : Chosen → ℕ → List ℕ
function_text c = of_function_text (program_of c.program.table.now) (at c.sizes.now)

unfoldable pub node_text : Chosen → ℕ → List ℕ
node_text c = of_node_text (program_of c.program.table.now) (at c.verdicts.now) (at c.sizes.now)

-- and of all
unfoldable pub text_of : Chosen → List ℕ
text_of c = listing (program_of c.program.table.now) (at c.verdicts.now) (at c.sizes.now)

-- the four sizes at a place: functions stand first, then nodes
abbrev pub four_at : Chosen → ℕ → List ℕ
four_at c p = let s = at c.sizes.now in s (4 * p) ∷ s (4 * p + 1) ∷ s (4 * p + 2) ∷ s (4 * p + 3) ∷ []
