-- The lines of a listing, one after another.
use Prim.Native.Nat.{ℕ, ◌+◌}
use mathlib.Core.Path.{◌≡◌, refl}
use mathlib.Core.Bool.{cond}
use mathlib.Core.List.{List, [], ◌++◌}
use lib.Dec.{eqb}
use native.Mathlib.Nat.{add-zero}
use native.Mathlib.Numerals.{add-one}
use Rattle.std.proofs.lemmas.Grind.{common_steps}
use Rattle.size.specs.Numbers.{at}
use Rattle.table.specs.Record.{spawn}
use Rattle.table.specs.Program.{program_of}
use Rattle.text.specs.Listing.{four_fields, function_line, spawn_line, joined, listing}
use Rattle.text.specs.Chosen.{four_at, function_text, node_text, text_of}
use Rattle.text.specs.declared.chosen.Chosen.{Chosen}

pub joined_none : (text : ℕ → List ℕ) → joined text 0 ≡ []
unfolding joined
joined_none text = refl

pub joined_more : (text : ℕ → List ℕ) (n : ℕ) → joined text (n + 1) ≡ joined text n ++ text n
unfolding joined
joined_more text n = rw add-one refl

-- a line shows the four sizes that stand at its place
pub function_is : (c : Chosen) (f : ℕ) → function_text c f ≡ function_line (at (four_at c f)) f
unfolding function_text function_line four_fields
function_is c f = simp add-zero

pub node_is : (c : Chosen) (n : ℕ) → node_text c n ≡ cond (eqb ((program_of c.program.table.now).sort n) spawn) (spawn_line (at c.verdicts.now n) (at (four_at c ((program_of c.program.table.now).functions + n))) n) []
unfolding node_text spawn_line four_fields
node_is c n = simp add-zero

pub text_is : (c : Chosen) → text_of c ≡ joined (function_text c) c.program.of.functions ++ joined (node_text c) c.program.of.nodes
unfolding text_of listing function_text node_text
text_is c = rw (c.program.functions_are, c.program.nodes_are) refl

-- for the loops over functions and nodes
pub ruleset rows = (common_steps, joined_none, joined_more, function_is, node_is, text_is)
