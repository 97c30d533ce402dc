-- The rules of the finite system by kind and number, and as numbers, as the code gives them. Helps proofs only.
use Rattle.std.specs.Prelude.{ℕ, ◌*◌, ◌/◌, ◌%◌, ◌<◌, ◌≤◌, ◌≡◌, Bool, true, false, List, [], ◌∷◌, Option, None, Some}
use Rattle.table.specs.Record.{edge_from, edge_to}
use Rattle.table.specs.Program.{program_of}
use Rattle.table.specs.declared.Counts.{Counts}
use Rattle.sync.specs.Words.{member}
use Rattle.size.specs.Size.{unbounded}
use Rattle.size.specs.Numbers.{at}
use Rattle.solver.specs.Words.{size_count, entry_count}
use Rattle.rules.specs.System.{Entry, size, Form, starts, steps, ends, takes, start_form, step_form, end_form, total_node_form, total_edge_form, target_form}
use Rattle.rules.specs.Entries.{entry_at}
use Rattle.sync.specs.declared.Known.{Known}
use Rattle.solver.specs.declared.rule.Rule.{Rule}
use Rattle.rules.specs.declared.kinds.Kind.{Kind}
use Rattle.rules.specs.declared.kinds.Kind.TheVariants.{Target, Start, Step, End, TotalNode, TotalEdge}

-- The rules of a kind go by number: a rule for each size of a node, for each node, edge or function.
abbrev pub count_of : Counts → Kind → ℕ
count_of c Target = 4 * c.nodes
count_of c (Start s) = c.nodes
count_of c (Step s) = c.edges
count_of c (End s) = c.functions
count_of c TotalNode = c.nodes
count_of c TotalEdge = c.edges

-- Which of them there are,
abbrev pub on_at : List ℕ → Known → Kind → ℕ → Bool
on_at choice known Target i = takes (program_of known.program.table.now) (at choice) (i / 4) (i % 4)
on_at choice known (Start s) n = starts (program_of known.program.table.now) s n
on_at choice known (Step s) e = steps (member known.synchronising) (member known.reached) s (edge_from known.program.table.now e) (edge_to known.program.table.now e)
on_at choice known (End s) f = ends (program_of known.program.table.now) (member known.reached) s f
on_at choice known TotalNode n = true
on_at choice known TotalEdge e = true

-- and what they say.
abbrev pub form_at : List ℕ → Kind → ℕ → Form
form_at t Target i = target_form (program_of t) (i / 4) (i % 4)
form_at t (Start s) n = start_form (program_of t) s n
form_at t (Step s) e = step_form (program_of t) s (edge_from t e) (edge_to t e)
form_at t (End s) f = end_form (program_of t) s f
form_at t TotalNode n = total_node_form (program_of t) n
form_at t TotalEdge e = total_edge_form (program_of t) (edge_from t e) (edge_to t e)

-- the other entry of a rule's body, if there is one: a size
abbrev pub other_entries : Option ℕ → List Entry
other_entries None = []
other_entries (Some z) = size z ∷ []

-- Numbers that say what a rule says.
pub record Means (f : Form) (r : Rule) : Type 0 where
  pub head_low : r.head < entry_count
  pub part_low : r.part < entry_count
  pub other_low : (z : ℕ) → r.other ≡ Some z → z < size_count
  pub base_low : r.base ≤ unbounded
  pub head_is : f.head ≡ entry_at r.head
  pub base_is : f.base ≡ r.base
  pub body_is : f.body ≡ entry_at r.part ∷ other_entries r.other

-- The rule that says it, where it is there.
abbrev pub Gives : Bool → Form → Option Rule → Type 0
Gives on f None = on ≡ false
Gives on f (Some r) = (on ≡ true) × Means f r
