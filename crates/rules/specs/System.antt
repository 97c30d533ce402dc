-- The rules as a finite system: sums along open paths are kept for each node, and each rule adds at most two entries up. Helps proofs only.
use Rattle.std.specs.Prelude.{ℕ, ◌+◌, ◌*◌, ◌<◌, ◌≤◌, ◌≡◌, [], ◌∷◌, Bool, true, cond, not, ◌&&◌, ◌||◌, eqb, leb}
use Rattle.table.specs.Record.{call, spawn}
use Rattle.table.specs.Program.{Program}
use Rattle.program.specs.Frame.{frame_of}
use Rattle.solver.specs.System.{Derives, Solves}
use Rattle.solver.specs.System.{Form as FormOf}
pub use Rattle.solver.specs.System.{sum_of, gives, none, rule}
use Rattle.rules.specs.Choice.{guarded, unguarded}
use Rattle.rules.specs.Rules.{total, post, pre, through}
use Rattle.rules.specs.declared.sums.Sum.{Sum}
use Rattle.rules.specs.declared.sums.Sum.TheVariants.{After, Before, Through}

-- A size, by its place in the written order, or a sum of a node, as the code's `Sum` describes it.
pub data Entry : Type 0 where
  size : ℕ → Entry
  along : Sum → ℕ → Entry

abbrev pub function_entry : ℕ → ℕ → Entry
function_entry k f = size (4 * f + k)

abbrev pub node_entry : Program → ℕ → ℕ → Entry
node_entry g k n = size (4 * (g.functions + n) + k)

abbrev pub Form : Type 0
Form = FormOf Entry

-- The kind of size that a sum starts from at a node, and of the size that it gives a function.
abbrev pub kind_for : Sum → ℕ
kind_for After = post
kind_for Before = pre
kind_for Through = through

-- It starts at node n:
abbrev pub starts : Program → Sum → ℕ → Bool
starts g After n = true
starts g Before n = true
starts g Through n = eqb n (g.first (g.owner n))

-- it runs along an edge from p to n, or against it,
abbrev pub from : Sum → ℕ → ℕ → ℕ
from After p n = p
from Before p n = n
from Through p n = p

abbrev pub to : Sum → ℕ → ℕ → ℕ
to After p n = n
to Before p n = p
to Through p n = n

-- where no member of the set is in the way,
abbrev pub steps : (ℕ → Bool) → (ℕ → Bool) → Sum → ℕ → ℕ → Bool
steps set reached After p n = not (set n)
steps set reached Before p n = not (set p)
steps set reached Through p n = not (set n) && reached p

-- and at one node of function f it is done, if it gets there; the frame may be due besides.
abbrev pub ending : Program → Sum → ℕ → ℕ
ending g After f = g.exit f
ending g Before f = g.first f
ending g Through f = g.exit f

abbrev pub ends : Program → (ℕ → Bool) → Sum → ℕ → Bool
ends g reached After f = true
ends g reached Before f = true
ends g reached Through f = reached (g.exit f)

abbrev pub due : Program → Sum → ℕ → ℕ
due g After f = 0
due g Before f = frame_of g f
due g Through f = 0

-- Whether size k of node n rests on its target, and on which of the target's sizes.
unfoldable pub takes : Program → (ℕ → ℕ) → ℕ → ℕ → Bool
takes g choice n k = eqb (g.sort n) call || (eqb (g.sort n) spawn && (leb unguarded (choice n) || (leb guarded (choice n) && leb k post)))

unfoldable pub taken : Program → ℕ → ℕ → ℕ
taken g n k = cond (eqb (g.sort n) call) k total

module _ (g : Program) (set reached : ℕ → Bool) (choice : ℕ → ℕ) where
  pub data Rule : Type 0 where
    start : (s : Sum) (n : ℕ) → n < g.nodes → starts g s n ≡ true → Rule
    step_on : (s : Sum) (p n : ℕ) → g.edge p n ≡ true → steps set reached s p n ≡ true → Rule
    end : (s : Sum) (f : ℕ) → f < g.functions → ends g reached s f ≡ true → Rule
    total_node : (n : ℕ) → n < g.nodes → Rule
    total_edge : (p n : ℕ) → g.edge p n ≡ true → Rule
    target_of : (n k : ℕ) → n < g.nodes → k ≤ through → takes g choice n k ≡ true → Rule

-- What the rules say; each of these is given by numbers alone.
abbrev pub start_form : Program → Sum → ℕ → Form
start_form g s n = record { head = along s n; base = 0; body = node_entry g (kind_for s) n ∷ [] }

abbrev pub step_form : Program → Sum → ℕ → ℕ → Form
step_form g s p n = record { head = along s (to s p n); base = 0; body = along s (from s p n) ∷ node_entry g through (to s p n) ∷ [] }

abbrev pub end_form : Program → Sum → ℕ → Form
end_form g s f = record { head = function_entry (kind_for s) f; base = due g s f; body = along s (ending g s f) ∷ [] }

abbrev pub total_node_form : Program → ℕ → Form
total_node_form g n = record { head = function_entry total (g.owner n); base = frame_of g (g.owner n); body = node_entry g total n ∷ [] }

abbrev pub total_edge_form : Program → ℕ → ℕ → Form
total_edge_form g p n = record { head = function_entry total (g.owner n); base = frame_of g (g.owner n); body = along After p ∷ node_entry g pre n ∷ [] }

abbrev pub target_form : Program → ℕ → ℕ → Form
target_form g n k = record { head = node_entry g k n; base = 0; body = function_entry (taken g n k) (g.target n) ∷ [] }

module _ {g : Program} {set reached : ℕ → Bool} {choice : ℕ → ℕ} where
  abbrev pub form_of : Rule g set reached choice → Form
  form_of (start s n h b) = start_form g s n
  form_of (step_on s p n e b) = step_form g s p n
  form_of (end s f h b) = end_form g s f
  form_of (total_node n h) = total_node_form g n
  form_of (total_edge p n e) = total_edge_form g p n
  form_of (target_of n k h l b) = target_form g n k

-- What the system rests on.
pub record Given : Type 0 where
  pub program : Program
  pub synchronising : ℕ → Bool
  pub reached : ℕ → Bool
  pub choice : ℕ → ℕ

abbrev pub RuleOf : Given → Type 0
RuleOf S = Rule S.program S.synchronising S.reached S.choice

abbrev pub forms_of : (S : Given) → RuleOf S → Form
forms_of S r = form_of r

module _ (g : Program) (set reached : ℕ → Bool) (choice : ℕ → ℕ) where
  abbrev given_by : Given
  given_by = record { program = g; synchronising = set; reached = reached; choice = choice }

  -- what the rules derive, and their least solution
  abbrev pub Der : Entry → ℕ → Type 0
  Der = Derives (forms_of given_by)

  abbrev pub Solved : (Entry → ℕ) → Type 0
  Solved = Solves (forms_of given_by)

  -- sizes that are derived, whatever the sums
  pub record Derived (sizes : ℕ → ℕ) : Type 0 where
    pub each : (x : ℕ) → Derives (forms_of given_by) (size x) (sizes x)

abbrev pub DerOf : Given → Entry → ℕ → Type 0
DerOf S = Derives (forms_of S)
