-- The rules of the finite system as words in a list, as the code keeps them. Helps proofs only.
use Rattle.std.specs.Borrow.{Bor}
use Rattle.std.specs.Prelude.{ℕ, zero, suc, ◌+◌, ◌-◌, ◌*◌, ◌/◌, ◌%◌, ◌<◌, ◌≤◌, ◌≡◌, Bool, true, false, cond, List, ltb, length, replicate, Option, None, Some}
use Rattle.table.specs.Program.{program_of}
use Rattle.table.specs.declared.Counts.{Counts}
use Rattle.program.specs.declared.Program.{Program}
use Rattle.sync.specs.Words.{member}
use Rattle.size.specs.Numbers.{at}
use Rattle.solver.specs.Words.{head_of, rule_of}
use Rattle.rules.specs.Choice.{unguarded}
use Rattle.rules.specs.System.{Form, Given, RuleOf, takes, form_of}
use Rattle.rules.specs.Numbered.{count_of, on_at, form_at, Means}
use Rattle.sync.specs.declared.Known.{Known}
use Rattle.rule_order.specs.declared.Orders.{Orders}
use Rattle.rules.specs.declared.kinds.Kind.{Kind}
use Rattle.rules.specs.declared.kinds.Kind.TheVariants.{Target, Start, Step, End, TotalNode, TotalEdge}
use Rattle.rules.specs.declared.sums.Sum.TheVariants.{After, Before, Through}
use Rattle.listed.specs.declared.source.Source.{Source}
use Rattle.listed.specs.declared.list.Group.{Group}
use Rattle.listed.specs.declared.list.Group.TheVariants.{Node, Edge, Back, Function}

-- What the system rests on, from what the code is given.
abbrev pub given : List ℕ → Known → Given
given choice known = record { program = program_of known.program.table.now; synchronising = member known.synchronising; reached = member known.reached; choice = at choice }

-- unguarded at every node: no choice has rules that this one has not
abbrev pub everywhere : List ℕ
everywhere = replicate 512 unguarded

-- Rules are listed in groups: those of a node, those of an edge that run with it, the one that runs against it, and those of a function.
-- The eight of a node: its own sizes' last, so that they come first where the eight are gone over backwards.
abbrev pub node_kind : ℕ → Kind
node_kind zero = TotalNode
node_kind (suc zero) = Start Through
node_kind (suc (suc zero)) = Start Before
node_kind (suc (suc (suc zero))) = Start After
node_kind (suc (suc (suc (suc k)))) = Target

abbrev pub node_number : ℕ → ℕ → ℕ
node_number n zero = n
node_number n (suc zero) = n
node_number n (suc (suc zero)) = n
node_number n (suc (suc (suc zero))) = n
node_number n (suc (suc (suc (suc k)))) = 4 * n + k

-- The three of an edge, and of a function.
abbrev pub edge_kind : ℕ → Kind
edge_kind zero = Step After
edge_kind (suc zero) = Step Through
edge_kind (suc (suc c)) = TotalEdge

abbrev pub function_kind : ℕ → Kind
function_kind zero = End After
function_kind (suc zero) = End Before
function_kind (suc (suc c)) = End Through

-- A group goes by place: how many places it has, and the rule at place i.
abbrev pub places_of : Counts → Group → ℕ
places_of c Node = 8 * c.nodes
places_of c Edge = 3 * c.edges
places_of c Back = c.edges
places_of c Function = 3 * c.functions

-- how many rules a table can have: one for each place of a group
abbrev pub slots : Counts → ℕ
slots c = 8 * c.nodes + 4 * c.edges + 3 * c.functions

abbrev pub kind_at : Group → ℕ → Kind
kind_at Node i = node_kind (7 - i % 8)
kind_at Edge i = edge_kind (i % 3)
kind_at Back i = Step Before
kind_at Function i = function_kind (i % 3)

abbrev pub number_at : Orders → Group → ℕ → ℕ
number_at o Node i = node_number (at o.nodes (i / 8)) (7 - i % 8)
number_at o Edge i = at o.edges (i / 3)
number_at o Back i = at o.edges i
number_at o Function i = at o.functions (i / 3)

-- From lo to hi the q-th place, counted from the last one where rules run against the edges.
abbrev pub place_at : Group → ℕ → ℕ → ℕ → ℕ
place_at Node lo hi q = lo + q
place_at Edge lo hi q = lo + q
place_at Back lo hi q = hi - (q + 1)
place_at Function lo hi q = lo + q

-- Whether a choice has the rule that a word says: only the sizes of nodes rest on it.
unfoldable pub in_force : List ℕ → Program → ℕ → Bool
in_force choice p w = cond (ltb (head_of w) (4 * p.of.functions)) true (cond (ltb (head_of w) (4 * (p.of.functions + p.of.nodes))) (takes (program_of p.table.now) (at choice) (head_of w / 4 - p.of.functions) (head_of w % 4)) true)

abbrev pub Says : ℕ → Form → Type 0
Says w f = Means f (rule_of w)

-- how many places of each group are done
pub record Progress : Type 0 where
  pub node : ℕ
  pub edge : ℕ
  pub back : ℕ
  pub function : ℕ

abbrev pub done : Progress → Group → ℕ
done p Node = p.node
done p Edge = p.edge
done p Back = p.back
done p Function = p.function

abbrev pub up_to : Progress → Group → ℕ → Progress
up_to p Node hi = record { node = hi; edge = p.edge; back = p.back; function = p.function }
up_to p Edge hi = record { node = p.node; edge = hi; back = p.back; function = p.function }
up_to p Back hi = record { node = p.node; edge = p.edge; back = hi; function = p.function }
up_to p Function hi = record { node = p.node; edge = p.edge; back = p.back; function = hi }

-- nodes up to a, edges up to b and functions up to f are done
abbrev pub blocks : ℕ → ℕ → ℕ → Progress
blocks a b f = record { node = 8 * a; edge = 3 * b; back = b; function = 3 * f }

-- Which rules there are where rules are listed from, and what they say.
abbrev pub on_in : Source → Kind → ℕ → Bool
on_in x k i = on_at x.choice.now x.known.now k i

abbrev pub form_in : Source → Kind → ℕ → Form
form_in x k i = form_at x.known.now.program.table.now k i

-- how many rules the largest table can have, with 512 nodes, 1,024 edges and 64 functions
abbrev pub most_slots : ℕ
most_slots = 8384

-- A list has room for so many words, and for no more than the largest table's.
abbrev pub RoomFor : ℕ → ℕ → Type 0
RoomFor words room = (words ≤ room) × (room ≤ most_slots)

-- The word of the rule at place i of a group, if it is there.
abbrev pub WordFor : Source → Group → ℕ → Option ℕ → Type 0
WordFor x g i None = on_in x (kind_at g i) (number_at x.orders.now g i) ≡ false
WordFor x g i (Some w) = (on_in x (kind_at g i) (number_at x.orders.now g i) ≡ true) × Says w (form_in x (kind_at g i) (number_at x.orders.now g i))

-- The rule at place i of a group, if it is there, is among the words.
abbrev pub Placed : Source → List ℕ → Group → ℕ → Type 0
Placed x rules g i = on_in x (kind_at g i) (number_at x.orders.now g i) ≡ true → (j : ℕ) × (j < length rules) × Says (at rules j) (form_in x (kind_at g i) (number_at x.orders.now g i))

-- Each word is a rule, and those of the places that are done are among them.
pub record Listed (x : Source) (p : Progress) (rules : List ℕ) : Type 0 where
  pub each : (j : ℕ) → j < length rules → (k : Kind) × (i : ℕ) × (i < count_of x.known.now.program.of k) × (on_in x k i ≡ true) × Says (at rules j) (form_in x k i)
  pub all : (g : Group) (i : ℕ) → i < done p g → Placed x rules g i

-- So it is from lo to hi for the first q places of one group more.
pub record Listing (x : Source) (p : Progress) (g : Group) (lo hi q : ℕ) (rules : List ℕ) : Type 0 where
  pub listed : Listed x p rules
  pub some : (r : ℕ) → r < q → Placed x rules g (place_at g lo hi r)

-- What listing from lo to hi does, whatever was done before.
pub record Lengthens (x : Source) (g : Group) (lo hi : ℕ) (old new : List ℕ) : Type 0 where
  pub few : length new ≤ length old + (hi - lo)
  pub more : (p : Progress) → done p g ≡ lo → Listed x p old → Listed x (up_to p g hi) new

-- The words are the rules of the system, all of them.
pub record Lists (S : Given) (rules : List ℕ) : Type 0 where
  pub each : (j : ℕ) → j < length rules → (r : RuleOf S) × Says (at rules j) (form_of r)
  pub all : (r : RuleOf S) → (j : ℕ) × (j < length rules) × Says (at rules j) (form_of r)

-- The words are the rules of a choice, and so many at most.
pub record RulesFor (choice : List ℕ) (known : Known) (most : ℕ) (rules : List ℕ) : Type 0 where
  pub few : length rules ≤ most
  pub lists : Lists (given choice known) rules

-- Those of the widest choice: no more than the largest table can have.
abbrev pub Widest : Known → List ℕ → Type 0
Widest known = RulesFor everywhere known most_slots

-- How many words the rules of a choice can take, where those of the widest one are at hand, or not.
abbrev pub needed : Known → Option (Bor (List ℕ)) → ℕ
needed known (Some all) = length all.now
needed known None = slots known.program.of
