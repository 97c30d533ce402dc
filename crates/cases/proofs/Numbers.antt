-- The rules of the finite system by kind and number, as a table's rows give them.
use Prim.Native.Nat.{ℕ, zero, suc, ◌+◌, ◌*◌, ◌/◌, ◌%◌, ◌<◌}
use mathlib.Core.Path.{◌≡◌, refl, ap₂, ◌∙◌}
use mathlib.Core.Bool.{Bool, true, ◌&&◌}
use mathlib.Core.List.{List, [], ◌∷◌}
use native.Mathlib.Omega.{arith}
use lib.Dec.{eqb}
use lib.ListN.{get_or}
use borrow.Author.Tests.{eqb-true, eq-eqb}
use Rattle.table.proofs.Below.{any_some, any_which}
use Rattle.table.proofs.Booleans.{and_true_left, and_true_right}
use Rattle.size.specs.Numbers.{at}
use Rattle.rules.specs.System.{Form, Given, RuleOf, starts, steps, ends, takes, start_form, step_form, end_form, total_node_form, total_edge_form, target_form, form_of, start, step_on, end, total_node, total_edge, target_of}
use Rattle.rules.specs.declared.sums.Sum.{Sum}
use Rattle.rules.specs.declared.sums.Sum.TheVariants.{After, Before, Through}
use Rattle.cases.proofs.Rows.{Rows, leads, program_from}
use Rattle.cases.proofs.Entries.{each}

-- Rule i of a kind: a sum's start at node i, its step along edge i and its end in function i; Total by node i and by edge i; size i % 4
-- of node i / 4 from its target.
pub data Kind : Type 0 where
  starting : Sum → Kind
  stepping : Sum → Kind
  ending : Sum → Kind
  of_node : Kind
  of_edge : Kind
  of_target : Kind

-- all kinds, in the order in which sizes come about
abbrev pub kinds : List Kind
kinds =
    of_target
    ∷ starting After ∷ starting Before ∷ starting Through
    ∷ stepping After ∷ stepping Before ∷ stepping Through
    ∷ ending After ∷ ending Before ∷ ending Through
    ∷ of_node ∷ of_edge
    ∷ []

abbrev pub all : (Kind → Bool) → List Kind → Bool
all b [] = true
all b (k ∷ l) = b k && all b l

all_at : (b : Kind → Bool) (l : List Kind) (d : Kind) → all b l ≡ true → b d ≡ true → (i : ℕ) → b (get_or l i d) ≡ true
all_at b [] d h e i = e
all_at b (k ∷ l) d h e zero = and_true_left (b k) (all b l) h
all_at b (k ∷ l) d h e (suc i) = all_at b l d (and_true_right (b k) (all b l) h) e i

pub all_kinds : (b : Kind → Bool) → all b kinds ≡ true → (k : Kind) → b k ≡ true
all_kinds b h = go (all_at b kinds of_target h (and_true_left (b of_target) _ h))
  where
    go : ((i : ℕ) → b (get_or kinds i of_target) ≡ true) → (k : Kind) → b k ≡ true
    go p (starting s) = each (λ s. b (starting s) ≡ true) (p 1) (p 2) (p 3) s
    go p (stepping s) = each (λ s. b (stepping s) ≡ true) (p 4) (p 5) (p 6) s
    go p (ending s) = each (λ s. b (ending s) ≡ true) (p 7) (p 8) (p 9) s
    go p of_node = p 10
    go p of_edge = p 11
    go p of_target = p 0

-- how many numbers a kind has, and what the rule of each says
abbrev pub count : Rows → Kind → ℕ
count r (starting s) = r.nodes
count r (stepping s) = r.edges
count r (ending s) = r.functions
count r of_node = r.nodes
count r of_edge = r.edges
count r of_target = 4 * r.nodes

abbrev pub form : Rows → Kind → ℕ → Form
form r (starting s) n = start_form (program_from r) s n
form r (stepping s) e = step_form (program_from r) s (at r.froms e) (at r.tos e)
form r (ending s) f = end_form (program_from r) s f
form r of_node n = total_node_form (program_from r) n
form r of_edge e = total_edge_form (program_from r) (at r.froms e) (at r.tos e)
form r of_target i = target_form (program_from r) (i / 4) (i % 4)

edge_there : (r : Rows) (e : ℕ) → e < r.edges → (program_from r).edge (at r.froms e) (at r.tos e) ≡ true
edge_there r e h =
    let a = at r.froms e in
    let b = at r.tos e in
    any_some (leads r a b) r.edges e h (rw (eq-eqb a a refl, eq-eqb b b refl) refl)

edge_which : (r : Rows) (p n : ℕ) → (program_from r).edge p n ≡ true → (e : ℕ) × (e < r.edges) × (at r.froms e ≡ p) × (at r.tos e ≡ n)
edge_which r p n h =
    let x = any_which (leads r p n) r.edges h in
    let a = at r.froms x.0 in
    let b = at r.tos x.0 in
    (x.0, x.1, eqb-true a p (and_true_left (eqb a p) (eqb b n) x.2), eqb-true b n (and_true_right (eqb a p) (eqb b n) x.2))

module _ (r : Rows) (synchronising reached : ℕ → Bool) (choice : ℕ → ℕ) where
  abbrev pub system : Given
  system = record { program = program_from r; synchronising = synchronising; reached = reached; choice = choice }

  -- what a rule asks for besides
  abbrev pub asked : Kind → ℕ → Bool
  asked (starting s) n = starts (program_from r) s n
  asked (stepping s) e = steps synchronising reached s (at r.froms e) (at r.tos e)
  asked (ending s) f = ends (program_from r) reached s f
  asked of_node n = true
  asked of_edge e = true
  asked of_target i = takes (program_from r) choice (i / 4) (i % 4)

  pub rule_of : (k : Kind) (i : ℕ) → i < count r k → asked k i ≡ true → (q : RuleOf system) × (form_of q ≡ form r k i)
  rule_of (starting s) n h b = (start s n h b, refl)
  rule_of (stepping s) e h b = (step_on s (at r.froms e) (at r.tos e) (edge_there r e h) b, refl)
  rule_of (ending s) f h b = (end s f h b, refl)
  rule_of of_node n h b = (total_node n h, refl)
  rule_of of_edge e h b = (total_edge (at r.froms e) (at r.tos e) (edge_there r e h), refl)
  rule_of of_target i h b = (target_of (i / 4) (i % 4) (omega arith) (omega arith) b, refl)

  pub number_of : (q : RuleOf system) → (k : Kind) × (i : ℕ) × (i < count r k) × (asked k i ≡ true) × (form r k i ≡ form_of q)
  number_of (start s n h b) = (starting s, n, h, b, refl)
  number_of (step_on s p n e b) =
      let x = edge_which r p n e in
      (stepping s, x.0, x.1, ap₂ (steps synchronising reached s) x.2 x.3 ∙ b, ap₂ (step_form (program_from r) s) x.2 x.3)
  number_of (end s f h b) = (ending s, f, h, b, refl)
  number_of (total_node n h) = (of_node, n, h, refl, refl)
  number_of (total_edge p n e) = let x = edge_which r p n e in (of_edge, x.0, x.1, refl, ap₂ (total_edge_form (program_from r)) x.2 x.3)
  number_of (target_of n k h l b) =
      let i : (4 * n + k) / 4 ≡ n = omega arith in
      let j : (4 * n + k) % 4 ≡ k = omega arith in
      (of_target, 4 * n + k, omega arith, ap₂ (takes (program_from r) choice) i j ∙ b, ap₂ (target_form (program_from r)) i j)
