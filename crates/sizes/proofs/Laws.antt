-- What the crates above may use of the rules: at most one table is least, a larger choice has the larger sizes, and its rules derive what a
-- smaller one's do; and of the number of sizes.
use Prim.Native.Nat.{ℕ, ◌+◌, ◌*◌, ◌<◌, ◌≤◌}
use mathlib.Core.Path.{◌≡◌, refl, ap, ◌∙◌, subst, fun_ext}
use mathlib.Core.Bool.{Bool}
use mathlib.Core.List.{List}
use native.Mathlib.Omega.{arith}
use Rattle.table.specs.Answer.{Ready}
use Rattle.table.specs.Program.{Program, program_of}
use Rattle.table.specs.declared.Counts.{Counts}
use Rattle.table.specs.SameButEdges.{SameButEdges}
use Rattle.table.proofs.Laws.{same_program}
use Rattle.table.proofs.Ready.{functions_are, nodes_are, few_functions, few_nodes}
use Rattle.sync.specs.Synchronising.{Synchronising}
use Rattle.sync.proofs.Laws.{synchronising_unique}
use Rattle.size.specs.Size.{unbounded}
use Rattle.rules.specs.Choice.{AtMost}
use Rattle.size.specs.Numbers.{Written}
use Rattle.rules.specs.Rules.{entries, Meets, Least, LeastSizes}
use Rattle.rules.specs.System.{Entry, Form, Rule, start, step_on, end, total_node, total_edge, target_of, form_of, gives, Der, none, rule, Derived}
use Rattle.rules.proofs.Taking.{takes_larger}

module _ (g : Program) where
  module _ (set : ℕ → Bool) where
    -- a larger choice's rules include a smaller one's
    pub meets_smaller : (c d s : ℕ → ℕ) → AtMost g c d → Meets g set d s → Meets g set c s
    meets_smaller c d s b m = record {
      sized = m.sized;
      total_node = m.total_node;
      total_path = m.total_path;
      post_path = m.post_path;
      pre_path = m.pre_path;
      through_path = m.through_path;
      calls = m.calls;
      merged = λ n h e q. m.merged n h e (omega (arith, b n h));
      unguarded = λ n h e q. m.unguarded n h e (omega (arith, b n h));
    }

    -- "A table of nothing but "unbounded" meets the rules too": there is always one that does
    pub meets_unbounded : (c : ℕ → ℕ) → Meets g set c (λ x. unbounded)
    meets_unbounded c = record {
      sized = λ x. omega arith;
      total_node = λ n h. omega arith;
      total_path = λ q e k. omega arith;
      post_path = λ f h q k. omega arith;
      pre_path = λ f h q k. omega arith;
      through_path = λ f h q k. omega arith;
      calls = λ n h e k l. omega arith;
      merged = λ n h e m k l. omega arith;
      unguarded = λ n h e m k l. omega arith;
    }

    least_grows : (c d s u : ℕ → ℕ) → AtMost g c d → Least g set c s → Least g set d u → (x : ℕ) → x < entries g → s x ≤ u x
    least_grows c d s u b p q x h = p.least u (meets_smaller c d u b q.meets) x h

    pub least_alike : (c d s : ℕ → ℕ) → ((n : ℕ) → n < g.nodes → c n ≡ d n) → Least g set c s → Least g set d s
    least_alike c d s e l = record {
      meets = meets_smaller d c s (λ n h. omega (arith, e n h)) l.meets;
      least = λ other m. l.least other (meets_smaller c d other (λ n h. omega (arith, e n h)) m);
    }

  same_set : (set other : ℕ → Bool) (c s : ℕ → ℕ) → Synchronising g set → Synchronising g other → Least g other c s → Least g set c s
  same_set set other c s p q l = subst (λ (v : ℕ → Bool). Least g v c s) (fun_ext (synchronising_unique g other q set p)) l

  -- so least sizes grow with the choice
  pub sizes_grow : (c d s u : ℕ → ℕ) → AtMost g c d → LeastSizes g c s → LeastSizes g d u → (x : ℕ) → x < entries g → s x ≤ u x
  sizes_grow c d s u b p q = least_grows p.0 c d s u b p.2 (same_set p.0 q.0 d u p.1 q.1 q.2)

  -- and at most one table is least
  pub sizes_unique : (c s u : ℕ → ℕ) → LeastSizes g c s → LeastSizes g c u → (x : ℕ) → x < entries g → s x ≡ u x
  sizes_unique c s u p q x h =
      omega
      (arith, sizes_grow c c s u (λ n l. omega arith) p q x h, sizes_grow c c u s (λ n l. omega arith) q p x h)

  -- and only the verdicts of the nodes there are count
  pub sizes_alike : (c d s : ℕ → ℕ) → ((n : ℕ) → n < g.nodes → c n ≡ d n) → LeastSizes g c s → LeastSizes g d s
  sizes_alike c d s e l = (l.0, l.1, least_alike l.0 c d s e l.2)

-- the least sizes depend on the program only: edges in another order, or repeated, give the same
pub sizes_same : (t u : List ℕ) → SameButEdges t u → (c s : ℕ → ℕ) → LeastSizes (program_of t) c s → LeastSizes (program_of u) c s
sizes_same t u e c s = subst (λ (g : Program). LeastSizes g c s) (same_program t u e)

-- ---- sizes that the rules derive

module _ (g : Program) (set reached : ℕ → Bool) where
  module _ (c d : ℕ → ℕ) (b : AtMost g c d) where
    abbrev rule_larger : Rule g set reached c → Rule g set reached d
    rule_larger (start s n h i) = start s n h i
    rule_larger (step_on s p n e i) = step_on s p n e i
    rule_larger (end s f h i) = end s f h i
    rule_larger (total_node n h) = total_node n h
    rule_larger (total_edge p n e) = total_edge p n e
    rule_larger (target_of n k h l i) = target_of n k h l (takes_larger g c d n k (b n h) i)

    same_form : (r : Rule g set reached c) → form_of r ≡ form_of (rule_larger r)
    same_form (start s n h i) = refl
    same_form (step_on s p n e i) = refl
    same_form (end s f h i) = refl
    same_form (total_node n h) = refl
    same_form (total_edge p n e) = refl
    same_form (target_of n k h l i) = refl

    der_larger : {x : Entry} {t : ℕ} → Der g set reached c x t → Der g set reached d x t
    der_larger none = none
    der_larger (rule {t = t} r v e each l) =
        rule (rule_larger r) v (e ∙ ap (λ (f : Form). f.head) (same_form r)) (λ y. der_larger (each y)) (subst (λ (f : Form). t ≤ gives v f) (same_form r) l)

  -- what a smaller choice's rules derive, a larger one's do
  pub derived_larger : (c d s : ℕ → ℕ) → AtMost g c d → Derived g set reached c s → Derived g set reached d s
  derived_larger c d s b h = record { each = λ x. der_larger c d b (h.each x) }

-- ---- how many sizes a table has

-- as many numbers are written, however their number is reckoned
pub written_as : {n m : ℕ} {v : ℕ → ℕ} {old new : List ℕ} → Written n v old new → n ≡ m → Written m v old new
written_as {n} {m} {v} {old} {new} w e = subst (λ (k : ℕ). Written k v old new) e w

module _ {t : List ℕ} {c : Counts} (ready : Ready t c) where
  pub entries_are : 4 * (c.functions + c.nodes) ≡ entries (program_of t)
  entries_are = omega (arith, functions_are t c ready, nodes_are t c ready)

  pub entries_few : entries (program_of t) ≤ 2304
  entries_few = omega (arith, entries_are, few_functions t c ready, few_nodes t c ready)

  pub counts_few : c.functions + c.nodes ≤ 576
  counts_few = omega (arith, few_functions t c ready, few_nodes t c ready)
