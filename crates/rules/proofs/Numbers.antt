-- The numbers that the code gives a rule say what the rule says. What the functions that it calls give is taken as they give it.
use Prim.Native.Nat.{ℕ, ◌+◌, ◌*◌, ◌/◌, ◌%◌, ◌<◌, ◌≤◌}
use mathlib.Core.Path.{◌≡◌, refl, sym, ap, ap₂, ◌∙◌}
use mathlib.Core.List.{List, [], ◌∷◌}
use native.Mathlib.Omega.{arith}
use mathlib.Core.Bool.{Bool, true, false}
use Rattle.std.specs.Prelude.{Option, None, Some}
use Rattle.std.specs.Bool.{then_some}
use Rattle.table.specs.Answer.{Ready}
use Rattle.table.specs.Program.{program_of}
use Rattle.table.specs.declared.Counts.{Counts}
use Rattle.table.proofs.Ready.{few_functions, few_nodes, functions_are}
use Rattle.program.specs.Frame.{frame_of}
use Rattle.size.specs.Size.{unbounded, value_of}
use Rattle.size.specs.declared.Size.{Size}
use Rattle.size.proofs.Values.{value_le}
use Rattle.rules.specs.System.{Form, Entry, size, along, kind_for, from, to, ending, due, taken, start_form, step_form, end_form, total_node_form, total_edge_form, target_form}
use Rattle.rules.specs.Entries.{offset, entry_at}
use Rattle.solver.specs.Words.{entry_count}
use Rattle.rules.specs.Numbered.{Means, Gives}
use Rattle.rules.specs.declared.sums.Sum.{Sum}
use Rattle.rules.specs.declared.sums.Sum.TheVariants.{After, Before, Through}
use Rattle.solver.specs.declared.rule.Rule.{Rule}
use Rattle.rules.proofs.Entries.{entry_size, entry_along}

-- entry e is number x
record Is (e : Entry) (x : ℕ) : Type 0 where
  low : x < entry_count
  is : e ≡ entry_at x

is_size_lem : (x y : ℕ) → x < 2304 → x ≡ y → Is (size y) x
is_size_lem x y h e = record { low = omega arith; is = ap size (sym e) ∙ sym (entry_size x h) }

is_along : (s : Sum) (x n a : ℕ) → (x ≡ offset s + n) × (x < 3840) → n < 512 → n ≡ a → Is (along s a) x
is_along s x n a p h e = record { low = p.1; is = ap (along s) (sym e) ∙ sym (entry_along s n h) ∙ ap entry_at (sym p.0) }

-- rules with one entry in the body, and with two
one : {e d : Entry} {b head base part : ℕ} → Is e head → b ≡ base → base ≤ unbounded → Is d part → Means (record { head = e; base = b; body = d ∷ [] }) (record { head = head; base = base; part = part; other = None })
one i b-is le j =
    record {
      head_low = i.low;
      part_low = j.low;
      other_low = λ z q. cc;
      base_low = le;
      head_is = i.is;
      base_is = b-is;
      body_is = ap (λ (d : Entry). d ∷ []) j.is;
    }

two : {e d : Entry} {b head base part : ℕ} (z other : ℕ) → Is e head → b ≡ base → base ≤ unbounded → Is d part → other < 2304 → other ≡ z → Means (record { head = e; base = b; body = d ∷ size z ∷ [] }) (record { head = head; base = base; part = part; other = Some other })
two z other i b-is le j h e =
    record {
      head_low = i.low;
      part_low = j.low;
      other_low = λ y q. let same : other ≡ y = cc in omega arith;
      base_low = le;
      head_is = i.is;
      base_is = b-is;
      body_is = rw e (ap (λ (d : Entry). d ∷ size z ∷ []) j.is);
    }

-- the ends of an edge, whichever way a sum runs along it
pub ends_low : (s : Sum) (p q a b : ℕ) → (a ≡ from s p q) × (b ≡ to s p q) → p < 512 → q < 512 → (a < 512) × (b < 512)
ends_low After p q a b e h l = (omega arith, omega arith)
ends_low Before p q a b e h l = (omega arith, omega arith)
ends_low Through p q a b e h l = (omega arith, omega arith)

-- a rule that is there if a test says so
pub gives : {f : Form} {r : Rule} (b : Bool) (on : Bool) (o : Option Rule) → o ≡ then_some b r → b ≡ on → Means f r → Gives on f o
gives true on o e t m = rw e (sym t, m)
gives false on o e t m = rw e (sym t)

pub few : {t : List ℕ} {c : Counts} → Ready t c → (c.nodes ≤ 512) × (c.functions ≤ 64)
few {t} {c} ready = (few_nodes t c ready, few_functions t c ready)

module _ {t : List ℕ} {c : Counts} (ready : Ready t c) where
  is_node_lem : (x n k : ℕ) → n < 512 → k ≤ 3 → x ≡ 4 * (c.functions + n) + k → Is (size (4 * ((program_of t).functions + n) + k)) x
  is_node_lem x n k h l e = is_size_lem x (4 * ((program_of t).functions + n) + k) (omega (arith, few ready)) (omega (arith, functions_are t c ready))

  pub target_means : (i : ℕ) {f k : ℕ} → i < 4 * c.nodes → (f ≡ (program_of t).target (i / 4)) × (f < c.functions) → (k ≡ taken (program_of t) (i / 4) (i % 4)) × (k ≤ 3) → Means (target_form (program_of t) (i / 4) (i % 4)) (record { head = 4 * c.functions + i; base = 0; part = 4 * f + k; other = None })
  target_means i h p q =
      one (is_node_lem _ (i / 4) (i % 4) (omega (arith, few ready)) (omega arith) (omega arith)) refl (omega arith)
      (is_size_lem _ _ (omega (arith, few ready)) (omega arith))

  pub start_means : (s : Sum) (n : ℕ) {x k : ℕ} → n < c.nodes → (x ≡ offset s + n) × (x < 3840) → (k ≡ kind_for s) × (k ≤ 3) → Means (start_form (program_of t) s n) (record { head = x; base = 0; part = 4 * (c.functions + n) + k; other = None })
  start_means s n h p q =
      one (is_along s _ n n p (omega (arith, few ready)) refl) refl (omega arith)
      (is_node_lem _ n (kind_for s) (omega (arith, few ready)) (omega arith) (omega arith))

  pub step_means : (s : Sum) {p q P Q a b x y : ℕ} → (p ≡ P) × (p < c.nodes) → (q ≡ Q) × (q < c.nodes) → (a ≡ from s p q) × (b ≡ to s p q) → (x ≡ offset s + b) × (x < 3840) → (y ≡ offset s + a) × (y < 3840) → Means (step_form (program_of t) s P Q) (record { head = x; base = 0; part = y; other = Some (4 * (c.functions + b) + 3) })
  step_means s {a = a} {b = b} p-is q-is ends-are x-is y-is =
      let low : (a < 512) × (b < 512) = ends_low s _ _ _ _ ends-are (omega (arith, few ready)) (omega (arith, few ready)) in
      let e = ends-are.1 ∙ ap₂ (to s) p-is.0 q-is.0 in
      two _ _ (is_along s _ _ _ x-is low.1 e) refl (omega arith) (is_along s _ _ _ y-is low.0 (ends-are.0 ∙ ap₂ (from s) p-is.0 q-is.0)) (omega (arith, few ready, low.1))
      (omega (arith, e, functions_are t c ready))

  pub end_means : (s : Sum) (f : ℕ) (z : Size) {k base n x : ℕ} → f < c.functions → (k ≡ kind_for s) × (k ≤ 3) → base ≡ value_of z → value_of z ≡ due (program_of t) s f → (n ≡ ending (program_of t) s f) × (n < c.nodes) → (x ≡ offset s + n) × (x < 3840) → Means (end_form (program_of t) s f) (record { head = 4 * f + k; base = base; part = x; other = None })
  end_means s f z h k-is base_is z-is n-is x-is =
      one (is_size_lem _ _ (omega (arith, few ready)) (omega arith)) (sym (base_is ∙ z-is)) (omega (arith, value_le z))
      (is_along s _ _ _ x-is (omega (arith, few ready)) n-is.0)

  pub total_node_means : (n : ℕ) (z : Size) {f base : ℕ} → n < c.nodes → (f ≡ (program_of t).owner n) × (f < c.functions) → base ≡ value_of z → value_of z ≡ frame_of (program_of t) f → Means (total_node_form (program_of t) n) (record { head = 4 * f; base = base; part = 4 * (c.functions + n); other = None })
  total_node_means n z h f-is base_is z-is =
      one (is_size_lem _ _ (omega (arith, few ready)) (omega arith)) (sym (base_is ∙ z-is ∙ ap (frame_of (program_of t)) f-is.0)) (omega (arith, value_le z))
      (is_node_lem _ n 0 (omega (arith, few ready)) (omega arith) (omega arith))

  pub total_edge_means : (z : Size) {p q P Q f base x : ℕ} → (p ≡ P) × (p < c.nodes) → (q ≡ Q) × (q < c.nodes) → (f ≡ (program_of t).owner q) × (f < c.functions) → base ≡ value_of z → value_of z ≡ frame_of (program_of t) f → (x ≡ 2304 + p) × (x < 3840) → Means (total_edge_form (program_of t) P Q) (record { head = 4 * f; base = base; part = x; other = Some (4 * (c.functions + q) + 2) })
  total_edge_means z p-is q-is f-is base_is z-is x-is =
      let e = f-is.0 ∙ ap (program_of t).owner q-is.0 in
      two _ _ (is_size_lem _ _ (omega (arith, few ready)) (omega (arith, e))) (sym (base_is ∙ z-is ∙ ap (frame_of (program_of t)) e)) (omega (arith, value_le z))
      (is_along After _ _ _ x-is (omega (arith, few ready)) p-is.0) (omega (arith, few ready))
      (omega (arith, q-is, functions_are t c ready))
