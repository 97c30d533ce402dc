-- What the rules derive lies at or below every table that meets the rules of document 01, and each sum that they derive is that of an open path.
use Prim.Native.Nat.{ℕ, ◌+◌, ◌*◌, ◌<◌, ◌≤◌}
use mathlib.Core.Path.{◌≡◌, sym, ap, ◌∙◌, subst}
use mathlib.Core.Bool.{Bool, true, not}
use native.Mathlib.Omega.{arith}
use borrow.Author.Tests.{eqb-true, not-true}
use Rattle.table.proofs.Booleans.{and_true_left, and_true_right}
use Rattle.table.specs.Program.{Program}
use Rattle.table.specs.WellFormed.{WellFormed}
use Rattle.program.specs.Frame.{frame_of}
use Rattle.sync.specs.Paths.{Path, stop, step, Clear}
use Rattle.sync.specs.Synchronising.{Reached}
use Rattle.sync.proofs.Paths.{path_owner, clear_open}
use Rattle.size.specs.Size.{cap}
use Rattle.rules.specs.Rules.{total, post, pre, through, of_node, sum, Meets}
use Rattle.rules.specs.Sums.{Ahead, after_sum, before_sum}
use Rattle.rules.specs.System.{Entry, size, along, node_entry, function_entry, Rule, start, step_on, end, total_node, total_edge, target_of, form_of, gives, taken, Der, none, rule}
use Rattle.rules.specs.declared.sums.Sum.TheVariants.{After, Before, Through}
use Rattle.rules.proofs.Taking.{Takes, of_call, of_unguarded, of_merged, takes_which}
use Rattle.rules.proofs.Ahead.{ahead_open, prepend, prepend_ahead, prepend_sum}

module _ (g : Program) (set reached : ℕ → Bool) (choice : ℕ → ℕ) (w : WellFormed g) (r : Reached g set reached) (m : ℕ → ℕ) (meets : Meets g set choice m) where
  -- a size that an entry can have: at most the other table's, or a sum of it along an open path
  abbrev pub Has : Entry → ℕ → Type 0
  Has (size y) t = t ≤ m y
  Has (along After n) t = n < g.nodes → (a : ℕ) × ((q : Path g a n) × Clear set q × (t ≤ after_sum m q))
  Has (along Before n) t = n < g.nodes → (b : ℕ) × ((q : Path g n b) × Ahead set q × (t ≤ before_sum m q))
  Has (along Through n) t = reached n ≡ true → (q : Path g (g.first (g.owner n)) n) × Clear set q × (t ≤ cap (sum (of_node g m through) q))

  has_none : (x : Entry) → Has x 0
  has_none (size y) = omega arith
  has_none (along After n) = λ h. (n, (stop, tt, omega arith))
  has_none (along Before n) = λ h. (n, (stop, tt, omega arith))
  has_none (along Through n) = λ h. let x = (r n).0 h in (x.1.0, x.1.1, omega arith)

  has_target_lem : (n k : ℕ) → n < g.nodes → k ≤ through → Takes g choice n k → (u t : ℕ) → u ≤ m (4 * g.target n + taken g n k) → t ≤ cap u → t ≤ m (4 * (g.functions + n) + k)
  has_target_lem n k h l (of_call s e) u t b i = omega (arith, meets.calls n h s k l, rw e at b)
  has_target_lem n k h l (of_unguarded s c e) u t b i = omega (arith, meets.unguarded n h s c k l, rw e at b)
  has_target_lem n k h l (of_merged s c j e) u t b i = omega (arith, meets.merged n h s c k j, rw e at b)

  has_rule : (ρ : Rule g set reached choice) (u : Entry → ℕ) → ((x : Entry) → Has x (u x)) → (t : ℕ) → t ≤ gives u (form_of ρ) → Has (form_of ρ).head t
  has_rule (start After n h b) u d t l = λ k. (n, (stop, tt, omega (arith, d (node_entry g post n))))
  has_rule (start Before n h b) u d t l = λ k. (n, (stop, tt, omega (arith, d (node_entry g pre n))))
  has_rule (start Through n h b) u d t l = λ k.
      subst (λ (i : ℕ). (q : Path g i n) × Clear set q × (t ≤ cap (sum (of_node g m through) q))) (eqb-true _ _ b)
      (stop, tt, omega (arith, d (node_entry g through n)))
  has_rule (step_on After p n e b) u d t l = λ k.
      let q = d (along After p) (w.edge_together p n e).from_exists in
      (q.0, (step q.1.0 e, (q.1.1, not-true _ b), omega (arith, q.1.2, d (node_entry g through n))))
  has_rule (step_on Before p n e b) u d t l = λ k.
      let q = d (along Before n) (w.edge_together p n e).to_exists in
      (q.0, (prepend e q.1.0, prepend_ahead g set e (not-true _ b) q.1.0 q.1.1, omega (arith, q.1.2, d (node_entry g through p), prepend_sum g (of_node g m through) e q.1.0)))
  has_rule (step_on Through p n e b) u d t l = λ k.
      let q = d (along Through p) (and_true_right (not (set n)) (reached p) b) in
      subst (λ (i : ℕ). (q : Path g (g.first i) n) × Clear set q × (t ≤ cap (sum (of_node g m through) q))) (w.edge_together p n e).owner_same
      (step q.0 e, (q.1, not-true _ (and_true_left (not (set n)) (reached p) b)), omega (arith, q.2, d (node_entry g through n)))
  has_rule (end After f h b) u d t l =
      let q = d (along After (g.exit f)) (w.exit_own f h).exists in
      omega (arith, q.1.2, meets.post_path f h q.1.0 (clear_open g set q.1.0 q.1.1))
  has_rule (end Before f h b) u d t l =
      let q = d (along Before (g.first f)) (w.first_own f h).exists in
      omega (arith, q.1.2, meets.pre_path f h q.1.0 (ahead_open g set q.1.0 q.1.1))
  has_rule (end Through f h b) u d t l =
      let q = d (along Through (g.exit f)) b in
      let z = subst (λ (i : ℕ). (q : Path g (g.first i) (g.exit f)) × Clear set q × (u (along Through (g.exit f)) ≤ cap (sum (of_node g m through) q))) (w.exit_own f h).owner_is q in
      omega (arith, z.2, meets.through_path f h z.0 (clear_open g set z.0 z.1))
  has_rule (total_node n h) u d t l = omega (arith, meets.total_node n h, d (node_entry g total n))
  has_rule (total_edge p n e) u d t l =
      let b = w.edge_together p n e in
      let q = d (along After p) b.from_exists in
      let o : g.owner q.0 ≡ g.owner n = path_owner g w q.1.0 ∙ b.owner_same in
      omega
      (arith, q.1.2, d (node_entry g pre n), meets.total_path q.1.0 e q.1.1, ap (frame_of g) o, ap (λ (f : ℕ). m (4 * f + total)) o)
  has_rule (target_of n k h j b) u d t l =
      has_target_lem n k h j (takes_which g choice n k b) (u (function_entry (taken g n k) (g.target n))) t (d (function_entry (taken g n k) (g.target n))) (omega arith)

  pub derived_has : {x : Entry} {t : ℕ} → Der g set reached choice x t → Has x t
  derived_has (none {x}) = has_none x
  derived_has (rule {x} {t} ρ u e d l) = subst (λ (y : Entry). Has y t) (sym e) (has_rule ρ u (λ y. derived_has (d y)) t l)
