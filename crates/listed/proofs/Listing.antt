-- Rules in a list of words: what listing one after another comes to.
use Prim.Native.Nat.{ℕ, zero, suc, ◌+◌, ◌-◌, ◌*◌, ◌/◌, ◌%◌, ◌<◌, ◌≤◌}
use mathlib.Core.Path.{◌≡◌, refl, sym, ap, ap₂, ◌∙◌, subst}
use mathlib.Core.Bool.{true}
use mathlib.Core.List.{List, [], ◌∷◌, ◌++◌}
use mathlib.Core.Logic.{◌⊎◌, inl, inr}
use native.Mathlib.Omega.{arith}
use native.Mathlib.Decide.{ℕ_discrete, dec_lt}
use lib.ListN.{length, get_or-append}
use lib.Seq.{get_or-append_seam}
use Rattle.std.proofs.lemmas.List.{length-append}
use Rattle.std.specs.Prelude.{None, Some}
use Rattle.table.specs.Record.{edge_from, edge_to}
use Rattle.table.specs.Program.{program_of}
use Rattle.table.specs.declared.Counts.{Counts}
use Rattle.table.proofs.Booleans.{not_both}
use Rattle.table.proofs.Laws.{edge_which}
use Rattle.table.proofs.Ready.{edge_is}
use Rattle.sync.specs.Words.{member}
use Rattle.listed.specs.Within.{AllWithin}
use Rattle.rule_order.specs.AllOrdered.{AllOrdered}
use Rattle.rule_order.specs.declared.Orders.{Orders}
use Rattle.size.specs.Numbers.{at}
use Rattle.rules.specs.System.{RuleOf, steps, takes, step_form, total_edge_form, target_form, form_of, start, step_on, end, total_node, total_edge, target_of}
use Rattle.listed.specs.Listed.{given}
use Rattle.rules.specs.Numbered.{count_of, on_at, form_at}
use Rattle.listed.specs.Listed.{node_kind, node_number, edge_kind, function_kind, places_of, kind_at, number_at, place_at, Progress, done, up_to, blocks, on_in, form_in, Says, WordFor, Placed, Listed, Listing, Lists}
use Rattle.sync.specs.declared.Known.{Known}
use Rattle.listed.specs.declared.source.Source.{Source}
use Rattle.listed.specs.declared.list.Group.{Group}
use Rattle.listed.specs.declared.list.Group.TheVariants.{Node, Edge, Back, Function}
use Rattle.rules.specs.declared.kinds.Kind.{Kind}
use Rattle.rules.specs.declared.kinds.Kind.TheVariants.{Target, Start, Step, End, TotalNode, TotalEdge}
use Rattle.rules.specs.declared.sums.Sum.TheVariants.{After, Before, Through}

-- ---- places

-- every place names a rule of its kind
node_low : (c : Counts) (n j : ℕ) → n < c.nodes → j < 8 → node_number n j < count_of c (node_kind j)
node_low c n zero h l = h
node_low c n (suc zero) h l = h
node_low c n (suc (suc zero)) h l = h
node_low c n (suc (suc (suc zero))) h l = h
node_low c n (suc (suc (suc (suc j)))) h l = omega arith

edge_low : (c : Counts) (e j : ℕ) → e < c.edges → e < count_of c (kind_at Edge j)
edge_low c e j h = go (j % 3)
  where
    go : (r : ℕ) → e < count_of c (edge_kind r)
    go zero = h
    go (suc zero) = h
    go (suc (suc r)) = h

function_low : (c : Counts) (f j : ℕ) → f < c.functions → f < count_of c (kind_at Function j)
function_low c f j h = go (j % 3)
  where
    go : (r : ℕ) → f < count_of c (function_kind r)
    go zero = h
    go (suc zero) = h
    go (suc (suc r)) = h

-- so its number is
pub number_low : (c : Counts) (orders : Orders) → AllWithin c orders → (g : Group) (i : ℕ) → i < places_of c g → number_at orders g i < count_of c (kind_at g i)
number_low c orders o Node i h = node_low c (at orders.nodes (i / 8)) (7 - i % 8) (o.nodes_within (i / 8) (omega arith)) (omega arith)
number_low c orders o Edge i h = edge_low c (at orders.edges (i / 3)) i (o.edges_within (i / 3) (omega arith))
number_low c orders o Back i h = o.edges_within i h
number_low c orders o Function i h = function_low c (at orders.functions (i / 3)) i (o.functions_within (i / 3) (omega arith))

pub orders_within : (c : Counts) (orders : Orders) → AllOrdered c orders → AllWithin c orders
orders_within c orders o = record { functions_within = o.functions_all.within; nodes_within = o.nodes_all.within; edges_within = o.edges_all.within }

pub place_within : (g : Group) (lo hi q : ℕ) → lo + q < hi → place_at g lo hi q < hi
place_within Node lo hi q h = h
place_within Edge lo hi q h = h
place_within Back lo hi q h = omega arith
place_within Function lo hi q h = h

-- the places from lo to hi are all gone over
place_turn : (g : Group) (lo hi i : ℕ) → lo ≤ i → i < hi → (q : ℕ) × (q < hi - lo) × (place_at g lo hi q ≡ i)
place_turn Node lo hi i a b = (i - lo, omega arith, omega arith)
place_turn Edge lo hi i a b = (i - lo, omega arith, omega arith)
place_turn Back lo hi i a b = (hi - (i + 1), omega arith, omega arith)
place_turn Function lo hi i a b = (i - lo, omega arith, omega arith)

-- and every rule has its place
module _ (c : Counts) (orders : Orders) (o : AllOrdered c orders) where
  abbrev At : Kind → ℕ → Type 0
  At k j = (g : Group) × (i : ℕ) × (i < places_of c g) × (kind_at g i ≡ k) × (number_at orders g i ≡ j)

  node_place : (n j : ℕ) → n < c.nodes → j < 8 → At (node_kind j) (node_number n j)
  node_place n j h l =
      let p = o.nodes_all.all n h in
      let i = 8 * p.0 + (7 - j) in
      let a : i / 8 ≡ p.0 = omega arith in
      let b : 7 - i % 8 ≡ j = omega arith in
      (Node, i, omega (arith, p.1), ap node_kind b, ap₂ node_number (ap (at orders.nodes) a ∙ p.2) b)

  edge_place : (e j : ℕ) → e < c.edges → j < 3 → At (edge_kind j) e
  edge_place e j h l =
      let p = o.edges_all.all e h in
      let i = 3 * p.0 + j in
      let a : i / 3 ≡ p.0 = omega arith in
      let b : i % 3 ≡ j = omega arith in
      (Edge, i, omega (arith, p.1), ap edge_kind b, ap (at orders.edges) a ∙ p.2)

  function_place : (f j : ℕ) → f < c.functions → j < 3 → At (function_kind j) f
  function_place f j h l =
      let p = o.functions_all.all f h in
      let i = 3 * p.0 + j in
      let a : i / 3 ≡ p.0 = omega arith in
      let b : i % 3 ≡ j = omega arith in
      (Function, i, omega (arith, p.1), ap function_kind b, ap (at orders.functions) a ∙ p.2)

  rule_place : (k : Kind) (j : ℕ) → j < count_of c k → At k j
  rule_place Target j h =
      let e : 4 * (j / 4) + j % 4 ≡ j = omega arith in
      subst (At Target) e (node_place (j / 4) (suc (suc (suc (suc (j % 4))))) (omega arith) (omega arith))
  rule_place (Start After) n h = node_place n 3 h (omega arith)
  rule_place (Start Before) n h = node_place n 2 h (omega arith)
  rule_place (Start Through) n h = node_place n 1 h (omega arith)
  rule_place (Step After) e h = edge_place e 0 h (omega arith)
  rule_place (Step Before) e h = let p = o.edges_all.all e h in (Back, p.0, p.1, refl, p.2)
  rule_place (Step Through) e h = edge_place e 1 h (omega arith)
  rule_place (End After) f h = function_place f 0 h (omega arith)
  rule_place (End Before) f h = function_place f 1 h (omega arith)
  rule_place (End Through) f h = function_place f 2 h (omega arith)
  rule_place TotalNode n h = node_place n 0 h (omega arith)
  rule_place TotalEdge e h = edge_place e 2 h (omega arith)

-- ---- one word more

module _ (x : Source) (rules : List ℕ) (w : ℕ) where
  placed_kept : (g : Group) (i : ℕ) → Placed x rules g i → Placed x (rules ++ w ∷ []) g i
  placed_kept g i p on =
      let q = p on in
      (q.0, omega (arith, q.1, length-append rules (w ∷ [])), rw (get_or-append rules (w ∷ []) 0 q.0 q.1) q.2)

  module _ (k : Kind) (i : ℕ) (low : i < count_of x.known.now.program.of k) (on : on_in x k i ≡ true) (says : Says w (form_in x k i)) where
    listed_add : {p : Progress} → Listed x p rules → Listed x p (rules ++ w ∷ [])
    listed_add {p} d = record { each = λ j h. go j (omega (arith, h, length-append rules (w ∷ []))) (ℕ_discrete j (length rules)); all = λ g i h. placed_kept g i (d.all g i h) }
      where
        go : (j : ℕ) → j < length rules + 1 → Dec (j ≡ length rules) → (k : Kind) × (i : ℕ) × (i < count_of x.known.now.program.of k) × (on_in x k i ≡ true) × Says (at (rules ++ w ∷ []) j) (form_in x k i)
        go j h (yes e) = (k, i, low, on, rw (e, get_or-append_seam rules w [] 0) says)
        go j h (no e) =
            let l : j < length rules = omega (arith, e) in
            let q = d.each j l in
            (q.0, q.1, q.2, q.3, rw (get_or-append rules (w ∷ []) 0 j l) q.4)

  pub listing_add : {p : Progress} {g : Group} {lo hi q i : ℕ} → Listing x p g lo hi q rules → i ≡ place_at g lo hi q → i < places_of x.known.now.program.of g → WordFor x g i (Some w) → Listing x p g lo hi (q + 1) (rules ++ w ∷ [])
  listing_add {p} {g} {lo} {hi} {q} {i} d i-is low gives = record {
    listed = listed_add (kind_at g i) (number_at x.orders.now g i) (number_low x.known.now.program.of x.orders.now x.all_within g i low) gives.0 gives.1 d.listed;
    some = λ m h. go m h (ℕ_discrete m q);
  }
    where
      go : (m : ℕ) → m < q + 1 → Dec (m ≡ q) → Placed x (rules ++ w ∷ []) g (place_at g lo hi m)
      go m h (yes e) = rw (e, ← i-is) (λ on. (length rules, omega (arith, length-append rules (w ∷ [])), rw (get_or-append_seam rules w [] 0) gives.1))
      go m h (no e) = placed_kept g (place_at g lo hi m) (d.some m (omega (arith, e)))

module _ (x : Source) {rules : List ℕ} {p : Progress} {g : Group} {lo hi : ℕ} where
  pub listing_skip : {q i : ℕ} → Listing x p g lo hi q rules → i ≡ place_at g lo hi q → WordFor x g i None → Listing x p g lo hi (q + 1) rules
  listing_skip {q} {i} d i-is off = record { listed = d.listed; some = λ m h. go m h (ℕ_discrete m q) }
    where
      go : (m : ℕ) → m < q + 1 → Dec (m ≡ q) → Placed x rules g (place_at g lo hi m)
      go m h (yes e) = rw (e, ← i-is) (λ on. not_both _ on off)
      go m h (no e) = d.some m (omega (arith, e))

within_up_to : (p : Progress) (g : Group) (hi : ℕ) (h : Group) (i : ℕ) → i < done (up_to p g hi) h → (i < done p h) ⊎ ((h ≡ g) × (i < hi))
within_up_to p Node hi Node i l = inr (refl, l)
within_up_to p Node hi Edge i l = inl l
within_up_to p Node hi Back i l = inl l
within_up_to p Node hi Function i l = inl l
within_up_to p Edge hi Node i l = inl l
within_up_to p Edge hi Edge i l = inr (refl, l)
within_up_to p Edge hi Back i l = inl l
within_up_to p Edge hi Function i l = inl l
within_up_to p Back hi Node i l = inl l
within_up_to p Back hi Edge i l = inl l
within_up_to p Back hi Back i l = inr (refl, l)
within_up_to p Back hi Function i l = inl l
within_up_to p Function hi Node i l = inl l
within_up_to p Function hi Edge i l = inl l
within_up_to p Function hi Back i l = inl l
within_up_to p Function hi Function i l = inr (refl, l)

pub listing_last : (x : Source) {rules : List ℕ} {p : Progress} {g : Group} {lo hi q : ℕ} → Listing x p g lo hi q rules → done p g ≡ lo → hi - lo ≤ q → Listed x (up_to p g hi) rules
listing_last x {rules} {p} {g} {lo} {hi} {q} d e l = record { each = d.listed.each; all = λ h i b. go h i (within_up_to p g hi h i b) }
  where
    late : (i : ℕ) → i < hi → Dec (i < lo) → Placed x rules g i
    late i b (yes s) = d.listed.all g i (omega (arith, e))
    late i b (no s) =
        let t = place_turn g lo hi i (omega arith) b in
        subst (Placed x rules g) t.2 (d.some t.0 (omega (arith, t.1)))

    go : (h : Group) (i : ℕ) → (i < done p h) ⊎ ((h ≡ g) × (i < hi)) → Placed x rules h i
    go h i (inl b) = d.listed.all h i b
    go h i (inr b) = subst (λ (m : Group). Placed x rules m i) (sym b.0) (late i b.1 (dec_lt i lo))

-- nothing is listed at first
pub listed_none : (x : Source) {rules : List ℕ} → rules ≡ [] → Listed x (blocks 0 0 0) rules
listed_none x {rules} e = record { each = λ j h. absurd (omega (arith, ap length e)); all = λ g i h. none g i h }
  where
    none : (g : Group) (i : ℕ) → i < done (blocks 0 0 0) g → Placed x rules g i
    none Node i h = absurd (omega arith)
    none Edge i h = absurd (omega arith)
    none Back i h = absurd (omega arith)
    none Function i h = absurd (omega arith)

-- ---- the rules of the system

module _ (choice : List ℕ) (known : Known) where
  abbrev t : List ℕ
  t = known.program.table.now

  abbrev of : Counts
  of = known.program.of

  rule_at : (k : Kind) (i : ℕ) → i < count_of of k → on_at choice known k i ≡ true → (r : RuleOf (given choice known)) × (form_of r ≡ form_at t k i)
  rule_at Target i h b = (target_of (i / 4) (i % 4) (omega arith) (omega arith) b, refl)
  rule_at (Start s) n h b = (start s n (omega arith) b, refl)
  rule_at (Step s) e h b = (step_on s (edge_from t e) (edge_to t e) (edge_is t of known.program.ready e h) b, refl)
  rule_at (End s) f h b = (end s f (omega arith) b, refl)
  rule_at TotalNode n h b = (total_node n (omega arith), refl)
  rule_at TotalEdge e h b = (total_edge (edge_from t e) (edge_to t e) (edge_is t of known.program.ready e h), refl)

  rule_number : (r : RuleOf (given choice known)) → (k : Kind) × (i : ℕ) × (i < count_of of k) × (on_at choice known k i ≡ true) × (form_at t k i ≡ form_of r)
  rule_number (start s n h b) = (Start s, n, omega arith, b, refl)
  rule_number (step_on s p n e b) =
      let x = edge_which t p n e in
      (Step s, x.0, omega (arith, known.program.ready.counts_are.edges_are, x.1), ap₂ (steps (member known.synchronising) (member known.reached) s) x.2 x.3 ∙ b, ap₂ (step_form (program_of t) s) x.2 x.3)
  rule_number (end s f h b) = (End s, f, omega arith, b, refl)
  rule_number (total_node n h) = (TotalNode, n, omega arith, refl, refl)
  rule_number (total_edge p n e) =
      let x = edge_which t p n e in
      (TotalEdge, x.0, omega (arith, known.program.ready.counts_are.edges_are, x.1), refl, ap₂ (total_edge_form (program_of t)) x.2 x.3)
  rule_number (target_of n k h l b) =
      let i = 4 * n + k in
      let a : i / 4 ≡ n = omega arith in
      let c : i % 4 ≡ k = omega arith in
      (Target, i, omega arith, ap₂ (takes (program_of t) (at choice)) a c ∙ b, ap₂ (target_form (program_of t)) a c)

module _ (x : Source) (o : AllOrdered x.known.now.program.of x.orders.now) {rules : List ℕ} (d : Listed x (blocks x.known.now.program.of.nodes x.known.now.program.of.edges x.known.now.program.of.functions) rules) where
  all_done : (g : Group) (i : ℕ) → i < places_of x.known.now.program.of g → Placed x rules g i
  all_done Node i h = d.all Node i h
  all_done Edge i h = d.all Edge i h
  all_done Back i h = d.all Back i h
  all_done Function i h = d.all Function i h

  pub all_listed : Lists (given x.choice.now x.known.now) rules
  all_listed = record {
    each = λ j h. let q = d.each j h in let r = rule_at x.choice.now x.known.now q.0 q.1 q.2 q.3 in (r.0, rw r.1 q.4);
    all = λ r.
        let n = rule_number x.choice.now x.known.now r in
        let p = rule_place x.known.now.program.of x.orders.now o n.0 n.1 n.2 in
        let on : on_in x (kind_at p.0 p.1) (number_at x.orders.now p.0 p.1) ≡ true = ap₂ (on_in x) p.3 p.4 ∙ n.3 in
        let q = all_done p.0 p.1 p.2 on in
        (q.0, q.1, subst (Says (at rules q.0)) (ap₂ (form_in x) p.3 p.4 ∙ n.4) q.2);
  }
