-- One spawn more on a walk: what becomes of its verdict.
use Rattle.std.proofs.Common.{◌≡◌, ℕ, suc, ◌+◌, ◌-◌, ◌<◌, ◌≤◌, Bool, true, false, cond, ◌⊎◌, List, length, set, sym, refl, ap, ◌∙◌, inl, inr, ⊎_elim, eq-or-lt_of_le, arith, get_or-set_other, length-set, get_or-set_same, eq-eqb, ne_eqb, eqb, eqb-true}
use Rattle.std.proofs.lemmas.Bool.{eqb-false}
use native.Mathlib.Decide.{ℕ_discrete}
use Rattle.table.specs.Record.{spawn}
use Rattle.table.specs.Program.{Program}
use Rattle.table.proofs.Laws.{well_formed}
use Rattle.size.specs.Numbers.{at, Written}
use Rattle.rules.specs.Choice.{AtMost, guarded}
use Rattle.sizes.specs.Call.{choice_of}
use Rattle.sizes.specs.Trials.{known_program, PreparedFor, StartsFor, Holds}
use Rattle.sizes.specs.declared.trials.Prepared.{Prepared}
use Rattle.sizes.proofs.Trying.{holds_start, holds_least}
use Rattle.safety.specs.Safety.{Safe}
use Rattle.safety.specs.Trial.{Tried, adopted, rejected}
use Rattle.safety.proofs.Laws.{unmerged_safe}
use Rattle.preference.specs.Preference.{InOrder}
use Rattle.search.specs.declared.verdict.Verdict.{Verdict}
use Rattle.search.specs.Verdict.{level}
use Rattle.search.specs.Walk.{Unmerged, raised_to, Walked, Merged, OthersZero}
use Rattle.search.proofs.Laws.{nothing_merged}

-- the last of the first i + 1, or one before it
last_or_before : (j i : ℕ) → j < i + 1 → (j ≡ i) ⊎ (j < i)
last_or_before j i h = eq-or-lt_of_le (omega arith)

module _ (g : Program) (k : ℕ) (order from : ℕ → ℕ) where
  -- What the walk did to n: nothing, or it gave it k.
  abbrev Moved : ℕ → (ℕ → ℕ) → ℕ → Type 0
  Moved i to n = (to n ≡ from n) ⊎ ((suc (from n) ≡ k) × (to n ≡ k) × ((j : ℕ) × (j < i) × (order j ≡ n)))

  moved_on : (i : ℕ) (to : ℕ → ℕ) (n : ℕ) → Moved i to n → Moved (i + 1) to n
  moved_on i to n (inl e) = inl e
  moved_on i to n (inr (a, b, (j, h, e))) = inr (a, b, (j, omega arith, e))

  -- the next spawn has another verdict than k - 1: it stays
  pub walked_past : (i : ℕ) (to : ℕ → ℕ) → order i < g.nodes → Walked g k i order from to → (suc (to (order i)) ≡ k → ⊥) → Walked g k (i + 1) order from to
  walked_past i to x w other = record {
    safe = w.safe;
    moved = λ n h. moved_on i to n (w.moved n h);
    blocked = λ j h a l d s b q r. ⊎_elim (λ (e : j ≡ i). here j e a l (w.moved (order i) x)) (λ (m : j < i). w.blocked j m a l d s b q r) (last_or_before j i h);
  }
    where
      here : (j : ℕ) → j ≡ i → suc (from (order j)) ≡ k → to (order j) < k → Moved i to (order i) → ⊥
      here j e a l (inl f) = other (omega (arith, f, ap (λ (z : ℕ). from (order z)) e))
      here j e a l (inr (u, v, m)) = absurd (omega (arith, v, ap (λ (z : ℕ). to (order z)) e))

  module _ (i : ℕ) (to : ℕ → ℕ) (x : order i < g.nodes) (w : Walked g k i order from to) (next : suc (to (order i)) ≡ k) where
    had : Moved i to (order i) → suc (from (order i)) ≡ k
    had (inl e) = omega arith
    had (inr (a, b, m)) = a

    module _ (up : ℕ → ℕ) (here : up (order i) ≡ k) (others : (n : ℕ) → (n ≡ order i → ⊥) → up n ≡ to n) where
      grows : (n : ℕ) → to n ≤ up n
      grows n = go (ℕ_discrete n (order i))
        where
          go : Dec (n ≡ order i) → to n ≤ up n
          go (yes e) = omega (arith, ap to e, ap up e)
          go (no e) = omega (arith, others n e)

      -- it gets k, and the choice is safe
      pub walked_raised : Safe g up → Walked g k (i + 1) order from up
      walked_raised s = record {
        safe = s;
        moved = λ n h. change n h (ℕ_discrete n (order i)) (w.moved n h);
        blocked = λ j h a l d t b q r. ⊎_elim (λ (e : j ≡ i). absurd (omega (arith, ap (λ (z : ℕ). up (order z)) e))) (λ (m : j < i). still j m a l d t b q r) (last_or_before j i h);
      }
        where
          change : (n : ℕ) → n < g.nodes → Dec (n ≡ order i) → Moved i to n → Moved (i + 1) up n
          change n h (yes e) m = inr (ap (λ (z : ℕ). suc (from z)) e ∙ had (w.moved (order i) x), ap up e ∙ here, (i, omega arith, sym e))
          change n h (no e) (inl f) = inl (others n e ∙ f)
          change n h (no e) (inr (a, b, (j, l, f))) = inr (a, others n e ∙ b, (j, omega arith, f))

          still : (j : ℕ) → j < i → suc (from (order j)) ≡ k → up (order j) < k → (d : ℕ → ℕ) → Safe g d → ((n : ℕ) → n < g.nodes → from n ≤ d n) → ((l : ℕ) → l < j → k ≤ up (order l) → k ≤ d (order l)) → k ≤ d (order j) → ⊥
          still j m a l d t b q r = w.blocked j m a (omega (arith, grows (order j))) d t b (λ z h y. q z h (omega (arith, grows (order z)))) r

      -- with it the choice would not be safe: it stays, and no safe choice that goes on from here gives it k
      pub walked_kept : ((d : ℕ → ℕ) → AtMost g up d → Safe g d → ⊥) → Walked g k (i + 1) order from to
      walked_kept none = record {
        safe = w.safe;
        moved = λ n h. moved_on i to n (w.moved n h);
        blocked = λ j h a z d t b q r. ⊎_elim (λ (e : j ≡ i). none d (below d b j e q r) t) (λ (m : j < i). w.blocked j m a z d t b q r) (last_or_before j i h);
      }
        where
          below : (d : ℕ → ℕ) → ((n : ℕ) → n < g.nodes → from n ≤ d n) → (j : ℕ) → j ≡ i → ((l : ℕ) → l < j → k ≤ to (order l) → k ≤ d (order l)) → k ≤ d (order j) → (n : ℕ) → n < g.nodes → up n ≤ d n
          below d b j e q r n h = go (ℕ_discrete n (order i)) (w.moved n h)
            where
              go : Dec (n ≡ order i) → Moved i to n → up n ≤ d n
              go (yes p) m = omega (arith, ap up p, ap d p, ap (λ (z : ℕ). d (order z)) e)
              go (no p) (inl v) = omega (arith, others n p, b n h)
              go (no p) (inr (u, v, (z, y, o))) = omega (arith, others n p, q z (omega arith) (omega (arith, ap to o)), ap d o)

-- ---- trials

few : (p : Prepared) → (known_program p.known).nodes ≤ 512
few p =
    let q = p.known.program in
    omega (arith, q.nodes_are, q.few_nodes)

module _ {p : Prepared} where
  -- the sizes there are serve for a choice with one verdict raised,
  pub starts_one : (old : List ℕ) {s : List ℕ} (n k : ℕ) → n < length old → choice_of old n ≤ k → Holds p (choice_of old) s → StartsFor p (choice_of (set old n k)) s
  starts_one old n k h l z = holds_start (λ m b. go m (ℕ_discrete m n)) z
    where
      go : (m : ℕ) → Dec (m ≡ n) → choice_of old m ≤ choice_of (set old n k) m
      go m (yes e) = omega (arith, ap (choice_of old) e, ap (choice_of (set old n k)) e, get_or-set_same old n k 0 h)
      go m (no e) = omega (arith, get_or-set_other old n m k 0 e)

  -- and with all raised that wait
  pub starts_all : (old : List ℕ) {first new s : List ℕ} (k : ℕ) → 1 ≤ k → Written (known_program p.known).nodes (λ n. raised_to k (choice_of old n)) first new → Holds p (choice_of old) s → StartsFor p (choice_of new) s
  starts_all old {first} {new} k h w z = holds_start (λ n b. go n b (ℕ_discrete (choice_of old n) (k - 1))) z
    where
      go : (n : ℕ) → n < (known_program p.known).nodes → Dec (choice_of old n ≡ k - 1) → choice_of old n ≤ choice_of new n
      go n b (yes q) =
          let r : raised_to k (choice_of old n) ≡ k = rw (eq-eqb (choice_of old n) (k - 1) q) refl in
          omega (arith, w.written n b, r)
      go n b (no q) =
          let r : raised_to k (choice_of old n) ≡ choice_of old n = rw (ne_eqb (choice_of old n) (k - 1) q) refl in
          omega (arith, w.written n b, r)

  -- whether a trial is adopted or not, the numbers are the sizes of the choice that there is then
  pub tried_holds : (old choice : List ℕ) {new s t : List ℕ} {r : Bool} → Tried p (choice_of choice) s t r → new ≡ cond r choice old → Holds p (choice_of old) s → Holds p (choice_of new) t
  tried_holds old choice (adopted y x z) e h = rw (e, y) z
  tried_holds old choice (rejected y x q) e h = rw (e, y, q) h

  -- one that is adopted leaves the choice that was tried
  pub tried_taken : (old choice : List ℕ) {new s t : List ℕ} {r : Bool} → Tried p (choice_of choice) s t r → new ≡ cond r choice old → r ≡ true → (new ≡ choice) × Safe (known_program p.known) (choice_of new) × Holds p (choice_of new) t
  tried_taken old choice (adopted y x z) e h = rw (e, y) (refl, x, z)
  tried_taken old choice (rejected y x q) e h = cc

-- ---- the walk comes to the next node of the order, among the spawns that the code goes over

level_positive : (v : Verdict) → 1 ≤ level v
level_positive v = grind arith

module _ (p : Prepared) (spawns : List ℕ) (o : InOrder (known_program p.known) (length spawns) (at spawns)) (old : List ℕ) (fits : length old ≡ 512) (v : Verdict) (i : ℕ) (l : i < length spawns) where
  exists : at spawns i < (known_program p.known).nodes
  exists = (o.spawns i l).exists

  -- it waits for the verdict: a trial is due,
  module _ {s : List ℕ} {x : ℕ} (byte : x ≡ level v) (is_next : eqb (choice_of old (at spawns i)) (level v - 1) ≡ true) (holds : Holds p (choice_of old) s) where
    next : suc (choice_of old (at spawns i)) ≡ level v
    next = omega (arith, eqb-true _ _ is_next, level_positive v)

    place : at spawns i < length old
    place = omega (arith, exists, few p)

    pub next_starts : StartsFor p (choice_of (set old (at spawns i) x)) s
    next_starts = rw byte (starts_one old (at spawns i) (level v) place (omega (arith, next)) holds)

    -- and it takes the walk one spawn further
    pub next_tried : {from : ℕ → ℕ} → Walked (known_program p.known) (level v) i (at spawns) from (choice_of old) → {new t : List ℕ} {r : Bool} → Tried p (choice_of (set old (at spawns i) x)) s t r → new ≡ cond r (set old (at spawns i) x) old → Walked (known_program p.known) (level v) (i + 1) (at spawns) from (choice_of new) × Holds p (choice_of new) t × (length new ≡ 512)
    next_tried {from} w {new} {t} {r} tried taken = (go (rw byte at tried) (rw byte at taken), tried_holds old _ tried taken holds, rw taken (lengths r))
      where
        g : Program
        g = known_program p.known

        up : List ℕ
        up = set old (at spawns i) (level v)

        others : (m : ℕ) → (m ≡ at spawns i → ⊥) → choice_of up m ≡ choice_of old m
        others m d = get_or-set_other old (at spawns i) m (level v) 0 d

        go : Tried p (choice_of up) s t r → new ≡ cond r up old → Walked g (level v) (i + 1) (at spawns) from (choice_of new)
        go (adopted y safe z) q = rw (q, y) (walked_raised g (level v) (at spawns) from i (choice_of old) exists w next (choice_of up) (get_or-set_same old (at spawns i) (level v) 0 place) others safe)
        go (rejected y none z) q = rw (q, y) (walked_kept g (level v) (at spawns) from i (choice_of old) exists w next (choice_of up) (get_or-set_same old (at spawns i) (level v) 0 place) others none)

        lengths : (b : Bool) → length (cond b (set old (at spawns i) x) old) ≡ 512
        lengths true = length-set old (at spawns i) x ∙ fits
        lengths false = fits

  -- it does not: it stays
  pub next_past : eqb (choice_of old (at spawns i)) (level v - 1) ≡ false → {from : ℕ → ℕ} → Walked (known_program p.known) (level v) i (at spawns) from (choice_of old) → Walked (known_program p.known) (level v) (i + 1) (at spawns) from (choice_of old)
  next_past d {from} w = walked_past (known_program p.known) (level v) (at spawns) from i (choice_of old) exists w (λ q. eqb-false _ _ d (omega arith))

-- unmerged everywhere is safe, since it has sizes
pub unmerged_start : {p : Prepared} {c : ℕ → ℕ} {s : List ℕ} → PreparedFor p → Unmerged (known_program p.known) c → Holds p c s → Safe (known_program p.known) c
unmerged_start {p} {c} q u h = unmerged_safe (known_program p.known) c (nothing_merged (known_program p.known) c u) (well_formed p.known.program.table.now p.known.program.ready.accepted_is) _ (holds_least q h)

-- the first walk gives only spawns a verdict
pub merged_others : {g : Program} {count : ℕ} {order to : ℕ → ℕ} → InOrder g count order → Merged g count order to → OthersZero g to
merged_others {g} {count} {order} {to} o m n h other = go (m.walked.moved n h)
  where
    go : Moved g guarded order m.start count to n → to n ≡ 0
    go (inl e) = e ∙ m.unmerged_is.others n h other
    go (inr (a, b, (j, l, e))) = absurd (other (ap g.sort (sym e) ∙ (o.spawns j l).spawns))

-- all that waited were raised at once, and each of them is a spawn, since it had a verdict
module _ {g : Program} {count : ℕ} {order : ℕ → ℕ} (o : InOrder g count order) (k : ℕ) (above : 2 ≤ k) (old : List ℕ) {first new : List ℕ} (w : Written g.nodes (λ n. raised_to k (choice_of old n)) first new) (others : OthersZero g (choice_of old)) where
  pub walked_at_once : Safe g (choice_of new) → Walked g k count order (choice_of old) (choice_of new)
  walked_at_once safe = record {
    safe = safe;
    moved = λ n h. moved n h (ℕ_discrete (choice_of old n) (k - 1));
    blocked = λ j l a b. let e = waited (order j) (o.spawns j l).exists (omega (arith, a)) in absurd (omega (arith, b, e));
  }
    where
      waited : (n : ℕ) → n < g.nodes → choice_of old n ≡ k - 1 → choice_of new n ≡ k
      waited n h q = w.written n h ∙ rw (eq-eqb (choice_of old n) (k - 1) q) refl

      placed : (n : ℕ) → n < g.nodes → choice_of old n ≡ k - 1 → Dec (g.sort n ≡ spawn) → (j : ℕ) × (j < count) × (order j ≡ n)
      placed n h q (yes e) = o.all n (record { exists = h; spawns = e })
      placed n h q (no d) = absurd (omega (arith, others n h d))

      moved : (n : ℕ) → n < g.nodes → Dec (choice_of old n ≡ k - 1) → Moved g k order (choice_of old) count (choice_of new) n
      moved n h (yes q) = inr (omega arith, waited n h q, placed n h q (ℕ_discrete (g.sort n) spawn))
      moved n h (no q) = inl (w.written n h ∙ rw (ne_eqb (choice_of old n) (k - 1) q) refl)
