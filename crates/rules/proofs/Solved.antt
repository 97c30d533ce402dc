-- A solution of the finite system is the least table of the rules, and its sums are those of open paths.
use Prim.Native.Nat.{ℕ, ◌+◌, ◌<◌, ◌≤◌}
use mathlib.Core.Path.{◌≡◌, refl, sym, ap, ◌∙◌, subst}
use mathlib.Core.Bool.{Bool, true, false, not}
use native.Mathlib.Omega.{arith}
use borrow.Author.Tests.{eq-eqb}
use Rattle.table.specs.Program.{Program}
use Rattle.table.specs.WellFormed.{WellFormed}
use Rattle.program.specs.Frame.{frame_of}
use Rattle.sync.specs.Paths.{Path, stop, step, Clear, Open}
use Rattle.sync.specs.Synchronising.{Synchronising, Reached}
use Rattle.sync.proofs.Paths.{path_owner, path_exists}
use Rattle.sync.proofs.Laws.{plain_open}
use Rattle.rules.proofs.Ahead.{open_ahead}
use Rattle.rules.proofs.Derived.{derived_has}
use Rattle.size.specs.Size.{cap, unbounded}
use Rattle.rules.specs.Rules.{total, post, pre, through, sum, sum_after, sum_before, Meets, Least}
use Rattle.rules.specs.System.{Entry, size, along, function_entry, node_entry, start, step_on, end, total_node, total_edge, target_of, Der, none, rule, Solved}
use Rattle.rules.specs.declared.sums.Sum.TheVariants.{After, Before, Through}
use Rattle.rules.proofs.Taking.{takes_call, takes_unguarded, takes_merged, taken_call, taken_spawn}
use Rattle.rules.specs.Sums.{Ahead, LargestAfter, LargestBefore}

module _ (g : Program) (set reached : ℕ → Bool) (choice : ℕ → ℕ) (w : WellFormed g) (s : Synchronising g set) (r : Reached g set reached) (v : Entry → ℕ) (x : Solved g set reached choice v) where
  der_le : {y : Entry} {t : ℕ} → Der g set reached choice y t → t ≤ unbounded
  der_le none = omega arith
  der_le (rule r v e d h) = omega arith

  sized : (y : Entry) → v y ≤ unbounded
  sized y = der_le (x.derived y)

  -- ---- the sums bound those of paths

  after_bounds : {a n : ℕ} (q : Path g a n) → a < g.nodes → Clear set q → cap (v (node_entry g post a) + sum_after (λ m. v (node_entry g through m)) q) ≤ v (along After n)
  after_bounds {a} stop h c = omega (arith, x.closed (start After a h refl))
  after_bounds (step {p = p} {n = n} q e) h c = omega (arith, after_bounds q h c.0, x.closed (step_on After p n e (ap not c.1)))

  sum_last : {a n : ℕ} (q : Path g a n) → sum (λ m. v (node_entry g through m)) q ≡ sum_before (λ m. v (node_entry g through m)) q + v (node_entry g through n)
  sum_last (stop {n}) = omega arith
  sum_last (step q e) = refl

  before_bounds : {a n : ℕ} (q : Path g a n) → Ahead set q → cap (sum_before (λ m. v (node_entry g through m)) q + v (along Before n)) ≤ v (along Before a)
  before_bounds (stop {n}) c = omega (arith, sized (along Before n))
  before_bounds (step {p = p} {n = n} q e) c = omega (arith, before_bounds q c.0, x.closed (step_on Before p n e (ap not c.1)), sum_last q)

  -- a clear path from the first node of f makes its end a reached one
  first_reached : (f : ℕ) → f < g.functions → {a n : ℕ} (q : Path g a n) → a ≡ g.first f → Clear set q → reached n ≡ true
  first_reached f h {a} {n} q e c =
      let own = w.first_own f h in
      let o : g.owner n ≡ f = sym (path_owner g w q) ∙ ap g.owner e ∙ own.owner_is in
      (r n).1 (
        path_exists g w q (subst (λ (m : ℕ). m < g.nodes) (sym e) own.exists),
        subst (λ (m : ℕ). (p : Path g m n) × Clear set p) (e ∙ ap g.first (sym o)) (q, c),
      )

  along_bounds : (f : ℕ) → f < g.functions → {a n : ℕ} (q : Path g a n) → a ≡ g.first f → Clear set q → cap (sum (λ m. v (node_entry g through m)) q) ≤ v (along Through n)
  along_bounds f h (stop {n}) e c =
      subst (λ (m : ℕ). cap (v (node_entry g through m)) ≤ v (along Through m)) (sym e) (omega (arith, x.closed (start Through (g.first f) (w.first_own f h).exists (eq-eqb _ _ (ap g.first (sym (w.first_own f h).owner_is))))))
  along_bounds f h (step {p = p} {n = n} q e) i c =
      omega (arith, along_bounds f h q i c.0, x.closed (step_on Through p n e (rw (c.1, first_reached f h q i c.0) refl)))

  -- ---- so the rules are met

  path_start : {a n : ℕ} → Path g a n → n < g.nodes → a < g.nodes
  path_start stop h = h
  path_start (step q e) h = path_start q (w.edge_together _ _ e).from_exists

  open_clear : {a n : ℕ} (q : Path g a n) → set n ≡ false → Open set q → Clear set q
  open_clear stop f o = tt
  open_clear (step q e) f o = (o, f)

  first_open : (f : ℕ) → f < g.functions → set (g.first f) ≡ false
  first_open f h = plain_open g set s (g.first f) (w.first_own f h).plain_is

  exit_open : (f : ℕ) → f < g.functions → set (g.exit f) ≡ false
  exit_open f h = plain_open g set s (g.exit f) (w.exit_own f h).plain_is

  solved_meets : Meets g set choice (λ y. v (size y))
  solved_meets = record {
    sized = λ y. sized (size y);
    total_node = λ n h. omega (arith, x.closed (total_node n h));
    total_path = λ q e c. total_path q e c;
    post_path = λ f h q o.
        omega
        (arith, after_bounds q (path_start q (w.exit_own f h).exists) (open_clear q (exit_open f h) o), x.closed (end After f h refl));
    pre_path = λ f h q o. pre_path f h q o;
    through_path = λ f h q o.
        let c = open_clear q (exit_open f h) o in
        omega (arith, along_bounds f h q refl c, x.closed (end Through f h (first_reached f h q refl c)));
    calls = λ n h e k l.
        omega
        (arith, x.closed (target_of n k h l (takes_call g choice n k e)), sized (function_entry k (g.target n)), ap (λ (j : ℕ). v (function_entry j (g.target n))) (taken_call g n k e));
    merged = λ n h e m k l.
        omega
        (arith, x.closed (target_of n k h (omega arith) (takes_merged g choice n k e m l)), ap (λ (j : ℕ). v (function_entry j (g.target n))) (taken_spawn g n k e));
    unguarded = λ n h e m k l.
        omega
        (arith, x.closed (target_of n k h l (takes_unguarded g choice n k e m)), ap (λ (j : ℕ). v (function_entry j (g.target n))) (taken_spawn g n k e));
  }
    where
      total_path : {a p n : ℕ} (q : Path g a p) (e : g.edge p n ≡ true) → Clear set q → cap (frame_of g (g.owner a) + v (node_entry g post a) + sum_after (λ m. v (node_entry g through m)) q + v (node_entry g pre n)) ≤ v (function_entry total (g.owner a))
      total_path {a} {p} {n} q e c =
          let t = w.edge_together p n e in
          let o : g.owner a ≡ g.owner n = path_owner g w q ∙ t.owner_same in
          omega
          (arith, after_bounds q (path_start q t.from_exists) c, x.closed (total_edge p n e), ap (frame_of g) o, ap (λ (f : ℕ). v (function_entry total f)) o)

      pre_path : (f : ℕ) → f < g.functions → {n : ℕ} (q : Path g (g.first f) n) → Open set q → cap (frame_of g f + sum_before (λ m. v (node_entry g through m)) q + v (node_entry g pre n)) ≤ v (function_entry pre f)
      pre_path f h {n} q o =
          omega (
            arith,
            before_bounds q (open_ahead g set q (first_open f h) o),
            x.closed (start Before n (path_exists g w q (w.first_own f h).exists) refl),
            x.closed (end Before f h refl),
          )

  -- ---- and nothing less meets them

  pub solved_least : Least g set choice (λ y. v (size y))
  solved_least = record {
    meets = solved_meets;
    least = λ m k y h. derived_has g set reached choice w r m k (x.derived (size y));
  }

  -- ---- the sums are those of paths

  pub solved_after : (n : ℕ) → n < g.nodes → LargestAfter g set (λ y. v (size y)) n (v (along After n))
  solved_after n h =
      let q = derived_has g set reached choice w r (λ y. v (size y)) solved_meets (x.derived (along After n)) h in
      record {
        bounds = λ q c. after_bounds q (path_start q h) c;
        attained = (q.0, (q.1.0, q.1.1, omega (arith, q.1.2, after_bounds q.1.0 (path_start q.1.0 h) q.1.1)));
      }

  pub solved_before : (n : ℕ) → n < g.nodes → LargestBefore g set (λ y. v (size y)) n (v (along Before n))
  solved_before n h =
      let q = derived_has g set reached choice w r (λ y. v (size y)) solved_meets (x.derived (along Before n)) h in
      record {
        bounds = λ q c. bounded q c;
        attained = (q.0, (q.1.0, q.1.1, omega (arith, q.1.2, bounded q.1.0 q.1.1)));
      }
    where
      bounded : {b : ℕ} (q : Path g n b) → Ahead set q → cap (sum_before (λ m. v (node_entry g through m)) q + v (node_entry g pre b)) ≤ v (along Before n)
      bounded {b} q c = omega (arith, before_bounds q c, x.closed (start Before b (path_exists g w q h) refl))
