-- What the crates above may use of safety: smaller choices are safe too, unmerged everywhere is safe, and only the program counts.
use Prim.Native.Nat.{ℕ, ◌+◌, ◌*◌, ◌%◌, ◌<◌, ◌≤◌}
use mathlib.Core.Path.{◌≡◌, refl, subst, fun_ext}
use mathlib.Core.Bool.{Bool, true, cond}
use mathlib.Core.List.{List}
use native.Mathlib.Omega.{arith}
use native.Mathlib.Decide.{ℕ_discrete}
use lib.Dec.{eqb}
use borrow.Author.Tests.{eq-eqb}
use Rattle.table.specs.Program.{Program, program_of}
use Rattle.table.specs.WellFormed.{WellFormed}
use Rattle.table.specs.SameButEdges.{SameButEdges}
use Rattle.table.proofs.Laws.{same_program}
use Rattle.sync.specs.Paths.{Path, stop, step, Open}
use Rattle.sync.specs.Synchronising.{Synchronising}
use Rattle.sync.proofs.Laws.{synchronising_unique}
use Rattle.sync.proofs.Paths.{path_exists}
use Rattle.size.specs.Size.{unbounded}
use Rattle.rules.specs.Choice.{AtMost}
use Rattle.rules.specs.Rules.{through, of_node, sum, sum_after, sum_before, entries, Meets, Least, LeastSizes}
use Rattle.rules.specs.Sums.{after_sum, before_sum}
use Rattle.sizes.proofs.Laws.{least_alike, sizes_grow}
use Rattle.safety.specs.Safety.{GivesBack, cut, Safe}

module _ (g : Program) (w : WellFormed g) (s u : ℕ → ℕ) (le : (x : ℕ) → x < entries g → s x ≤ u x) where
  -- sums along a path grow with the sizes
  node_le : (k n : ℕ) → k ≤ through → n < g.nodes → of_node g s k n ≤ of_node g u k n
  node_le k n l h = le (4 * (g.functions + n) + k) (omega arith)

  start_exists : {a n : ℕ} → Path g a n → n < g.nodes → a < g.nodes
  start_exists stop h = h
  start_exists (step q e) h = start_exists q (w.edge_together _ _ e).from_exists

  after_le : {a n : ℕ} (q : Path g a n) → n < g.nodes → sum_after (of_node g s through) q ≤ sum_after (of_node g u through) q
  after_le stop h = omega arith
  after_le (step {n = n} q e) h = omega (arith, after_le q (w.edge_together _ _ e).from_exists, node_le through n (omega arith) h)

  all_le : {a n : ℕ} (q : Path g a n) → n < g.nodes → sum (of_node g s through) q ≤ sum (of_node g u through) q
  all_le (stop {n}) h = node_le through n (omega arith) h
  all_le (step {n = n} q e) h = omega (arith, all_le q (w.edge_together _ _ e).from_exists, node_le through n (omega arith) h)

  before_le : {a n : ℕ} (q : Path g a n) → sum_before (of_node g s through) q ≤ sum_before (of_node g u through) q
  before_le stop = omega arith
  before_le (step q e) = all_le q (w.edge_together _ _ e).from_exists

  pub front_le : {a n : ℕ} (q : Path g a n) → n < g.nodes → after_sum s q ≤ after_sum u q
  front_le {a} q h = omega (arith, after_le q h, node_le 1 a (omega arith) (start_exists q h))

  pub back_le : {n b : ℕ} (q : Path g n b) → n < g.nodes → before_sum s q ≤ before_sum u q
  back_le {n} {b} q h = omega (arith, before_le q, node_le 2 b (omega arith) (path_exists g w q h))

-- ---- smaller choices

module _ (g : Program) (w : WellFormed g) (c : ℕ → ℕ) where
  -- with the program's own set and the least sizes, which are the only ones
  safe_below : (set : ℕ → Bool) (s : ℕ → ℕ) → Synchronising g set → Least g set c s → (d : ℕ → ℕ) → AtMost g c d → Safe g d → Safe g c
  safe_below set s z l d b safe =
      let e = fun_ext (synchronising_unique g set z safe.set safe.set_is) in
      let m = subst (λ (v : ℕ → Bool). Least g v c s) e l in
      let le = sizes_grow g c d s safe.sizes b (safe.set, safe.set_is, m) (safe.set, safe.set_is, safe.sizes_are) in
      record {
        set = safe.set;
        set_is = safe.set_is;
        sizes = s;
        sizes_are = m;
        posts_zero = λ f h. omega (arith, safe.posts_zero f h, le (4 * f + 1) (post_exists f h));
        cuts_bounded = record { bounded = λ front e back o x y. one le front e back o x y };
      }
    where
      post_exists : (f : ℕ) → GivesBack g f → 4 * f + 1 < entries g
      post_exists f h = omega (arith, w.target_exists h.0 h.1, h.3)

      one : ((x : ℕ) → x < entries g → s x ≤ safe.sizes x) → {a p n b : ℕ} (front : Path g a p) (e : g.edge p n ≡ true) (back : Path g n b) → Open safe.set (cut front e back) → after_sum s front ≡ unbounded → before_sum s back ≡ unbounded → ⊥
      one le {p = p} {n = n} front e back o x y =
          let t = w.edge_together p n e in
          safe.cuts_bounded.bounded front e back o (omega (arith, front_le g w s safe.sizes le front t.from_exists)) (omega (arith, back_le g w s safe.sizes le back t.to_exists))

-- a choice at or below a safe one is safe
pub safe_smaller : (g : Program) → WellFormed g → (c d s : ℕ → ℕ) → LeastSizes g c s → AtMost g c d → Safe g d → Safe g c
safe_smaller g w c d s l b safe = safe_below g w c l.0 s l.1 l.2 d b safe

-- safety asks for the verdicts of the nodes there are, and for no more
pub safe_alike : (g : Program) (c d : ℕ → ℕ) → ((n : ℕ) → n < g.nodes → c n ≡ d n) → Safe g c → Safe g d
safe_alike g c d e safe = record {
  set = safe.set;
  set_is = safe.set_is;
  sizes = safe.sizes;
  sizes_are = least_alike g safe.set c d safe.sizes e safe.sizes_are;
  posts_zero = safe.posts_zero;
  cuts_bounded = safe.cuts_bounded;
}

-- safety depends on the program only: edges in another order, or repeated, give the same
pub safe_same : (t u : List ℕ) → SameButEdges t u → (c : ℕ → ℕ) → Safe (program_of t) c → Safe (program_of u) c
safe_same t u e c = subst (λ (g : Program). Safe g c) (same_program t u e)

-- ---- unmerged everywhere

-- no Post and no Through, and everything else unbounded
loose : ℕ → ℕ
loose x = cond (eqb (x % 2) 1) 0 unbounded

loose_odd : (x : ℕ) → x % 2 ≡ 1 → loose x ≡ 0
unfolding loose
loose_odd x e = rw (eq-eqb (x % 2) 1 e) refl

loose_even : (x : ℕ) → x % 2 ≡ 0 → loose x ≡ unbounded
unfolding loose
loose_even x e = rw e refl

loose_le : (x : ℕ) → loose x ≤ unbounded
loose_le x = go (ℕ_discrete (x % 2) 1)
  where
    go : Dec (x % 2 ≡ 1) → loose x ≤ unbounded
    go (yes e) = omega (arith, loose_odd x e)
    go (no e) = omega (arith, loose_even x (omega arith))

loose_same : (a b k : ℕ) → loose (4 * a + k) ≡ loose (4 * b + k)
unfolding loose
loose_same a b k = let e : (4 * a + k) % 2 ≡ (4 * b + k) % 2 = omega arith in rw e refl

module _ (g : Program) (c : ℕ → ℕ) (unmerged_is : (n : ℕ) → n < g.nodes → c n ≤ 1) where
  node_through : (n : ℕ) → of_node g loose through n ≡ 0
  node_through n = loose_odd (4 * (g.functions + n) + through) (omega arith)

  none_after : {a n : ℕ} (q : Path g a n) → sum_after (of_node g loose through) q ≡ 0
  none_after stop = refl
  none_after (step {n = n} q e) = omega (arith, none_after q, node_through n)

  none_at_all : {a n : ℕ} (q : Path g a n) → sum (of_node g loose through) q ≡ 0
  none_at_all (stop {n}) = node_through n
  none_at_all (step {n = n} q e) = omega (arith, none_at_all q, node_through n)

  loose_meets : (set : ℕ → Bool) → Meets g set c loose
  loose_meets set = record {
    sized = loose_le;
    total_node = λ n h. omega (arith, loose_even (4 * g.owner n + 0) (omega arith));
    total_path = λ {a} q e k. omega (arith, loose_even (4 * g.owner a + 0) (omega arith));
    post_path = λ f h {a} q o. omega (arith, loose_odd (4 * f + 1) (omega arith), loose_odd (4 * (g.functions + a) + 1) (omega arith), none_after q);
    pre_path = λ f h q o. omega (arith, loose_even (4 * f + 2) (omega arith));
    through_path = λ f h q o. omega (arith, none_at_all q);
    calls = λ n h e k l. omega (arith, loose_same (g.target n) (g.functions + n) k);
    merged = λ n h e m k l. absurd (omega (arith, unmerged_is n h));
    unguarded = λ n h e m k l. absurd (omega (arith, unmerged_is n h));
  }

  -- "Unmerged everywhere is always safe"
  pub unmerged_safe : WellFormed g → (s : ℕ → ℕ) → LeastSizes g c s → Safe g c
  unmerged_safe w s l =
      let le = l.2.least loose (loose_meets l.0) in
      record {
        set = l.0;
        set_is = l.1;
        sizes = s;
        sizes_are = l.2;
        posts_zero = λ f h. omega (arith, le (4 * f + 1) (omega (arith, w.target_exists h.0 h.1, h.3)), loose_odd (4 * f + 1) (omega arith));
        cuts_bounded = record { bounded = λ front e back o x y. one le front e x };
      }
    where
      one : ((x : ℕ) → x < entries g → s x ≤ loose x) → {a p n : ℕ} (front : Path g a p) → g.edge p n ≡ true → after_sum s front ≡ unbounded → ⊥
      one le {a} {p} {n} front e x =
          absurd (omega (arith, front_le g w s loose le front (w.edge_together p n e).from_exists, none_after front, loose_odd (4 * (g.functions + a) + 1) (omega arith)))
