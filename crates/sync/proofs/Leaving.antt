-- A search along edges finds just the nodes that paths lead to.
use Prim.Native.Nat.{ℕ, ◌+◌, ◌<◌, ◌≤◌}
use mathlib.Core.Path.{◌≡◌, sym, subst}
use mathlib.Core.List.{List}
use mathlib.Core.Bool.{Bool, true, false}
use mathlib.Core.Logic.{◌↔◌}
use native.Mathlib.Omega.{arith}
use lib.ListN.{length}
use borrow.Author.Count.{below_more}
use borrow.Author.Tests.{eqb-true, eq-eqb}
use Rattle.std.specs.Prelude.{Option, None, Some}
use Rattle.table.specs.Answer.{Ready}
use Rattle.table.specs.Program.{Program, program_of}
use Rattle.table.specs.Record.{edge_from, edge_to}
use Rattle.table.specs.declared.Counts.{Counts}
use Rattle.table.proofs.Laws.{edge_which}
use Rattle.table.proofs.Ready.{edge_is}
use Rattle.links.specs.Links.{latest, left, Walk}
use Rattle.links.proofs.Walks.{walk_starts, walk_item, walk_falls, walk_goes_on, walk_ends}
use Rattle.sync.specs.declared.found.Found.{Found}
use Rattle.sync.specs.Paths.{Path, stop, step, Clear}
use Rattle.sync.specs.Pass.{Through}
use Rattle.sync.specs.Search.{edge_of, Finds, Keeps, Offered, Leaves, node_at}
use Rattle.sync.specs.Words.{member}
use Rattle.sync.proofs.Offering.{keeps_same, keeps_both}

-- ---- a node is left along its edges

module _ (t : List ℕ) (c : Counts) (r : Ready t c) (avoid : ℕ → Bool) (a : ℕ) where
  -- a walk along its edges that has come to `next` has offered the nodes that those lead to that it has passed
  pub record Leaving (old new : Found) (next : Option ℕ) : Type 0 where
    pub walk : Walk (edge_of t a) c.edges (λ e. avoid (edge_to t e) ≡ false → member new.set (edge_to t e) ≡ true) next
    pub keeps : Keeps old new
    pub finds : (s : ℕ) → Finds (program_of t) avoid s old → Through (program_of t) avoid s a → Finds (program_of t) avoid s new

  pub leaving_starts : (f : Found) (next : Option ℕ) → next ≡ latest (edge_of t a) c.edges → Leaving f f next
  leaving_starts f next e = record {
    walk = walk_starts (edge_of t a) c.edges _ next e;
    keeps = keeps_same f;
    finds = λ s q p. q;
  }

  -- the edge that the walk has come to
  module _ (old new : Found) (at : Option ℕ) (l : Leaving old new at) (e : ℕ) (is : at ≡ Some e) where
    pub item : (e < c.edges) × (edge_of t a e ≡ true)
    item = walk_item (edge_of t a) c.edges _ at l.walk e is

    leads : (program_of t).edge a (edge_to t e) ≡ true
    leads = subst (λ (b : ℕ). (program_of t).edge b (edge_to t e) ≡ true) (sym (eqb-true a (edge_from t e) item.1)) (edge_is t c r e item.0)

    pub leaving_falls : (next : Option ℕ) → next ≡ latest (edge_of t a) e → left next < left at
    leaving_falls next g = walk_falls (edge_of t a) c.edges _ at l.walk e is next g

    pub leaving_more : (new' : Found) (next : Option ℕ) → next ≡ latest (edge_of t a) e → Offered avoid (edge_to t e) new new' → Leaving old new' next
    leaving_more new' next g o = record {
      walk = walk_goes_on (edge_of t a) c.edges _ at l.walk e is _ next g (λ i h k. o.keeps.members (edge_to t i) (h k)) o.found;
      keeps = keeps_both old new new' l.keeps o.keeps;
      finds = λ s q p. o.finds (program_of t) s (l.finds s q p) (λ k. (step p.0 leads, (p.1, k)));
    }

  pub leaving_ends : (old new : Found) (at : Option ℕ) → Leaving old new at → at ≡ None → Leaves (program_of t) avoid a old new
  leaving_ends old new at l is = record {
    keeps = l.keeps;
    finds = l.finds;
    found = λ b h k.
        let x = edge_which t a b h in
        subst (λ (m : ℕ). member new.set m ≡ true) x.3
        (walk_ends (edge_of t a) c.edges _ at l.walk is x.0
        (omega (arith, x.1, r.counts_are.edges_are))
        (eq-eqb a (edge_from t x.0) (sym x.2))
        (subst (λ (m : ℕ). avoid m ≡ false) (sym x.3) k));
  }

-- ---- all nodes found are left

module _ (g : Program) (avoid : ℕ → Bool) (s : ℕ) where
  -- the nodes before place k are left
  pub record Left (k : ℕ) (f : Found) : Type 0 where
    pub finds : Finds g avoid s f
    pub left : (i : ℕ) → i < k → (b : ℕ) → g.edge (node_at f i) b ≡ true → avoid b ≡ false → member f.set b ≡ true
    pub within : k ≤ length f.nodes.items

  pub left_none : (f : Found) → Finds g avoid s f → Left 0 f
  left_none f q = record { finds = q; left = λ i h. absurd (omega arith); within = omega arith }

  pub left_more : (k : ℕ) (f f' : Found) → Left k f → k < length f.nodes.items → Leaves g avoid (node_at f k) f f' → Left (k + 1) f'
  left_more k f f' q l p = record {
    finds = p.finds s q.finds (q.finds.sound k l);
    left = below_more Gone k before here;
    within = omega (arith, l, p.keeps.longer);
  }
    where
      Gone : ℕ → Type 0
      Gone i = (b : ℕ) → g.edge (node_at f' i) b ≡ true → avoid b ≡ false → member f'.set b ≡ true

      before : (i : ℕ) → i < k → Gone i
      before i h b e c = p.keeps.members b (q.left i h b (subst (λ (m : ℕ). g.edge m b ≡ true) (p.keeps.stays i (omega (arith, h, l))) e) c)

      here : Gone k
      here b e c = p.found b (subst (λ (m : ℕ). g.edge m b ≡ true) (p.keeps.stays k l) e) c

  pub left_all : (k : ℕ) (f : Found) → Left k f → length f.nodes.items ≤ k → (n : ℕ) → (member f.set n ≡ true) ↔ Through g avoid s n
  left_all k f q l n = (found, λ p. reached p.0 p.1)
    where
      found : member f.set n ≡ true → Through g avoid s n
      found h = let x = q.finds.places n h in subst (λ (m : ℕ). Through g avoid s m) x.2 (q.finds.sound x.0 x.1)

      reached : {m : ℕ} (p : Path g s m) → Clear avoid p → member f.set m ≡ true
      reached stop c = q.finds.starts
      reached (step {p = a} {n = m} p e) c =
          let x = q.finds.places a (reached p c.0) in
          q.left x.0 (omega (arith, x.1, l)) m (subst (λ (b : ℕ). g.edge b m ≡ true) (sym x.2) e) c.1
