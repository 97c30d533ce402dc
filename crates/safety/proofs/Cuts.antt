-- Cuts of open paths, by the sums of the nodes at their two sides.
use Prim.Native.Nat.{ℕ, ◌<◌}
use mathlib.Core.Path.{◌≡◌, sym, ◌∙◌}
use mathlib.Core.Bool.{Bool, true, false}
use native.Mathlib.Omega.{arith}
use Rattle.table.specs.Program.{Program}
use Rattle.table.specs.WellFormed.{WellFormed}
use Rattle.sync.specs.Paths.{Path, stop, step, Clear, Open}
use Rattle.size.specs.Size.{unbounded}
use Rattle.rules.specs.Sums.{Ahead, after_sum, before_sum, LargestAfter, LargestBefore}
use Rattle.safety.specs.Safety.{cut, CutsBounded}
use Rattle.safety.specs.Test.{EdgesBounded}

module _ (g : Program) (set : ℕ → Bool) where
  -- an open path is cut into a front with no member after its first node and a back with none before its last
  cut_clear : {a p n b : ℕ} (front : Path g a p) (e : g.edge p n ≡ true) (back : Path g n b) → Clear set (cut front e back) → Clear set front × Ahead set back × (set b ≡ false)
  cut_clear front e stop c = (c.0, tt, c.1)
  cut_clear front e (step back i) c =
      let h = cut_clear front e back c.0 in
      (h.0, (h.1, h.2), c.1)

  cut_open : {a p n b : ℕ} (front : Path g a p) (e : g.edge p n ≡ true) (back : Path g n b) → Open set (cut front e back) → Clear set front × Ahead set back
  cut_open front e stop c = (c, tt)
  cut_open front e (step back i) c =
      let h = cut_clear front e back c in
      (h.0, (h.1, h.2))

  -- and back
  clear_cut : {a p n b : ℕ} (front : Path g a p) (e : g.edge p n ≡ true) (back : Path g n b) → Clear set front → Ahead set back → set b ≡ false → Clear set (cut front e back)
  clear_cut front e stop c h f = (c, f)
  clear_cut front e (step back i) c h f = (clear_cut front e back c h.0 h.1, f)

  open_cut : {a p n b : ℕ} (front : Path g a p) (e : g.edge p n ≡ true) (back : Path g n b) → Clear set front → Ahead set back → Open set (cut front e back)
  open_cut front e stop c h = c
  open_cut front e (step back i) c h = clear_cut front e back c h.0 h.1

  module _ (w : WellFormed g) (sizes after before : ℕ → ℕ) (after_is : (n : ℕ) → n < g.nodes → LargestAfter g set sizes n (after n)) (before_is : (n : ℕ) → n < g.nodes → LargestBefore g set sizes n (before n)) where
    pub edges_cuts : EdgesBounded g after before → CutsBounded g set sizes
    edges_cuts h = record { bounded = λ front e back o x y. one front e back o x y }
      where
        one : {a p n b : ℕ} (front : Path g a p) (e : g.edge p n ≡ true) (back : Path g n b) → Open set (cut front e back) → after_sum sizes front ≡ unbounded → before_sum sizes back ≡ unbounded → ⊥
        one {p = p} {n = n} front e back o x y =
            let c = cut_open front e back o in
            let t = w.edge_together p n e in
            let A = after_is p t.from_exists in
            let B = before_is n t.to_exists in
            h.not_both p n e (omega (arith, A.bounds front c.0, A.attained.1.2)) (omega (arith, B.bounds back c.1, B.attained.1.2))

    pub cuts_edges : CutsBounded g set sizes → EdgesBounded g after before
    cuts_edges h = record { not_both = λ p n e x y. one p n e x y }
      where
        one : (p n : ℕ) → g.edge p n ≡ true → after p ≡ unbounded → before n ≡ unbounded → ⊥
        one p n e x y =
            let t = w.edge_together p n e in
            let A = (after_is p t.from_exists).attained in
            let B = (before_is n t.to_exists).attained in
            h.bounded A.1.0 e B.1.0 (open_cut A.1.0 e B.1.0 A.1.1 B.1.1) (sym A.1.2 ∙ x) (sym B.1.2 ∙ y)
