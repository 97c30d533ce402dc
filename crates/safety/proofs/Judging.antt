-- From the two tests to safety, and back.
use Prim.Native.Nat.{ℕ, ◌+◌, ◌*◌, ◌<◌, ◌≤◌}
use mathlib.Core.Path.{◌≡◌, refl, sym, ap, ◌∙◌, subst, fun_ext}
use mathlib.Core.Bool.{Bool, true}
use mathlib.Core.List.{map}
use native.Mathlib.Omega.{arith}
use Rattle.table.specs.Program.{Program}
use Rattle.table.specs.WellFormed.{WellFormed}
use Rattle.table.proofs.Laws.{well_formed}
use Rattle.sync.specs.Words.{member}
use Rattle.size.specs.Numbers.{at}
use Rattle.sync.specs.Found.{Looked}
use Rattle.sync.specs.declared.Known.{Known}
use Rattle.size.specs.Size.{value_of}
use Rattle.solver.specs.declared.solution.Solution.{Solution}
use Rattle.sizes.specs.Trials.{known_program, FoundFor}
use Rattle.sync.specs.Paths.{Path, Open}
use Rattle.sync.specs.Synchronising.{Synchronising}
use Rattle.sync.proofs.Laws.{synchronising_unique}
use Rattle.size.specs.Size.{unbounded}
use Rattle.rules.specs.Choice.{AtMost}
use Rattle.rules.specs.Rules.{entries, LeastSizes}
use Rattle.rules.specs.Sums.{after_sum, before_sum}
use Rattle.sizes.specs.Answer.{SizesOf}
use Rattle.sizes.proofs.Laws.{sizes_unique}
use Rattle.safety.specs.Safety.{cut, Safe}
use Rattle.safety.specs.Test.{PostsBelow, EdgesBounded, Tells}
use Rattle.safety.proofs.Cuts.{edges_cuts, cuts_edges}
use Rattle.safety.proofs.Laws.{front_le, back_le, safe_smaller}

-- the tests may look at other numbers, if they are the sizes of all functions
tells_same : (g : Program) → WellFormed g → (s u : ℕ → ℕ) → ((x : ℕ) → x < entries g → u x ≡ s x) → {r : Bool} {E : Type 0} → Tells r (PostsBelow g u g.nodes × E) → Tells r (PostsBelow g s g.nodes × E)
tells_same g w s u e t = record {
  yes_if = λ q. let h = t.yes_if q in (record { zero_below = λ m l x. sym (same m l) ∙ h.0.zero_below m l x }, h.1);
  only_if = λ h. t.only_if (record { zero_below = λ m l x. same m l ∙ h.0.zero_below m l x }, h.1);
}
  where
    same : (m : ℕ) → m < g.nodes → u (4 * g.target m + 1) ≡ s (4 * g.target m + 1)
    same m l = e (4 * g.target m + 1) (omega (arith, w.target_exists m l))

module _ (g : Program) (w : WellFormed g) (set : ℕ → Bool) (set_is : Synchronising g set) (c s after before : ℕ → ℕ) (x : SizesOf g set c s after before) where
  pub safe_from : PostsBelow g s g.nodes → EdgesBounded g after before → Safe g c
  safe_from p b = record {
    set = set;
    set_is = set_is;
    sizes = s;
    sizes_are = x.least;
    posts_zero = λ f h. ap (λ (i : ℕ). s (4 * i + 1)) h.3 ∙ p.zero_below h.0 h.1 h.2;
    cuts_bounded = edges_cuts g set w s after before x.after_is x.before_is b;
  }

  module _ (safe : Safe g c) where
    set_same : safe.set ≡ set
    set_same = fun_ext (synchronising_unique g safe.set safe.set_is set set_is)

    same : (i : ℕ) → i < entries g → s i ≡ safe.sizes i
    same = sizes_unique g c s safe.sizes (set, set_is, x.least) (safe.set, safe.set_is, safe.sizes_are)

    pub safe_posts : PostsBelow g s g.nodes
    safe_posts = record {
      zero_below = λ n h e. same (4 * g.target n + 1) (omega (arith, w.target_exists n h)) ∙ safe.posts_zero (g.target n) (n, h, e, λ i. g.target n);
    }

    pub safe_edges : EdgesBounded g after before
    safe_edges = cuts_edges g set w s after before x.after_is x.before_is (record { bounded = λ front e back o u v. one front e back o u v })
      where
        le : (i : ℕ) → i < entries g → s i ≤ safe.sizes i
        le i h = omega (arith, same i h)

        one : {a p n b : ℕ} (front : Path g a p) (e : g.edge p n ≡ true) (back : Path g n b) → Open set (cut front e back) → after_sum s front ≡ unbounded → before_sum s back ≡ unbounded → ⊥
        one {p = p} {n = n} front e back o u v =
            let t = w.edge_together p n e in
            safe.cuts_bounded.bounded front e back (subst (λ (z : ℕ → Bool). Open z (cut front e back)) (sym set_same) o)
            (omega (arith, front_le g w s safe.sizes le front t.from_exists))
            (omega (arith, back_le g w s safe.sizes le back t.to_exists))

  -- so the tests tell whether the choice is safe
  pub tells_safe : (nodes : ℕ) {r : Bool} → nodes ≡ g.nodes → Tells r (PostsBelow g s nodes × EdgesBounded g after before) → Tells r (Safe g c)
  tells_safe nodes e t = record {
    yes_if = λ q. let h = t.yes_if q in safe_from (subst (PostsBelow g s) e h.0) h.1;
    only_if = λ safe. t.only_if (subst (PostsBelow g s) (sym e) (safe_posts safe), safe_edges safe);
  }

  pub tells_written : (nodes : ℕ) {r : Bool} → nodes ≡ g.nodes → (u : ℕ → ℕ) → ((y : ℕ) → y < entries g → u y ≡ s y) → Tells r (PostsBelow g u nodes × EdgesBounded g after before) → Tells r (Safe g c)
  tells_written nodes {r} e u same t = tells_safe g.nodes refl (tells_same g w s u same (subst (λ (n : ℕ). Tells r (PostsBelow g u n × EdgesBounded g after before)) e t))

-- a choice that has sizes and is not safe: no choice at or above it is
pub none_above : (g : Program) → WellFormed g → (c s : ℕ → ℕ) → LeastSizes g c s → (Safe g c → ⊥) → (d : ℕ → ℕ) → AtMost g c d → Safe g d → ⊥
none_above g w c s l n d b safe = n (safe_smaller g w c d s l b safe)

-- what was found is what the tests look at
pub tells_found : {known : Known} → Looked known → (c : ℕ → ℕ) {f : Solution} → FoundFor known c f → {r : Bool} → Tells r (PostsBelow (known_program known) (at (map value_of f.sizes)) known.program.of.nodes × EdgesBounded (known_program known) (at (map value_of f.after)) (at (map value_of f.before))) → Tells r (Safe (known_program known) c)
tells_found {known} looked c f told =
    let p = known.program in
    tells_written (known_program known) (well_formed p.table.now p.ready.accepted_is) (member known.synchronising) looked.set c f.sizes _ _ f.sizes_of p.of.nodes p.nodes_are _ f.sizes_are told
