-- The two tests, of each node and of each edge.
use Prim.Native.Nat.{ℕ, ◌+◌, ◌*◌, ◌<◌}
use mathlib.Core.Path.{◌≡◌, refl, sym, ap, ◌∙◌}
use mathlib.Core.Bool.{Bool, true, false, not, ◌&&◌, ◌||◌, true≢false}
use mathlib.Core.List.{List, map}
use native.Mathlib.Omega.{arith}
use native.Mathlib.Decide.{ℕ_discrete}
use lib.Dec.{eqb}
use lib.ListN.{length, get_or}
use borrow.Author.Tests.{eqb-true, eq-eqb, ne_eqb}
use Rattle.std.specs.Bool.{MatchBool}
use Rattle.std.specs.List.{AllWithin, HoldsAt, range_with_len}
use Rattle.std.proofs.Common.{zero-add}
use Rattle.std.proofs.lemmas.List.FromFn.{length-range_with_len, get_or-range_with_len}
use Rattle.table.specs.Record.{spawn, edges, edge_from, edge_to}
use Rattle.table.specs.Answer.{Ready}
use Rattle.table.specs.Program.{Program, program_of}
use Rattle.table.specs.declared.Counts.{Counts}
use Rattle.table.proofs.Booleans.{not_both}
use Rattle.table.proofs.Laws.{edge_which}
use Rattle.table.proofs.Ready.{edge_is}
use Rattle.size.specs.Size.{unbounded, value_of}
use Rattle.size.specs.Numbers.{at}
use Rattle.size.specs.declared.Size.{Size}
use Rattle.size.specs.declared.Size.TheVariants.{Bytes}
use Rattle.size.proofs.Maps.{map_at}
use Rattle.safety.specs.Test.{PostsBelow, EdgesBounded, Tells}

-- what `all` over the numbers below k comes to, for a test of each
abbrev pub Tested : (ℕ → Bool) → ℕ → Bool → Type 0
Tested test k r = MatchBool r (AllWithin (λ n. test n ≡ true) (range_with_len 0 k) 0 (length (range_with_len 0 k))) ((i : ℕ) × (i < length (range_with_len 0 k)) × HoldsAt (λ n. test n ≡ false) (range_with_len 0 k) i)

tells_all : (test : ℕ → Bool) (k : ℕ) (r : Bool) → Tested test k r → Tells r ((n : ℕ) → n < k → test n ≡ true)
tells_all test k true all = record {
  yes_if = λ e n h.
      let b : n < length (range_with_len 0 k) = simp length-range_with_len h in
      rw (get_or-range_with_len 0 k n 0 h, zero-add) at (all n 0 (omega arith) b);
  only_if = λ p. refl;
}
tells_all test k false (n, b, fails) = record {
  yes_if = λ e. absurd (true≢false (sym e));
  only_if = λ p.
      let h : n < k = simp length-range_with_len at b in
      absurd (not_both (test n) (p n h) (rw (get_or-range_with_len 0 k n 0 h, zero-add) at (fails 0)));
}

-- a test tells of what says the same
tells_also : {P Q : Type 0} {r : Bool} → (P → Q) → (Q → P) → Tells r P → Tells r Q
tells_also to from t = record { yes_if = λ e. to (t.yes_if e); only_if = λ q. t.only_if (from q) }

-- two tests, the second where the first holds
pub tells_both : {P Q : Type 0} {p q : Bool} → Tells p P → p ≡ true → Tells q Q → Tells q (P × Q)
tells_both t e u = record { yes_if = λ h. (t.yes_if e, u.yes_if h); only_if = λ b. u.only_if b.1 }

-- node n is no spawn, or Post of its target is 0
abbrev pub gives_zero : Program → List Size → ℕ → Bool
gives_zero g sizes n = not (eqb (g.sort n) spawn) || eqb (value_of (get_or sizes (4 * g.target n + 1) (Bytes 0))) 0

pub posts_told : (g : Program) (sizes : List Size) (k : ℕ) (r : Bool) → Tested (gives_zero g sizes) k r → Tells r (PostsBelow g (at (map value_of sizes)) k)
posts_told g sizes k r t =
    tells_also (λ y. record { zero_below = λ n h e. zero n e (y n h) }) (λ p n h. tested n (p.zero_below n h) (ℕ_discrete (g.sort n) spawn)) (tells_all (gives_zero g sizes) k r t)
  where
    post : (n : ℕ) → value_of (get_or sizes (4 * g.target n + 1) (Bytes 0)) ≡ at (map value_of sizes) (4 * g.target n + 1)
    post n = map_at sizes (4 * g.target n + 1)

    zero : (n : ℕ) → g.sort n ≡ spawn → gives_zero g sizes n ≡ true → at (map value_of sizes) (4 * g.target n + 1) ≡ 0
    zero n e h = sym (post n) ∙ eqb-true _ 0 (rw (eq-eqb _ _ e) at h)

    tested : (n : ℕ) → (g.sort n ≡ spawn → at (map value_of sizes) (4 * g.target n + 1) ≡ 0) → Dec (g.sort n ≡ spawn) → gives_zero g sizes n ≡ true
    tested n z (yes e) = rw (eq-eqb _ _ e, eq-eqb _ 0 (post n ∙ z e)) refl
    tested n z (no d) = rw (ne_eqb (g.sort n) spawn d) refl

-- the e-th edge does not have unbounded sums on both sides
abbrev pub one_bounded : List ℕ → List Size → List Size → ℕ → Bool
one_bounded t after before e = not (eqb (value_of (get_or after (edge_from t e) (Bytes 0))) unbounded && eqb (value_of (get_or before (edge_to t e) (Bytes 0))) unbounded)

pub edges_told : (t : List ℕ) (of : Counts) → Ready t of → (after before : List Size) (r : Bool) → Tested (one_bounded t after before) of.edges r → Tells r (EdgesBounded (program_of t) (at (map value_of after)) (at (map value_of before)))
edges_told t of ready after before r tested =
    tells_also (λ y. record { not_both = λ a b i x z. one a b (edge_which t a b i) y x z }) (λ p e h. go e h p (ℕ_discrete (front e) unbounded) (ℕ_discrete (back e) unbounded)) (tells_all (one_bounded t after before) of.edges r tested)
  where
    front : ℕ → ℕ
    front e = value_of (get_or after (edge_from t e) (Bytes 0))

    back : ℕ → ℕ
    back e = value_of (get_or before (edge_to t e) (Bytes 0))

    one : (a b : ℕ) → (j : ℕ) × (j < edges t) × (edge_from t j ≡ a) × (edge_to t j ≡ b) → ((e : ℕ) → e < of.edges → one_bounded t after before e ≡ true) → at (map value_of after) a ≡ unbounded → at (map value_of before) b ≡ unbounded → ⊥
    one a b (j, h, p, q) y x z =
        not_both (one_bounded t after before j) (y j (omega (arith, h, ready.counts_are.edges_are)))
        (rw (eq-eqb (front j) unbounded (map_at after _ ∙ ap (at (map value_of after)) p ∙ x), eq-eqb (back j) unbounded (map_at before _ ∙ ap (at (map value_of before)) q ∙ z)) refl)

    go : (e : ℕ) → e < of.edges → EdgesBounded (program_of t) (at (map value_of after)) (at (map value_of before)) → Dec (front e ≡ unbounded) → Dec (back e ≡ unbounded) → one_bounded t after before e ≡ true
    go e h p (yes x) (yes z) = absurd (p.not_both (edge_from t e) (edge_to t e) (edge_is t of ready e h) (sym (map_at after _) ∙ x) (sym (map_at before _) ∙ z))
    go e h p (yes x) (no d) = rw (eq-eqb (front e) unbounded x, ne_eqb (back e) unbounded d) refl
    go e h p (no d) _ = rw (ne_eqb (front e) unbounded d) refl
