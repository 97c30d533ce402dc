-- What the crates above may use of this one beside the promises of its functions. Laws of paths are in `Paths`.
use Prim.Native.Nat.{ℕ}
use mathlib.Core.Path.{◌≡◌, refl, subst}
use mathlib.Core.List.{List}
use mathlib.Core.Bool.{Bool, true, false, ◌||◌}
use mathlib.Core.Logic.{◌⊎◌, inl, inr, ⊎_elim}
use native.Mathlib.Omega.{arith}
use lib.Dec.{eqb}
use borrow.Author.Tests.{eqb-true, eq-eqb}
use Rattle.table.specs.Record.{plain, call, spawn, sync}
use Rattle.table.specs.Program.{Program, program_of}
use Rattle.table.specs.SameButEdges.{SameButEdges}
use Rattle.table.proofs.Booleans.{either_way, or_true, or_true_right}
use Rattle.table.proofs.Laws.{same_program}
use Rattle.sync.specs.Paths.{Path}
use Rattle.sync.specs.Synchronising.{Closed, Synchronising}
use Rattle.sync.specs.Words.{Eight}
use Rattle.sync.specs.Answer.{Sets}
use Rattle.sync.proofs.Same as same

module _ (g : Program) (set : ℕ → Bool) (s : Synchronising g set) where
  -- "The set is the smallest": there is one
  pub synchronising_unique : (other : ℕ → Bool) → Synchronising g other → (n : ℕ) → set n ≡ other n
  synchronising_unique other q = same.synchronising_unique g set other s q

  -- "With no such path at all, the call is synchronising."
  pub no_path_synchronises : (n : ℕ) → g.sort n ≡ call → (Path g (g.first (g.target n)) (g.exit (g.target n)) → ⊥) → set n ≡ true
  no_path_synchronises n c no-path = s.closed.calls n c (λ p. absurd (no-path p))

  -- only syncs and calls synchronise
  pub member_sort : (n : ℕ) → set n ≡ true → (g.sort n ≡ sync) ⊎ (g.sort n ≡ call)
  member_sort n h = told (s.smallest sync_or_call closed n h)
    where
      sync_or_call : ℕ → Bool
      sync_or_call n = eqb (g.sort n) sync || eqb (g.sort n) call

      closed : Closed g sync_or_call
      closed = record {
        syncs = λ n e. rw (eq-eqb _ _ e) refl;
        calls = λ n e every. rw (eq-eqb _ _ e) (or_true (eqb (g.sort n) sync));
      }

      told : sync_or_call n ≡ true → (g.sort n ≡ sync) ⊎ (g.sort n ≡ call)
      told e =
          ⊎_elim
          (λ (y : eqb (g.sort n) sync ≡ true). inl (eqb-true _ _ y))
          (λ (o : eqb (g.sort n) sync ≡ false). inr (eqb-true _ _ (or_true_right (eqb (g.sort n) sync) _ e o)))
          (either_way (eqb (g.sort n) sync))

  -- so neither plain nodes nor spawns do
  no_member : (n : ℕ) → (g.sort n ≡ sync → ⊥) → (g.sort n ≡ call → ⊥) → set n ≡ false
  no_member n p q = ⊎_elim (λ h. absurd (⊎_elim p q (member_sort n h))) (λ h. h) (either_way (set n))

  pub plain_open : (n : ℕ) → g.sort n ≡ plain → set n ≡ false
  plain_open n e = no_member n (λ f. omega (arith, e, f)) (λ f. omega (arith, e, f))

  pub spawn_open : (n : ℕ) → g.sort n ≡ spawn → set n ≡ false
  spawn_open n e = no_member n (λ f. omega (arith, e, f)) (λ f. omega (arith, e, f))

-- the words depend on the program only
pub sets_same : (g : Program) (set reached set' reached' : List ℕ) → Eight set → Eight reached → Eight set' → Eight reached' → Sets g set reached → Sets g set' reached' → (set ≡ set') × (reached ≡ reached')
sets_same = same.sets_same

-- so edges in another order, or repeated, give the same words
pub words_same : (t u : List ℕ) → SameButEdges t u → (set reached set' reached' : List ℕ) → Eight set → Eight reached → Eight set' → Eight reached' → Sets (program_of t) set reached → Sets (program_of u) set' reached' → (set ≡ set') × (reached ≡ reached')
words_same t u e set reached set' reached' a b c d p q =
    same.sets_same (program_of u) set reached set' reached' a b c d (subst (λ (g : Program). Sets g set reached) (same_program t u e) p) q
