-- When a size of a node rests on its target, in the words of document 01.
use Prim.Native.Nat.{ℕ, ◌≤◌}
use mathlib.Core.Path.{◌≡◌, refl}
use mathlib.Core.Bool.{true, false, ◌&&◌, ◌||◌}
use mathlib.Core.Logic.{⊎_elim}
use native.Mathlib.Omega.{arith}
use lib.Dec.{eqb, leb}
use borrow.Author.Tests.{eqb-true, ne_eqb, leb-true, le-leb}
use Rattle.table.specs.Record.{call, spawn}
use Rattle.table.specs.Program.{Program}
use Rattle.table.proofs.Booleans.{either_way, and_true_left, and_true_right, or_true, or_true_right}
use Rattle.rules.specs.Choice.{guarded, unguarded, Merges, LeavesUnguarded}
use Rattle.rules.specs.Rules.{total, post}
use Rattle.rules.specs.System.{takes, taken}

-- a call, a spawn that is left unguarded, or one that is merged and the size is Total or Post
pub data Takes (g : Program) (choice : ℕ → ℕ) (n k : ℕ) : Type 0 where
  of_call : g.sort n ≡ call → taken g n k ≡ k → Takes g choice n k
  of_unguarded : g.sort n ≡ spawn → LeavesUnguarded choice n → taken g n k ≡ total → Takes g choice n k
  of_merged : g.sort n ≡ spawn → Merges choice n → k ≤ post → taken g n k ≡ total → Takes g choice n k

module _ (g : Program) (n k : ℕ) where
  pub taken_call : g.sort n ≡ call → taken g n k ≡ k
  unfolding taken
  taken_call s = rw s refl

  pub taken_other : (g.sort n ≡ call → ⊥) → taken g n k ≡ total
  unfolding taken
  taken_other s = rw (ne_eqb (g.sort n) call s) refl

  pub taken_spawn : g.sort n ≡ spawn → taken g n k ≡ total
  taken_spawn s = taken_other (λ e. absurd (omega arith))

module _ (g : Program) (choice : ℕ → ℕ) (n k : ℕ) where
  pub takes_call : g.sort n ≡ call → takes g choice n k ≡ true
  unfolding takes
  takes_call s = rw s refl

  pub takes_unguarded : g.sort n ≡ spawn → LeavesUnguarded choice n → takes g choice n k ≡ true
  unfolding takes
  takes_unguarded s c = rw (s, le-leb unguarded (choice n) c) refl

  pub takes_merged : g.sort n ≡ spawn → Merges choice n → k ≤ post → takes g choice n k ≡ true
  unfolding takes
  takes_merged s c l = rw (s, le-leb guarded (choice n) c, le-leb k post l) (or_true (leb unguarded (choice n)))

  of_spawn : g.sort n ≡ spawn → (leb unguarded (choice n) || (leb guarded (choice n) && leb k post)) ≡ true → Takes g choice n k
  of_spawn s b =
      ⊎_elim
      (λ (h : leb unguarded (choice n) ≡ true). of_unguarded s (leb-true _ _ h) (taken_spawn g n k s))
      (λ (h : leb unguarded (choice n) ≡ false).
      let m = or_true_right (leb unguarded (choice n)) (leb guarded (choice n) && leb k post) b h in
      let c = leb guarded (choice n) in
      of_merged s (leb-true guarded (choice n) (and_true_left c (leb k post) m)) (leb-true k post (and_true_right c (leb k post) m)) (taken_spawn g n k s))
      (either_way (leb unguarded (choice n)))

  pub takes_which : takes g choice n k ≡ true → Takes g choice n k
  unfolding takes
  takes_which b =
      let rest = leb unguarded (choice n) || (leb guarded (choice n) && leb k post) in
      ⊎_elim
      (λ (h : eqb (g.sort n) call ≡ true). let s = eqb-true _ _ h in of_call s (taken_call g n k s))
      (λ (h : eqb (g.sort n) call ≡ false).
      let m = or_true_right (eqb (g.sort n) call) (eqb (g.sort n) spawn && rest) b h in
      of_spawn (eqb-true _ _ (and_true_left (eqb (g.sort n) spawn) rest m)) (and_true_right (eqb (g.sort n) spawn) rest m))
      (either_way (eqb (g.sort n) call))

-- what a smaller choice takes, a larger one does
pub takes_larger : (g : Program) (c d : ℕ → ℕ) (n k : ℕ) → c n ≤ d n → takes g c n k ≡ true → takes g d n k ≡ true
takes_larger g c d n k h b = go (takes_which g c n k b)
  where
    go : Takes g c n k → takes g d n k ≡ true
    go (of_call s e) = takes_call g d n k s
    go (of_unguarded s m e) = takes_unguarded g d n k s (omega arith)
    go (of_merged s m l e) = takes_merged g d n k s (omega arith) l
