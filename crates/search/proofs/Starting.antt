-- Unmerged everywhere, node by node.
use Rattle.std.proofs.Common.{◌≡◌, ℕ, ◌+◌, ◌<◌, true, false, cond, List, length, set, eqb, refl, ◌∙◌, arith, eq-eqb, ne_eqb}
use Rattle.table.specs.Record.{spawn}
use Rattle.table.specs.Program.{Program}
use Rattle.size.specs.Numbers.{Written}
use Rattle.size.proofs.Writing.{written_none, written_next}
use Rattle.rules.specs.Choice.{unmerged}
use Rattle.sizes.specs.Call.{choice_of}
use Rattle.search.specs.Walk.{Unmerged}

-- the nodes below n have their verdicts, and the bytes from there on are as they were
abbrev pub Started : Program → ℕ → List ℕ → List ℕ → Type 0
Started g n old l = Written n (λ m. cond (eqb (g.sort m) spawn) unmerged 0) old l

pub started_none : (g : Program) (old : List ℕ) → Started g 0 old old
started_none g old = written_none _ old

module _ (g : Program) (n : ℕ) (old l : List ℕ) (s : Started g n old l) where
  pub started_spawn : {x : ℕ} {new : List ℕ} → n < length old → eqb (g.sort n) spawn ≡ true → x ≡ unmerged → new ≡ set l n x → Started g (n + 1) old new
  started_spawn {x} h e v is = rw is (written_next _ n x s h (rw e v))

  pub started_other : {new : List ℕ} → n < length old → eqb (g.sort n) spawn ≡ false → new ≡ set l n 0 → Started g (n + 1) old new
  started_other h e is = rw is (written_next _ n 0 s h (rw e refl))

  pub started_all : n ≡ g.nodes → Unmerged g (choice_of l)
  started_all e = record {
    spawns = λ m i. s.written m (omega (arith, i.exists)) ∙ rw (eq-eqb (g.sort m) spawn i.spawns) refl;
    others = λ m h d. s.written m (omega arith) ∙ rw (ne_eqb (g.sort m) spawn d) refl;
  }
