-- A pass, look by look.
use Prim.Native.Nat.{ℕ, ◌+◌, ◌<◌}
use mathlib.Core.Path.{◌≡◌, refl, sym, ◌∙◌, subst}
use mathlib.Core.List.{List}
use mathlib.Core.Bool.{Bool, true, false, ◌||◌}
use mathlib.Core.Logic.{◌⊎◌, inl, inr, ◌↔◌, ⊎_elim}
use native.Mathlib.Numerals.{add-one}
use native.Mathlib.Omega.{arith}
use Rattle.table.specs.Program.{Program}
use Rattle.table.proofs.Below.{last_or_before}
use Rattle.table.proofs.Booleans.{either_way, not_both, or_true, or_true_right}
use Rattle.sync.specs.declared.pass.Pass.{Pass}
use Rattle.sync.specs.Passing.{LookedAt, PassedBy}
use Rattle.sync.specs.Pass.{Through, call_of, Look, barred, passed, none, more}
use Rattle.sync.specs.Words.{member}
use Rattle.sync.proofs.Paths.{clear_below}
use Rattle.sync.proofs.Looking.{look_grows, looks_grow}

-- past a smaller set more paths get through
pub through_below : (g : Program) (set other : ℕ → Bool) → ((n : ℕ) → other n ≡ true → set n ≡ true) → (a n : ℕ) → Through g set a n → Through g other a n
through_below g set other h a n p = (p.0, clear_below g set other h p.0 p.1)

module _ (g : Program) (order : ℕ → ℕ) (from : List ℕ) where
  pub passed_none : (p : Pass) → p.set ≡ from → ((n : ℕ) → member p.reached n ≡ false) → PassedBy g order from 0 p
  passed_none p e empty = record {
    looks = rw e none;
    sound = λ n h. not_both (member p.reached n) h (empty n);
    complete = λ i n h. absurd (omega arith);
  }

  pub passed_more : (k : ℕ) (p p' : Pass) → PassedBy g order from k p → LookedAt g (order k) p p' → PassedBy g order from (k + 1) p'
  passed_more k p p' b l = record {
    looks = rw add-one (more b.looks l.look);
    sound = λ n h. ⊎_elim
        (λ t. let x = b.sound n t in (x.0, omega (arith, x.1), x.2))
        (λ x. (k, omega arith, through_below g (member p.set) (member from) (looks_grow g order (member from) k (member p.set) b.looks) _ n x))
        ((l.reach n).0 h);
    complete = λ i n h x.
        let y = through_below g (member p'.set) (member p.set) (look_grows g (order k) (member p.set) (member p'.set) l.look) _ n x in
        (l.reach n).1 (⊎_elim
        (λ (e : i ≡ k). inr (subst (λ (m : ℕ). Through g (member p.set) (g.first (order m)) n) e y))
        (λ (q : i < k). inl (b.complete i n q y))
        (last_or_before i k (omega arith)));
  }

-- ---- a look, from what the search finds

-- what is reached besides
pub reached_more : (old new all : List ℕ) (P : ℕ → Type 0) → ((n : ℕ) → (member new n ≡ true) ↔ P n) → ((n : ℕ) → member all n ≡ (member old n || member new n)) → (n : ℕ) → (member all n ≡ true) ↔ ((member old n ≡ true) ⊎ P n)
reached_more old new all P found e n = (told, back)
  where
    told : member all n ≡ true → (member old n ≡ true) ⊎ P n
    told h = ⊎_elim (λ t. inl t) (λ f. inr ((found n).0 (or_true_right (member old n) (member new n) (sym (e n) ∙ h) f))) (either_way (member old n))

    back : (member old n ≡ true) ⊎ P n → member all n ≡ true
    back (inl t) = e n ∙ rw t refl
    back (inr p) = e n ∙ rw ((found n).1 p) (or_true (member old n))

module _ (g : Program) (f : ℕ) (set reached : List ℕ) (found : (n : ℕ) → (member reached n ≡ true) ↔ Through g (member set) (g.first f) n) (exit : ℕ) (is : exit ≡ g.exit f) where
  pub look_passed : member reached exit ≡ true → Look g f (member set) (member set)
  look_passed h = passed (subst (Through g (member set) (g.first f)) is ((found exit).0 h)) (λ n. refl)

  pub look_barred : member reached exit ≡ false → (set' : List ℕ) → ((n : ℕ) → member set' n ≡ (member set n || call_of g f n)) → Look g f (member set) (member set')
  look_barred h set' e = barred (λ p. not_both (member reached exit) ((found exit).1 (subst (Through g (member set) (g.first f)) (sym is) p)) h) e
