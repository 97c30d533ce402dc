-- Laws of looks at functions, one after another.
use Prim.Native.Nat.{ℕ, zero, suc, ◌<◌, ◌≤◌}
use mathlib.Core.Path.{◌≡◌, refl, sym, ◌∙◌, subst}
use mathlib.Core.Bool.{Bool, true}
use mathlib.Core.Logic.{◌⊎◌, inl, inr, ⊎_elim}
use native.Mathlib.Omega.{arith}
use lib.Dec.{eqb}
use borrow.Author.Tests.{eqb-true}
use Rattle.table.specs.Record.{call}
use Rattle.table.specs.Program.{Program}
use Rattle.table.proofs.Below.{last_or_before}
use Rattle.table.proofs.Booleans.{either_way, and_true_left, and_true_right, or_true_right}
use Rattle.sync.specs.Paths.{Path, Holds}
use Rattle.sync.specs.Synchronising.{Closed}
use Rattle.sync.specs.Pass.{Through, call_of, Look, barred, passed, Looks, none, more}
use Rattle.sync.proofs.Paths.{clear_or_holds}

module _ (g : Program) where
  -- ---- one look

  module _ (f : ℕ) (s s' : ℕ → Bool) where
    pub look_grows : Look g f s s' → (n : ℕ) → s n ≡ true → s' n ≡ true
    look_grows (barred b e) n h = e n ∙ rw h refl
    look_grows (passed p e) n h = e n ∙ h

    -- what is in the set after it was there before, or is a call of f
    pub look_adds : Look g f s s' → (n : ℕ) → s' n ≡ true → (s n ≡ true) ⊎ (call_of g f n ≡ true)
    look_adds (barred b e) n h = ⊎_elim (λ t. inl t) (λ t. inr (or_true_right (s n) (call_of g f n) (sym (e n) ∙ h) t)) (either_way (s n))
    look_adds (passed p e) n h = inl (sym (e n) ∙ h)

    -- Where no path gets through f, each one to its exit holds a member.
    barred_holds : (Through g s (g.first f) (g.exit f) → ⊥) → (p : Path g (g.first f) (g.exit f)) → Holds s p
    barred_holds b p = ⊎_elim (λ c. absurd (b (p, c))) (λ h. h) (clear_or_holds g s p)

    -- So its calls are in every closed set that the set lies in.
    pub look_below : Look g f s s' → (other : ℕ → Bool) → Closed g other → ((n : ℕ) → s n ≡ true → other n ≡ true) → (n : ℕ) → s' n ≡ true → other n ≡ true
    look_below l other k below n h = ⊎_elim (below n) (called l) (look_adds l n h)
      where
        called : Look g f s s' → call_of g f n ≡ true → other n ≡ true
        called (passed p e) c = below n (sym (e n) ∙ h)
        called (barred b e) c =
            k.calls n (eqb-true _ _ (and_true_left (eqb (g.sort n) call) _ c))
            (subst (λ (m : ℕ). (p : Path g (g.first m) (g.exit m)) → Holds other p) (eqb-true _ _ (and_true_right (eqb (g.sort n) call) _ c))
            (λ p. let x = barred_holds b p in (x.0, x.1, below x.0 x.2)))

  -- ---- looks one after another

  module _ (order : ℕ → ℕ) (from : ℕ → Bool) where
    pub looks_grow : (k : ℕ) (s : ℕ → Bool) → Looks g order from k s → (n : ℕ) → from n ≡ true → s n ≡ true
    looks_grow zero s none n h = h
    looks_grow (suc k) s (more {before = b} p l) n h = look_grows (order k) b s l n (looks_grow k b p n h)

    pub looks_add : (k : ℕ) (s : ℕ → Bool) → Looks g order from k s → (n : ℕ) → s n ≡ true → (from n ≡ true) ⊎ ((f : ℕ) × (call_of g f n ≡ true))
    looks_add zero s none n h = inl h
    looks_add (suc k) s (more {before = b} p l) n h = ⊎_elim (looks_add k b p n) (λ c. inr (order k, c)) (look_adds (order k) b s l n h)

    pub looks_below : (other : ℕ → Bool) → Closed g other → ((n : ℕ) → from n ≡ true → other n ≡ true) → (k : ℕ) (s : ℕ → Bool) → Looks g order from k s → (n : ℕ) → s n ≡ true → other n ≡ true
    looks_below other c below zero s none n h = below n h
    looks_below other c below (suc k) s (more {before = b} p l) n h = look_below (order k) b s l other c (looks_below other c below k b p) n h

    -- The look at place i, of k of them that lead to s: what s has besides was added by it or later.
    pub record Seen (k : ℕ) (s : ℕ → Bool) (i : ℕ) : Type 0 where
      pub before : ℕ → Bool
      pub after : ℕ → Bool
      pub look : Look g (order i) before after
      pub grown : (n : ℕ) → from n ≡ true → before n ≡ true
      pub kept : (n : ℕ) → after n ≡ true → s n ≡ true
      pub source : (n : ℕ) → s n ≡ true → (before n ≡ true) ⊎ ((j : ℕ) × (i ≤ j) × (j < k) × (call_of g (order j) n ≡ true))

    pub seen : (k : ℕ) (s : ℕ → Bool) → Looks g order from k s → (i : ℕ) → i < k → Seen k s i
    seen zero s none i h = absurd (omega arith)
    seen (suc k) s (more {before = b} p l) i h = ⊎_elim last (λ q. earlier q (seen k b p i q)) (last_or_before i k h)
      where
        last : i ≡ k → Seen (suc k) s i
        last e = record {
          before = b;
          after = s;
          look = subst (λ (m : ℕ). Look g (order m) b s) (sym e) l;
          grown = looks_grow k b p;
          kept = λ n t. t;
          source = λ n t. ⊎_elim (λ q. inl q) (λ q. inr (k, omega (arith, e), omega arith, q)) (look_adds (order k) b s l n t);
        }

        earlier : i < k → Seen k b i → Seen (suc k) s i
        earlier q v = record {
          before = v.before;
          after = v.after;
          look = v.look;
          grown = v.grown;
          kept = λ n t. look_grows (order k) b s l n (v.kept n t);
          source = λ n t. ⊎_elim
              (λ a. ⊎_elim (λ c. inl c) (λ c. inr (c.0, c.1, omega (arith, c.2), c.3)) (v.source n a))
              (λ a. inr (k, omega (arith, q), omega arith, a))
              (look_adds (order k) b s l n t);
        }
