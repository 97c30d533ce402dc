-- Laws of the words: how the call targets are gathered, and how what is reached comes out of them.
use Prim.Native.Nat.{ℕ, zero, suc, ◌+◌, ◌<◌, ◌≤◌}
use mathlib.Core.Path.{◌≡◌, refl, sym, ap, ◌∙◌, subst}
use mathlib.Core.List.{List}
use mathlib.Core.Bool.{Bool, true, false, ◌&&◌, ◌||◌}
use mathlib.Core.Logic.{◌⊎◌, inl, inr, ⊎_elim}
use native.Mathlib.Omega.{arith}
use native.Mathlib.Decide.{ℕ_discrete, dec_lt}
use lib.Dec.{eqb}
use lib.ListN.{length, set, replicate, length-set}
use lib.Seq.{get_or-set_same, get_or-set_other}
use borrow.Author.Count.{below_more}
use borrow.Author.Tests.{eq-eqb, eqb-true, not-true}
use Rattle.std.proofs.lemmas.List.{get_or_past}
use Rattle.table.specs.Record.{call}
use Rattle.table.specs.Program.{Program}
use Rattle.table.specs.WellFormed.{WellFormed}
use Rattle.table.proofs.Booleans.{not_both, or_true, and_true_left, and_true_right}
use Rattle.table.proofs.Below.{last_or_before}
use Rattle.word.specs.Bit.{bit}
use Rattle.word.proofs.Bits.{bit_none}
use Rattle.call_order.specs.Calls.{Calls, Reaches}
use Rattle.call_order.specs.Calls.Reaches.{one, more}
use Rattle.call_order.specs.CallOrder.{places}
use Rattle.call_order.specs.Rows.{joined, one_way, Targets, ReachOf}
use Rattle.call_order.proofs.Reaching.{reaches_on}

pub either_of : (a b : Bool) → (a || b) ≡ true → (a ≡ true) ⊎ (b ≡ true)
either_of true b h = inl refl
either_of false b h = inr h

-- of as many zeros each entry is 0, past them too
pub zeros_all : (n i : ℕ) → places (replicate n 0) i ≡ 0
zeros_all zero i = refl
zeros_all (suc n) zero = refl
zeros_all (suc n) (suc i) = zeros_all n i

-- no function is joined to another
pub joined_none : (n f h : ℕ) → joined (replicate n 0) f h ≡ false
joined_none n f h = ap (λ (x : ℕ). bit x h) (zeros_all n f) ∙ bit_none h

-- nor is one past the last word
pub joined_past : (rows : List ℕ) (f h : ℕ) → length rows ≤ f → joined rows f h ≡ false
joined_past rows f h l = ap (λ (x : ℕ). bit x h) (get_or_past rows f 0 l) ∙ bit_none h

-- ---- node by node

-- the calls in the nodes below n are gathered
pub record Gathered (g : Program) (back : List ℕ) (n : ℕ) (rows : List ℕ) : Type 0 where
  pub long : length rows ≡ 64
  pub called : (f h : ℕ) → joined rows f h ≡ true → Calls g f h
  pub forth : (f h : ℕ) → joined rows f h ≡ true → joined back h f ≡ false
  pub passed : (m : ℕ) → m < n → one_way g back m ≡ true → joined rows (g.owner m) (g.target m) ≡ true

pub gathered_none : (g : Program) (back : List ℕ) → Gathered g back 0 (replicate 64 0)
gathered_none g back = record {
  long = refl;
  called = λ f h t. not_both _ t (joined_none 64 f h);
  forth = λ f h t. not_both _ t (joined_none 64 f h);
  passed = λ m h. absurd (omega arith);
}

module _ (g : Program) (back : List ℕ) (n : ℕ) (rows : List ℕ) (before : Gathered g back n rows) where
  -- node n is no such call
  pub gathered_pass : one_way g back n ≡ false → Gathered g back (n + 1) rows
  gathered_pass none = record {
    long = before.long;
    called = before.called;
    forth = before.forth;
    passed = below_more (λ m. one_way g back m ≡ true → joined rows (g.owner m) (g.target m) ≡ true) n before.passed (λ t. not_both _ t none);
  }

  -- or it is one, of function b by function a
  module _ (a b word : ℕ) (exists : n < g.nodes) (it : one_way g back n ≡ true) (owner_is : a ≡ g.owner n) (target_is : b ≡ g.target n) (few : a < 64) (put : (j : ℕ) → bit word j ≡ (eqb j b || joined rows a j)) where
    abbrev new : List ℕ
    new = set rows a word

    new_at : (h : ℕ) → joined new a h ≡ (eqb h b || joined rows a h)
    new_at h = ap (λ (x : ℕ). bit x h) (get_or-set_same rows a word 0 (omega (arith, before.long))) ∙ put h

    new_other : (f h : ℕ) → (f ≡ a → ⊥) → joined new f h ≡ joined rows f h
    new_other f h d = ap (λ (x : ℕ). bit x h) (get_or-set_other rows a f word 0 d)

    -- who is joined now was joined, or this call joins them
    now : (f h : ℕ) → joined new f h ≡ true → ((f ≡ a) × (h ≡ b)) ⊎ (joined rows f h ≡ true)
    now f h t = go (ℕ_discrete f a)
      where
        go : Dec (f ≡ a) → ((f ≡ a) × (h ≡ b)) ⊎ (joined rows f h ≡ true)
        go (no d) = inr (sym (new_other f h d) ∙ t)
        go (yes e) =
            ⊎_elim
            (λ (q : eqb h b ≡ true). inl (e, eqb-true h b q))
            (λ (j : joined rows a h ≡ true). inr (rw e j))
            (either_of _ _ (sym (new_at h) ∙ rw e at t))

    kept : (f h : ℕ) → joined rows f h ≡ true → joined new f h ≡ true
    kept f h t = go (ℕ_discrete f a)
      where
        go : Dec (f ≡ a) → joined new f h ≡ true
        go (no d) = new_other f h d ∙ t
        go (yes e) = rw e (new_at h ∙ ap (λ (x : Bool). eqb h b || x) (rw e at t) ∙ or_true (eqb h b))

    pub gathered_more : Gathered g back (n + 1) new
    gathered_more = record {
      long = length-set rows a word ∙ before.long;
      called = λ f h t. called f h (now f h t);
      forth = λ f h t. forth f h (now f h t);
      passed = below_more (λ m. one_way g back m ≡ true → joined new (g.owner m) (g.target m) ≡ true) n
          (λ m l t. kept _ _ (before.passed m l t))
          (λ t. rw (← owner_is, ← target_is) (new_at b ∙ ap (λ (x : Bool). x || joined rows a b) (eq-eqb b b refl)));
    }
      where
        called : (f h : ℕ) → ((f ≡ a) × (h ≡ b)) ⊎ (joined rows f h ≡ true) → Calls g f h
        called f h (inl e) = record { node = n; exists = exists; call_is = eqb-true _ _ (and_true_left _ _ it); owner_is = sym (e.0 ∙ owner_is); target_is = sym (e.1 ∙ target_is) }
        called f h (inr t) = before.called f h t

        forth : (f h : ℕ) → ((f ≡ a) × (h ≡ b)) ⊎ (joined rows f h ≡ true) → joined back h f ≡ false
        forth f h (inl e) = rw (e.0 ∙ owner_is, e.1 ∙ target_is) (not-true _ (and_true_right (eqb (g.sort n) call) _ it))
        forth f h (inr t) = before.forth f h t

-- all nodes were looked at
pub gathered_all : (g : Program) (back rows : List ℕ) → Gathered g back g.nodes rows → Targets g back rows
gathered_all g back rows p = record { called = p.called; forth = p.forth; all = λ f h c. all f h c }
  where
    all : (f h : ℕ) → Calls g f h → joined back h f ≡ false → joined rows f h ≡ true
    all f h c b = subst (λ (x : ℕ). joined rows x h ≡ true) c.owner_is (subst (λ (y : ℕ). joined rows (g.owner c.node) y ≡ true) c.target_is (p.passed c.node c.exists (rw (eq-eqb _ _ c.call_is, c.owner_is, c.target_is, b) refl)))

-- ---- function by function

-- The words have paths of calls, and all those through functions below k.
pub record Through (g : Program) (k : ℕ) (rows : List ℕ) : Type 0 where
  pub reached : (f h : ℕ) → joined rows f h ≡ true → Reaches g f h
  pub called : (f h : ℕ) → Calls g f h → joined rows f h ≡ true
  pub closed : (f m h : ℕ) → m < k → joined rows f m ≡ true → joined rows m h ≡ true → joined rows f h ≡ true

pub through_none : (g : Program) (n : ℕ) (rows : List ℕ) → Targets g (replicate n 0) rows → Through g 0 rows
through_none g n rows t = record {
  reached = λ f h j. one (t.called f h j);
  called = λ f h c. t.all f h c (joined_none n h f);
  closed = λ f m h l. absurd (omega arith);
}

-- what is so of each word is so past the last
pub through_each : (k : ℕ) (rows new : List ℕ) → length rows ≡ 64 → length new ≡ 64
    → ((f : ℕ) → f < 64 → (h : ℕ) → joined new f h ≡ (joined rows f h || (joined rows f k && joined rows k h)))
    → (f h : ℕ) → joined new f h ≡ (joined rows f h || (joined rows f k && joined rows k h))
through_each k rows new long as_long each f h = go (dec_lt f 64)
  where
    go : Dec (f < 64) → joined new f h ≡ (joined rows f h || (joined rows f k && joined rows k h))
    go (yes l) = each f l h
    go (no p) = rw (joined_past new f h (omega (arith, p)), joined_past rows f h (omega (arith, p)), joined_past rows f k (omega (arith, p))) refl

module _ (g : Program) (k : ℕ) (rows new : List ℕ) (before : Through g k rows) (step : (f h : ℕ) → joined new f h ≡ (joined rows f h || (joined rows f k && joined rows k h))) where
  -- who is joined now was joined, or is joined by way of k
  by_way : (f h : ℕ) → joined new f h ≡ true → (joined rows f h ≡ true) ⊎ ((joined rows f k ≡ true) × (joined rows k h ≡ true))
  by_way f h t =
      ⊎_elim inl
      (λ (b : (joined rows f k && joined rows k h) ≡ true). inr (and_true_left (joined rows f k) _ b, and_true_right (joined rows f k) _ b))
      (either_of (joined rows f h) _ (sym (step f h) ∙ t))

  still : (f h : ℕ) → joined rows f h ≡ true → joined new f h ≡ true
  still f h t = step f h ∙ ap (λ (b : Bool). b || (joined rows f k && joined rows k h)) t

  way : (f h : ℕ) → joined rows f k ≡ true → joined rows k h ≡ true → joined new f h ≡ true
  way f h p q = step f h ∙ rw (p, q) (or_true (joined rows f h))

  pub through_more : Through g (k + 1) new
  through_more = record {
    reached = λ f h t. ⊎_elim (λ j. before.reached f h j) (λ j. reaches_on g (before.reached f k j.0) (before.reached k h j.1)) (by_way f h t);
    called = λ f h c. still f h (before.called f h c);
    closed = λ f m h l p q. ⊎_elim (λ (e : m ≡ k). last f h (rw e at p) (rw e at q)) (λ (b : m < k). before_it f m h b (by_way f m p) (by_way m h q)) (last_or_before m k (omega arith));
  }
    where
      -- by way of k
      last : (f h : ℕ) → joined new f k ≡ true → joined new k h ≡ true → joined new f h ≡ true
      last f h p q = way f h (⊎_elim (λ a. a) (λ a. a.0) (by_way f k p)) (⊎_elim (λ b. b) (λ b. b.1) (by_way k h q))

      -- by way of m below k
      before_it : (f m h : ℕ) → m < k → (joined rows f m ≡ true) ⊎ ((joined rows f k ≡ true) × (joined rows k m ≡ true)) → (joined rows m h ≡ true) ⊎ ((joined rows m k ≡ true) × (joined rows k h ≡ true)) → joined new f h ≡ true
      before_it f m h l (inl a) (inl b) = still f h (before.closed f m h l a b)
      before_it f m h l (inl a) (inr b) = way f h (before.closed f m k l a b.0) b.1
      before_it f m h l (inr a) (inl b) = way f h a.0 (before.closed k m h l a.1 b)
      before_it f m h l (inr a) (inr b) = way f h a.0 b.1

-- All functions were gone through.
pub through_all : (g : Program) → WellFormed g → (rows : List ℕ) → Through g g.functions rows → ReachOf g rows
through_all g formed rows p = record { reached = p.reached; all = λ f h r. all r }
  where
    all : {f h : ℕ} → Reaches g f h → joined rows f h ≡ true
    all (one c) = p.called _ _ c
    all (more r c) = p.closed _ _ _ (subst (λ (m : ℕ). m < g.functions) c.owner_is (formed.owner_exists c.node c.exists)) (all r) (p.called _ _ c)
