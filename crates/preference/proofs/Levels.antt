-- Laws of the depths as they are found: level by level from the entries.
use Prim.Native.Nat.{ℕ, zero, suc, ◌+◌, ◌<◌, ◌≤◌}
use mathlib.Core.Path.{◌≡◌, refl, sym, ap, ◌∙◌, subst}
use mathlib.Core.List.{List}
use mathlib.Core.Bool.{Bool, true, false, cond, ◌&&◌}
use mathlib.Core.Logic.{◌⊎◌, inl, inr, ⊎_elim}
use native.Mathlib.Omega.{arith}
use native.Mathlib.Numerals.{add-one}
use native.Mathlib.Decide.{ℕ_discrete, dec_le}
use lib.ListN.{length, set, replicate, length-set}
use lib.Seq.{get_or-set_same, get_or-set_other}
use borrow.Author.Count.{below_more}
use borrow.Author.Tests.{eq-eqb, eqb-true}
use Rattle.std.specs.Prelude.{Option, None, Some}
use Rattle.std.specs.Bool.{then_some}
use Rattle.std.specs.Option.{is_none, unwrap_or}
use Rattle.table.specs.Record.{has_target}
use Rattle.table.specs.Program.{Program}
use Rattle.table.specs.WellFormed.{WellFormed}
use Rattle.table.proofs.Booleans.{either_way, not_both, and_true_left, and_true_right}
use Rattle.table.proofs.Below.{count_le, count_strict}
use Rattle.preference.specs.Depth.{Away, Fewest, DepthOf}
use Rattle.preference.specs.Levels.{found_in, Levels, unfound, is_level, leads_down, Deepening, Deepened, Sounded}

-- a function has a depth or none
known : (o : Option ℕ) → (o ≡ None) ⊎ ((d : ℕ) × (o ≡ Some d))
known None = inl refl
known (Some d) = inr (d, refl)

-- what the two tests of a depth say
level_told : (level : ℕ) (o : Option ℕ) → is_level level o ≡ true → o ≡ Some level
level_told level None h = cc
level_told level (Some d) h = ap Some (eqb-true d level h)

none_told : (o : Option ℕ) → is_none o ≡ true → o ≡ None
none_told None h = refl
none_told (Some d) h = cc

-- ---- the entries

-- the entries among the functions below f have depth 0, and no others have one
pub record Started (g : Program) (f : ℕ) (l : List (Option ℕ)) : Type 0 where
  pub long : length l ≡ 64
  pub below : (k : ℕ) → k < f → found_in l k ≡ cond (g.entry k) (Some 0) None
  pub rest : (k : ℕ) → f ≤ k → found_in l k ≡ None

pub started_none : (g : Program) → Started g 0 (replicate 64 None)
started_none g = record { long = refl; below = λ k h. absurd (omega arith); rest = λ k h. go 64 k }
  where
    go : (n k : ℕ) → found_in (replicate n None) k ≡ None
    go zero k = refl
    go (suc n) zero = refl
    go (suc n) (suc k) = go n k

module _ (g : Program) (f : ℕ) (l : List (Option ℕ)) (s : Started g f l) where
  pub started_entry : f < 64 → g.entry f ≡ true → Started g (f + 1) (set l f (Some 0))
  started_entry h e = record {
    long = length-set l f (Some 0) ∙ s.long;
    below = below_more (λ k. found_in (set l f (Some 0)) k ≡ cond (g.entry k) (Some 0) None) f
        (λ k b. get_or-set_other l f k (Some 0) None (λ q. absurd (omega arith)) ∙ s.below k b)
        (rw e (get_or-set_same l f (Some 0) None (omega (arith, s.long))));
    rest = λ k b. get_or-set_other l f k (Some 0) None (λ q. absurd (omega arith)) ∙ s.rest k (omega arith);
  }

  pub started_pass : g.entry f ≡ false → Started g (f + 1) l
  started_pass e = record {
    long = s.long;
    below = below_more (λ k. found_in l k ≡ cond (g.entry k) (Some 0) None) f s.below (rw e (s.rest f (omega arith)));
    rest = λ k b. s.rest k (omega arith);
  }

-- the entries are level 0
pub levels_start : (g : Program) (depth : ℕ → Option ℕ) → ((f : ℕ) → f < g.functions → depth f ≡ cond (g.entry f) (Some 0) None) → Levels g 0 depth
levels_start g depth p = record { found = λ f d h e. go f d h (either_way (g.entry f)) e; complete = first }
  where
    go : (f d : ℕ) → f < g.functions → (g.entry f ≡ true) ⊎ (g.entry f ≡ false) → depth f ≡ Some d → (d ≤ 0) × Away g f d
    go f d h (inl e) q =
        let z : depth f ≡ Some 0 = rw e at (p f h) in
        let s : d ≡ 0 = cc in
        (omega arith, subst (λ (k : ℕ). Away g f k) (sym s) e)
    go f d h (inr e) q = let z : depth f ≡ None = rw e at (p f h) in absurd (cc)

    first : (f k : ℕ) → f < g.functions → k ≤ 0 → Away g f k → (d : ℕ) × (depth f ≡ Some d) × (d ≤ k)
    first f zero h l a = (0, rw a at (p f h), omega arith)
    first f (suc k) h l a = absurd (omega arith)

-- ---- one level more

module _ (g : Program) (level : ℕ) (old : ℕ → Option ℕ) (p : Levels g level old) (formed : WellFormed g) where
  module _ (new : ℕ → Option ℕ) (grew : Bool) (d : Deepening g level g.nodes old new grew) where
    -- a new depth is one more than the level
    new_found : (f k : ℕ) → f < g.functions → new f ≡ Some k → (k ≤ level + 1) × Away g f k
    new_found f k h q = go (d.moved f h)
      where
        go : (new f ≡ old f) ⊎ ((old f ≡ None) × (new f ≡ Some (level + 1)) × Away g f (suc level)) → (k ≤ level + 1) × Away g f k
        go (inl e) = let w = p.found f k h (sym e ∙ q) in (omega (arith, w.0), w.1)
        go (inr m) =
            let s : k ≡ level + 1 = cc (m.1) in
            (omega arith, subst (λ (j : ℕ). Away g f j) (sym (s ∙ add-one level)) m.2)

    -- what was found stands
    stands : (f k : ℕ) → f < g.functions → k ≤ level → Away g f k → (j : ℕ) × (new f ≡ Some j) × (j ≤ k)
    stands f k h l a = go (d.moved f h) (p.complete f k h l a)
      where
        go : (new f ≡ old f) ⊎ ((old f ≡ None) × (new f ≡ Some (level + 1)) × Away g f (suc level)) → (j : ℕ) × (old f ≡ Some j) × (j ≤ k) → (j : ℕ) × (new f ≡ Some j) × (j ≤ k)
        go (inl e) (j, q, b) = (j, e ∙ q, b)
        go (inr (z, e, b)) (j, q, c) = absurd (cc)

    -- a call or spawn from a function that had a depth leads to one that has a depth
    led : (n k : ℕ) → n < g.nodes → has_target (g.sort n) ≡ true → old (g.owner n) ≡ Some k → new (g.target n) ≡ None → ⊥
    led n k h s e z = go (ℕ_discrete k level)
      where
        from : (k ≤ level) × Away g (g.owner n) k
        from = p.found (g.owner n) k (formed.owner_exists n h) e

        go : Dec (k ≡ level) → ⊥
        go (yes q) = d.passed n h s (e ∙ ap Some q) z
        go (no q) =
            let w = stands (g.target n) (suc k) (formed.target_exists n h) (omega (arith, from.0, q)) (n, h, s, refl, from.1) in
            cc (w.1, z)

    pub levels_next : Levels g (level + 1) new
    levels_next = record { found = new_found; complete = λ f k h l a. go f k h l a (dec_le k level) }
      where
        last : (f k : ℕ) → f < g.functions → k ≡ suc level → Away g f (suc level) → (j : ℕ) × (new f ≡ Some j) × (j ≤ k)
        last f k h e (n, b, s, t, a) =
            let w = p.complete (g.owner n) level (formed.owner_exists n b) (omega arith) a in
            ⊎_elim
            (λ (z : new f ≡ None). absurd (led n w.0 b s w.1 (ap new t ∙ z)))
            (λ (v : (j : ℕ) × (new f ≡ Some j)). (v.0, v.1, omega (arith, (new_found f v.0 h v.1).0)))
            (known (new f))

        go : (f k : ℕ) → f < g.functions → k ≤ level + 1 → Away g f k → Dec (k ≤ level) → (j : ℕ) × (new f ≡ Some j) × (j ≤ k)
        go f k h l a (yes q) = stands f k h q a
        go f k h l a (no q) =
            let e : k ≡ suc level = omega (arith, q) in
            last f k h e (subst (λ (j : ℕ). Away g f j) e a)

  -- a level that leads to no other function is the last
  module _ (none : (n : ℕ) → n < g.nodes → leads_down g level old n ≡ false) where
    stays : Deepening g level g.nodes old old false
    stays = record {
      moved = λ f h. inl refl;
      passed = λ n h s o e. not_both (leads_down g level old n) (rw (s, o, e, eq-eqb level level refl) refl) (none n h);
      quiet = λ q f h. refl;
      falls = omega arith;
    }

    pub levels_done : Sounded g old
    levels_done = record { unreached = λ f h e k a. has_depth f k h a e; reached = least }
      where
        has_depth : (f k : ℕ) → f < g.functions → Away g f k → old f ≡ None → ⊥
        has_depth f zero h a e = let w = p.complete f 0 h (omega arith) a in cc (w.1, e)
        has_depth f (suc k) h (n, b, s, t, a) e =
            let o = formed.owner_exists n b in
            ⊎_elim
            (λ (z : old (g.owner n) ≡ None). has_depth (g.owner n) k o a z)
            (λ (v : (j : ℕ) × (old (g.owner n) ≡ Some j)). led old false stays n v.0 b s v.1 (ap old t ∙ e))
            (known (old (g.owner n)))

        least : (f j : ℕ) → f < g.functions → old f ≡ Some j → Fewest g f j
        least f j h e = record { reached = (p.found f j h e).1; fewest = λ k a. within k a (dec_le k level) }
          where
            within : (k : ℕ) → Away g f k → Dec (k ≤ level) → j ≤ k
            within k a (yes l) =
                let w = p.complete f k h l a in
                let s : j ≡ w.0 = cc (w.1, e) in
                omega (arith, w.2)
            within k a (no l) = omega (arith, (p.found f j h e).0, l)

-- ---- the nodes one after another

pub deepened_none : (g : Program) (level : ℕ) (depth : ℕ → Option ℕ) → Deepening g level 0 depth depth false
deepened_none g level depth = record {
  moved = λ f h. inl refl;
  passed = λ m h. absurd (omega arith);
  quiet = λ q f h. refl;
  falls = omega arith;
}

module _ (g : Program) (level n : ℕ) (old : ℕ → Option ℕ) (p : Levels g level old) (formed : WellFormed g) (exists : n < g.nodes) (l : List (Option ℕ)) (grew : Bool) (d : Deepening g level n old (found_in l) grew) where
  -- the functions of the level are those that they were
  level_was : (f : ℕ) → f < g.functions → found_in l f ≡ Some level → old f ≡ Some level
  level_was f h e = go (d.moved f h)
    where
      go : (found_in l f ≡ old f) ⊎ ((old f ≡ None) × (found_in l f ≡ Some (level + 1)) × Away g f (suc level)) → old f ≡ Some level
      go (inl s) = sym s ∙ e
      go (inr m) = let s : level ≡ level + 1 = cc (m.1, e) in absurd (omega arith)

  level_is : (f : ℕ) → f < g.functions → old f ≡ Some level → found_in l f ≡ Some level
  level_is f h e = go (d.moved f h)
    where
      go : (found_in l f ≡ old f) ⊎ ((old f ≡ None) × (found_in l f ≡ Some (level + 1)) × Away g f (suc level)) → found_in l f ≡ Some level
      go (inl s) = s ∙ e
      go (inr m) = absurd (cc (m.0, e))

  -- node n leads to no function that has no depth yet
  pub deepened_pass : leads_down g level (found_in l) n ≡ false → Deepening g level (n + 1) old (found_in l) grew
  deepened_pass h = record {
    moved = d.moved;
    passed = below_more (λ m. has_target (g.sort m) ≡ true → old (g.owner m) ≡ Some level → found_in l (g.target m) ≡ None → ⊥) n d.passed here;
    quiet = d.quiet;
    falls = d.falls;
  }
    where
      here : has_target (g.sort n) ≡ true → old (g.owner n) ≡ Some level → found_in l (g.target n) ≡ None → ⊥
      here s o e =
          not_both (leads_down g level (found_in l) n)
          (rw (s, level_is (g.owner n) (formed.owner_exists n exists) o, e, eq-eqb level level refl) refl)
          h

  -- or it does, and its target gets the next level
  module _ (long : g.functions ≤ length l) (h : leads_down g level (found_in l) n ≡ true) where
    from_level : (has_target (g.sort n) && is_level level (found_in l (g.owner n))) ≡ true
    from_level = and_true_left _ (is_none (found_in l (g.target n))) h

    had_none : found_in l (g.target n) ≡ None
    had_none = none_told _ (and_true_right (has_target (g.sort n) && is_level level (found_in l (g.owner n))) _ h)

    reached_next : Away g (g.target n) (suc level)
    reached_next =
        let o = formed.owner_exists n exists in
        let e = level_was (g.owner n) o (level_told level _ (and_true_right (has_target (g.sort n)) _ from_level)) in
        (n, exists, and_true_left (has_target (g.sort n)) _ from_level, refl, (p.found (g.owner n) level o e).1)

    abbrev new : List (Option ℕ)
    new = set l (g.target n) (Some (level + 1))

    new_at : found_in new (g.target n) ≡ Some (level + 1)
    new_at = get_or-set_same l (g.target n) (Some (level + 1)) None (omega (arith, formed.target_exists n exists))

    -- who has no depth now had none
    still_none : (f : ℕ) → found_in new f ≡ None → found_in l f ≡ None
    still_none f e = go (ℕ_discrete f (g.target n))
      where
        go : Dec (f ≡ g.target n) → found_in l f ≡ None
        go (yes q) = rw q had_none
        go (no q) = sym (get_or-set_other l (g.target n) f (Some (level + 1)) None q) ∙ e

    pub deepened_more : Deepening g level (n + 1) old (found_in new) true
    deepened_more = record {
      moved = λ f b. go f b (ℕ_discrete f (g.target n));
      passed = below_more (λ m. has_target (g.sort m) ≡ true → old (g.owner m) ≡ Some level → found_in new (g.target m) ≡ None → ⊥) n
          (λ m b s o e. d.passed m b s o (still_none (g.target m) e))
          (λ s o e. cc (new_at, e));
      quiet = λ q. not_both true refl q;
      falls = omega (arith, fewer, d.falls);
    }
      where
        Moved : (ℕ → Option ℕ) → ℕ → Type 0
        Moved now f = (now f ≡ old f) ⊎ ((old f ≡ None) × (now f ≡ Some (level + 1)) × Away g f (suc level))

        had : (f : ℕ) → found_in l f ≡ None → Moved (found_in l) f → old f ≡ None
        had f e (inl s) = sym s ∙ e
        had f e (inr m) = m.0

        go : (f : ℕ) → f < g.functions → Dec (f ≡ g.target n) → Moved (found_in new) f
        go f b (yes q) = rw q (inr (had (g.target n) had_none (d.moved (g.target n) (formed.target_exists n exists)), new_at, reached_next))
        go f b (no q) = rw (get_or-set_other l (g.target n) f (Some (level + 1)) None q) (d.moved f b)

        fewer : unfound g (found_in new) < unfound g (found_in l)
        fewer =
            count_strict (λ f. is_none (found_in new f)) (λ f. is_none (found_in l f)) g.functions (g.target n) (formed.target_exists n exists)
            (λ f e. ap is_none (still_none f (none_told _ e)))
            (ap is_none new_at)
            (ap is_none had_none)

-- where all nodes were looked at
module _ (g : Program) (level : ℕ) (old : ℕ → Option ℕ) (formed : WellFormed g) where
  pub deepened_all : (l : List (Option ℕ)) (grew : Bool) (o : Option (List (Option ℕ))) → Deepening g level g.nodes old (found_in l) grew → o ≡ then_some grew l → Deepened g level old o
  deepened_all l true o d e = rw e d
  deepened_all l false o d e = rw e (λ n h. ⊎_elim (λ t. absurd (never n h t)) (λ f. f) (either_way (leads_down g level old n)))
    where
      never : (n : ℕ) → n < g.nodes → leads_down g level old n ≡ true → ⊥
      never n h t =
          let v = and_true_left (has_target (g.sort n) && is_level level (old (g.owner n))) _ t in
          d.passed n h (and_true_left (has_target (g.sort n)) _ v)
          (level_told level _ (and_true_right (has_target (g.sort n)) _ v))
          (d.quiet refl (g.target n) (formed.target_exists n h) ∙ none_told _ (and_true_right (has_target (g.sort n) && is_level level (old (g.owner n))) _ t))

-- ---- level after level

-- Where the search stands: it goes on from a level, and each level but the last has taken at least one function.
pub record Sounding (g : Program) (level : ℕ) (depth : ℕ → Option ℕ) : Type 0 where
  pub levels_are : Levels g level depth
  pub few : level + unfound g depth ≤ 64

pub sounding_first : (g : Program) (depth : ℕ → Option ℕ) → WellFormed g → ((f : ℕ) → f < g.functions → depth f ≡ cond (g.entry f) (Some 0) None) → Sounding g 0 depth
sounding_first g depth formed p = record {
  levels_are = levels_start g depth p;
  few = omega (arith, formed.few_functions, count_le (λ f. is_none (depth f)) g.functions);
}

pub sounding_next : (g : Program) (level : ℕ) (old new : ℕ → Option ℕ) → WellFormed g → Sounding g level old → Deepening g level g.nodes old new true → Sounding g (level + 1) new
sounding_next g level old new formed p d = record {
  levels_are = levels_next g level old p.levels_are formed new true d;
  few = omega (arith, p.few, d.falls);
}

-- ---- 0 where no entry reaches

pub depth_known : (g : Program) (f : ℕ) (depth : ℕ → Option ℕ) → Sounded g depth → f < g.functions → DepthOf g f (unwrap_or (depth f) 0)
depth_known g f depth s h = go (depth f) refl
  where
    go : (o : Option ℕ) → depth f ≡ o → DepthOf g f (unwrap_or o 0)
    go None e = inr (refl, s.unreached f h e)
    go (Some d) e = inl (s.reached f d h e)
