-- When a pass has settled the set.
use Prim.Native.Nat.{ℕ, ◌<◌, ◌≤◌}
use mathlib.Core.Path.{◌≡◌, refl, sym, ◌∙◌, subst}
use mathlib.Core.List.{List}
use mathlib.Core.Bool.{Bool, true, false}
use mathlib.Core.Logic.{◌⊎◌, inl, inr, ⊎_elim}
use native.Mathlib.Omega.{arith}
use borrow.Author.Tests.{eqb-true, eq-eqb}
use Rattle.table.specs.Record.{plain, call, sync}
use Rattle.table.specs.Checks.{Accepted}
use Rattle.table.specs.Program.{Program, program_of}
use Rattle.table.specs.WellFormed.{WellFormed}
use Rattle.table.proofs.Booleans.{either_way, not_both, or_true}
use Rattle.table.proofs.Laws.{well_formed}
use Rattle.call_order.specs.Calls.{Calls, NoneReachesItself}
use Rattle.call_order.specs.CallOrder.{CallOrder}
use Rattle.call_order.proofs.Laws.{each_once, called_first}
use Rattle.sync.specs.Paths.{Path, step, stop, Holds, Clear}
use Rattle.sync.specs.Synchronising.{Closed, Synchronising}
use Rattle.sync.specs.Pass.{Through, call_of, Look, barred, passed, Looks, SyncsAlone}
use Rattle.sync.proofs.Paths.{path_owner, clear_holds_none}
use Rattle.sync.proofs.Calls.{call_exists, call_of_sort, call_of_target, call_of_exists}
use Rattle.sync.proofs.Looking.{looks_grow, looks_add, looks_below, Seen, seen}

-- a part of the synchronising set, with every sync
pub record Part (g : Program) (set : ℕ → Bool) : Type 0 where
  pub syncs : (n : ℕ) → g.sort n ≡ sync → set n ≡ true
  pub sorts : (n : ℕ) → set n ≡ true → (g.sort n ≡ sync) ⊎ (g.sort n ≡ call)
  pub below : (other : ℕ → Bool) → Closed g other → (n : ℕ) → set n ≡ true → other n ≡ true

pub part_syncs : (g : Program) (set : ℕ → Bool) → SyncsAlone g set → Part g set
part_syncs g set e = record {
  syncs = λ n h. e n ∙ eq-eqb _ _ h;
  sorts = λ n h. inl (eqb-true _ _ (sym (e n) ∙ h));
  below = λ other k n h. k.syncs n (eqb-true _ _ (sym (e n) ∙ h));
}

module _ (t : List ℕ) (ok : Accepted t) (order : ℕ → ℕ) (o : CallOrder (program_of t) order) where
  w : WellFormed (program_of t)
  w = well_formed t ok

  module _ (from set : ℕ → Bool) (part : Part (program_of t) from) (looks : Looks (program_of t) order from (program_of t).functions set) where
    pub part_more : Part (program_of t) set
    part_more = record {
      syncs = λ n h. looks_grow (program_of t) order from (program_of t).functions set looks n (part.syncs n h);
      sorts = λ n h. ⊎_elim (part.sorts n) (λ c. inr (call_of_sort t _ n c.1)) (looks_add (program_of t) order from (program_of t).functions set looks n h);
      below = λ other k. looks_below (program_of t) order from other k (part.below other k) (program_of t).functions set looks;
    }

    plain_out : (n : ℕ) → (program_of t).sort n ≡ plain → set n ≡ false
    plain_out n h =
        ⊎_elim
        (λ (m : set n ≡ true). ⊎_elim (λ e. absurd (omega (arith, h, e))) (λ e. absurd (omega (arith, h, e))) (part_more.sorts n m))
        (λ x. x)
        (either_way (set n))

    -- What is in the set now of the function at place i was in it when that was looked at.
    abbrev pub Own : ℕ → Type 0
    Own i = (v : Seen (program_of t) order from (program_of t).functions set i) (y : ℕ) → set y ≡ true → (program_of t).owner y ≡ order i → v.before y ≡ true

    -- the look at the function at place i
    module _ (i : ℕ) (v : Seen (program_of t) order from (program_of t).functions set i) (own : (y : ℕ) → set y ≡ true → (program_of t).owner y ≡ order i → v.before y ≡ true) where
      -- a path inside the function that was clear when it was looked at is still clear
      still_clear : {a n : ℕ} (p : Path (program_of t) a n) → (program_of t).owner a ≡ order i → Clear v.before p → Clear set p
      still_clear stop e c = tt
      still_clear (step {n = n} p x) e c = (still_clear p e c.0, out)
        where
          out : set n ≡ false
          out = ⊎_elim (λ h. not_both (v.before n) (own n h (sym (path_owner (program_of t) w (step p x)) ∙ e)) c.1) (λ h. h) (either_way (set n))

      -- where every path through it holds a member now, none was clear then
      called : (f : ℕ) → f < (program_of t).functions → order i ≡ f → ((p : Path (program_of t) ((program_of t).first f) ((program_of t).exit f)) → Holds set p) → (n : ℕ) → call_of (program_of t) f n ≡ true → set n ≡ true
      called f l e every n c = go v.look
        where
          go : Look (program_of t) (order i) v.before v.after → set n ≡ true
          go (barred b a) = v.kept n (a n ∙ rw (e, c) (or_true (v.before n)))
          go (passed x a) =
              let p = subst (λ (m : ℕ). Through (program_of t) v.before ((program_of t).first m) ((program_of t).exit m)) e x in
              let y = every p.0 in
              let clear = still_clear p.0 ((w.first_own f l).owner_is ∙ sym e) p.1 in
              not_both (set y.0) y.2 (clear_holds_none (program_of t) set p.0 (plain_out ((program_of t).first f) (w.first_own f l).plain_is) clear y.0 y.1)

    -- closed, if what is in it of a function was in it when that was looked at
    settled_closed : ((i : ℕ) → i < (program_of t).functions → Own i) → Closed (program_of t) set
    settled_closed own = record { syncs = part_more.syncs; calls = calls }
      where
        calls : (n : ℕ) → (program_of t).sort n ≡ call → ((p : Path (program_of t) ((program_of t).first ((program_of t).target n)) ((program_of t).exit ((program_of t).target n))) → Holds set p) → set n ≡ true
        calls n c every =
            let f = (program_of t).target n in
            let h = call_exists t n c in
            let l = w.target_exists n h in
            let x = each_once (program_of t) order o f l in
            let v = seen (program_of t) order from (program_of t).functions set looks x.0 x.1 in
            called x.0 v (own x.0 x.1 v) f l x.2 every n (rw (eq-eqb _ _ c, eq-eqb f f refl) refl)

    settled : ((i : ℕ) → i < (program_of t).functions → Own i) → Synchronising (program_of t) set
    settled own = record { closed = settled_closed own; smallest = part_more.below }

    -- a pass that adds nothing has found that the set is settled
    pub settled_quiet : ((n : ℕ) → set n ≡ true → from n ≡ true) → Synchronising (program_of t) set
    settled_quiet q = settled (λ i l v y h e. v.grown y (q y h))

    -- Where no function reaches itself, a call that is in the set was added before its owner was looked at: its target stands earlier.
    pub settled_first : NoneReachesItself (program_of t) → SyncsAlone (program_of t) from → Synchronising (program_of t) set
    settled_first none start = settled own
      where
        own : (i : ℕ) → i < (program_of t).functions → Own i
        own i l v y h e = ⊎_elim (λ b. b) (λ a. absurd (later a.0 a.1 a.2 a.3)) (v.source y h)
          where
            -- it was not added by that look or a later one
            later : (j : ℕ) → i ≤ j → j < (program_of t).functions → call_of (program_of t) (order j) y ≡ true → ⊥
            later j le lt c =
                let calls : Calls (program_of t) (order i) (order j) = record { node = y; exists = call_of_exists t _ y c; call_is = call_of_sort t _ y c; owner_is = e; target_is = sym (call_of_target t _ y c) } in
                let x = called_first (program_of t) order o none i l (order j) calls in
                let u = (each_once (program_of t) order o (order j) (o.each j lt).exists).3 in
                omega (arith, le, x.1, u x.0 (omega (arith, x.1, l)) x.2, u j lt refl)
