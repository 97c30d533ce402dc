-- Passes from the syncs on, until one adds nothing, give the smallest set.
use Prim.Native.Nat.{ℕ, ◌+◌, ◌<◌, ◌≤◌}
use mathlib.Core.Path.{◌≡◌, refl, sym, ◌∙◌, subst}
use mathlib.Core.List.{List}
use mathlib.Core.Bool.{true}
use mathlib.Core.Logic.{◌⊎◌, inl, inr, ⊎_elim}
use native.Mathlib.Omega.{arith}
use lib.ListN.{length}
use Rattle.table.specs.Checks.{Accepted}
use Rattle.table.specs.Program.{program_of}
use Rattle.table.specs.WellFormed.{WellFormed}
use Rattle.table.proofs.Booleans.{same_test}
use Rattle.table.proofs.Laws.{well_formed}
use Rattle.call_order.specs.Calls.{NoneReachesItself}
use Rattle.call_order.specs.CallOrder.{CallOrder}
use Rattle.call_order.proofs.Laws.{each_once}
use Rattle.sync.specs.declared.pass.Pass.{Pass}
use Rattle.sync.specs.Answer.{Sets}
use Rattle.sync.specs.Pass.{Through, SyncsAlone}
use Rattle.sync.specs.Passing.{PassedBy}
use Rattle.sync.specs.Room.{room}
use Rattle.sync.specs.Synchronising.{Synchronising, ReachedBy}
use Rattle.sync.specs.Words.{member}
use Rattle.sync.proofs.Calls.{sort_exists, call_exists}
use Rattle.sync.proofs.Closing.{Part, part_syncs, part_more, settled_quiet}
use Rattle.sync.proofs.Looking.{looks_grow}
use Rattle.sync.proofs.Passing.{through_below}
use Rattle.sync.proofs.Paths.{path_owner, path_exists}
use Rattle.sync.proofs.Rooms.{room_fits, room_grown}

module _ (t : List ℕ) (ok : Accepted t) (order : ℕ → ℕ) (o : CallOrder (program_of t) order) where
  w : WellFormed (program_of t)
  w = well_formed t ok

  -- a pass over the functions from this set
  pub record Passed (set : List ℕ) (pass : Pass) : Type 0 where
    pub by : PassedBy (program_of t) order set (program_of t).functions pass
    pub whole : NoneReachesItself (program_of t) → SyncsAlone (program_of t) (member set) → Synchronising (program_of t) (member pass.set)

  -- where the work stands: so many passes, of which this one from this set was the last
  pub record Settling (set : List ℕ) (pass : Pass) (passes : ℕ) : Type 0 where
    pub part : Part (program_of t) (member set)
    pub passed : Passed set pass
    pub few : passes + room set ≤ 513
    pub first : NoneReachesItself (program_of t) → ((passes ≡ 1) × SyncsAlone (program_of t) (member set)) ⊎ ((passes ≡ 2) × Synchronising (program_of t) (member set))

  pub settling_starts : (set : List ℕ) (pass : Pass) → SyncsAlone (program_of t) (member set) → Passed set pass → Settling set pass 1
  settling_starts set pass start p = record {
    part = part_syncs (program_of t) (member set) start;
    passed = p;
    few = omega (arith, room_fits set);
    first = λ none. inl (refl, start);
  }

  module _ (set : List ℕ) (pass : Pass) (passes : ℕ) (s : Settling set pass passes) where
    grows : (n : ℕ) → member set n ≡ true → member pass.set n ≡ true
    grows = looks_grow (program_of t) order (member set) (program_of t).functions (member pass.set) s.passed.by.looks

    more : Part (program_of t) (member pass.set)
    more = part_more t ok order o (member set) (member pass.set) s.part s.passed.by.looks

    -- ---- a pass that has added calls

    module _ (p : length set ≡ 8) (q : length pass.set ≡ 8) (other : ((n : ℕ) → member pass.set n ≡ member set n) → ⊥) where
      pub settling_falls : room pass.set < room set
      settling_falls = room_grown set pass.set p q grows other

      -- Without recursion it was the first one: nothing can be added to the whole set.
      once : NoneReachesItself (program_of t) → ((passes ≡ 1) × SyncsAlone (program_of t) (member set)) ⊎ ((passes ≡ 2) × Synchronising (program_of t) (member set)) → (passes + 1 ≡ 2) × Synchronising (program_of t) (member pass.set)
      once none (inl x) = (omega (arith, x.0), s.passed.whole none x.1)
      once none (inr x) = absurd (other (λ n. same_test (member pass.set n) (member set n) (more.below (member set) x.1.closed n) (grows n)))

      pub settling_more : (pass' : Pass) → Passed pass.set pass' → Settling pass.set pass' (passes + 1)
      settling_more pass' p' = record {
        part = more;
        passed = p';
        few = omega (arith, s.few, settling_falls);
        first = λ none. inr (once none (s.first none));
      }

    -- ---- a pass that has added nothing

    module _ (same : (n : ℕ) → member pass.set n ≡ member set n) where
      back : (n : ℕ) → member pass.set n ≡ true → member set n ≡ true
      back n h = sym (same n) ∙ h

      set_settled : Synchronising (program_of t) (member set)
      set_settled =
          subst (Synchronising (program_of t)) (λ i n. same n i)
          (settled_quiet t ok order o (member set) (member pass.set) s.part s.passed.by.looks back)

      set_exists : (n : ℕ) → member set n ≡ true → n < (program_of t).nodes
      set_exists n h = ⊎_elim (λ e. sort_exists t n (λ k. omega (arith, e, k))) (call_exists t n) (s.part.sorts n h)

      reached_by : (n : ℕ) → member pass.reached n ≡ true → ReachedBy (program_of t) (member set) n
      reached_by n h =
          let x = s.passed.by.sound n h in
          let own = w.first_own (order x.0) (o.each x.0 x.1).exists in
          let e : order x.0 ≡ (program_of t).owner n = sym own.owner_is ∙ path_owner (program_of t) w x.2.0 in
          (path_exists (program_of t) w x.2.0 own.exists, subst (λ (f : ℕ). Through (program_of t) (member set) ((program_of t).first f) n) e x.2)

      reaches : (n : ℕ) → ReachedBy (program_of t) (member set) n → member pass.reached n ≡ true
      reaches n h =
          let x = each_once (program_of t) order o ((program_of t).owner n) (w.owner_exists n h.0) in
          s.passed.by.complete x.0 n x.1
          (through_below (program_of t) (member set) (member pass.set) back _ n
          (subst (λ (f : ℕ). Through (program_of t) (member set) ((program_of t).first f) n) (sym x.2) h.1))

      pub settling_ends : Sets (program_of t) set pass.reached
      settling_ends = record { set = set_settled; exists = set_exists; reach = λ n. (reached_by n, reaches n) }

    pub settling_few : NoneReachesItself (program_of t) → passes ≤ 2
    settling_few none = ⊎_elim (λ x. omega (arith, x.0)) (λ x. omega (arith, x.0)) (s.first none)
