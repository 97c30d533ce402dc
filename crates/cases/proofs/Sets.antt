-- The synchronising set and the reached set of a program, computed: both grow from none, and a test sees that they are done growing.
use Prim.Native.Nat.{ℕ, zero, suc, ◌<◌, ◌≤◌}
use mathlib.Core.Path.{◌≡◌, refl, sym, subst}
use mathlib.Core.Bool.{Bool, true, false, not, ◌&&◌, ◌||◌}
use mathlib.Core.List.{List, [], ◌∷◌}
use mathlib.Core.Logic.{⊎_elim}
use native.Mathlib.Omega.{arith}
use native.Mathlib.Decide.{dec_lt}
use lib.Dec.{eqb, leb}
use lib.ListN.{length, get_or, get_or-eq_default}
use borrow.Author.Tests.{eqb-true, eq-eqb, leb-true, not-true}
use Rattle.table.specs.Below.{any}
use Rattle.table.specs.Record.{plain, call, sync}
use Rattle.table.specs.Program.{Program}
use Rattle.table.specs.WellFormed.{WellFormed}
use Rattle.table.proofs.Below.{any_some, any_which}
use Rattle.table.proofs.Booleans.{either_way, not_both, or_true, and_true_left, and_true_right}
use Rattle.sync.specs.Paths.{Path, stop, step, On, Holds, Clear}
use Rattle.sync.specs.Synchronising.{Closed, Synchronising, ReachedBy, Reached}
use Rattle.sync.proofs.Paths.{clear_or_holds, clear_holds_none}
use Rattle.size.specs.Numbers.{at}
use Rattle.cases.proofs.Rows.{Rows, leads, program_from}

-- a list of bits as a set
abbrev pub has : List Bool → ℕ → Bool
has l n = get_or l n false

-- the values of a test below n, in order
unfoldable pub bits : (ℕ → Bool) → ℕ → List Bool
bits f zero = []
bits f (suc n) = f 0 ∷ bits (λ k. f (suc k)) n

-- a set of numbers below n after k times: `add` says what the set so far leads to
unfoldable pub grown : (List Bool → ℕ → Bool) → ℕ → ℕ → List Bool
grown add n zero = []
grown add n (suc k) = bits (add (grown add n k)) n

-- the set leads to nothing more
abbrev full : (List Bool → ℕ → Bool) → ℕ → List Bool → Bool
full add n l = not (any (λ i. add l i && not (has l i)) n)

-- a first node of some function
abbrev is_first : Rows → ℕ → Bool
is_first r n = any (λ f. eqb (at r.firsts f) n) r.functions

-- a node that an edge leads to from a node of the list
abbrev follows : Rows → List Bool → ℕ → Bool
follows r l n = any (λ e. has l (at r.froms e) && eqb (at r.tos e) n) r.edges

-- what a sweep over the edges reaches: the first nodes, and the nodes outside the set that follow
abbrev sweep : Rows → List Bool → List Bool → ℕ → Bool
sweep r set l n = is_first r n || (not (has set n) && follows r l n)

-- the nodes reached from first nodes along edges to nodes outside the set: as many sweeps over the edges as there are nodes
unfoldable pub reach_of : Rows → List Bool → List Bool
unfolding grown
reach_of r set = grown (sweep r set) r.nodes r.nodes

-- the sweeps were enough
abbrev swept : Rows → List Bool → Bool
swept r set = full (sweep r set) r.nodes (reach_of r set)

-- a call whose target's exit is not reached, however many the sweeps
abbrev blocked : Rows → List Bool → ℕ → Bool
blocked r set n = eqb (at r.sorts n) call && swept r set && not (has (reach_of r set) (at r.exits (at r.targets n)))

-- what a round finds: the syncs, and the calls that the set so far blocks
abbrev round : Rows → List Bool → ℕ → Bool
round r set n = eqb (at r.sorts n) sync || blocked r set n

-- the set: the syncs, and then, round after round, the calls whose target's exit is not reached. The calls of one target come in one round.
unfoldable pub set_of : Rows → List Bool
unfolding grown
set_of r = grown (round r) r.nodes (suc r.functions)

-- another round or sweep would add nothing, and past the nodes no sort is given
unfoldable pub sets_test : Rows → Bool
unfolding set_of
sets_test r = leb (length r.sorts) r.nodes && full (round r) r.nodes (set_of r) && swept r (set_of r)

all_three : (a b c : Bool) → (a && b && c) ≡ true → (a ≡ true) × (b ≡ true) × (c ≡ true)
all_three a b c h = let u = and_true_left (a && b) c h in (and_true_left a b u, and_true_right a b u, and_true_right (a && b) c h)

or_either : {A : Type 0} (a b : Bool) → (a ≡ true → A) → (b ≡ true → A) → (a || b) ≡ true → A
or_either true b f g h = f refl
or_either false b f g h = g h

-- ---- growing sets

bits_test : (f : ℕ → Bool) (n i : ℕ) → has (bits f n) i ≡ true → f i ≡ true
unfolding bits
bits_test f zero i h = not_both false h refl
bits_test f (suc n) zero h = h
bits_test f (suc n) (suc i) h = bits_test (λ k. f (suc k)) n i h

module _ (add : List Bool → ℕ → Bool) (n : ℕ) where
  -- a property that passes from a set to what it leads to holds of all members
  grown_all : (P : ℕ → Type 0) → ((l : List Bool) → ((i : ℕ) → has l i ≡ true → P i) → (i : ℕ) → add l i ≡ true → P i) → (k i : ℕ) → has (grown add n k) i ≡ true → P i
  unfolding grown
  grown_all P added zero i h = not_both false h refl
  grown_all P added (suc k) i h = added (grown add n k) (grown_all P added k) i (bits_test _ n i h)

  -- what a full set leads to is in it
  full_has : (l : List Bool) → full add n l ≡ true → (i : ℕ) → i < n → add l i ≡ true → has l i ≡ true
  full_has l f i b h =
      ⊎_elim
      (λ x. x)
      (λ (o : has l i ≡ false). not_both _ (any_some (λ i. add l i && not (has l i)) n i b (rw (h, o) refl)) (not-true _ f))
      (either_way (has l i))

-- ---- the reached set

-- a path from a to n with no member after its first node
abbrev ClearPath : Program → List Bool → ℕ → ℕ → Type 0
ClearPath g set a n = (p : Path g a n) × Clear (has set) p

module _ (r : Rows) (w : WellFormed (program_from r)) where
  module _ (set : List Bool) where
    -- each node that a sweep reaches is reached by a clear path
    first_by : (n : ℕ) → is_first r n ≡ true → ReachedBy (program_from r) (has set) n
    first_by n h =
        let v = any_which _ r.functions h in
        let a = at r.firsts v.0 in
        let own = w.first_own v.0 v.1 in
        subst (ReachedBy (program_from r) (has set)) (eqb-true a n v.2)
        (own.exists, subst (λ (f : ℕ). ClearPath (program_from r) set (at r.firsts f) a) (sym own.owner_is) (stop, tt))

    follows_by : (l : List Bool) → ((n : ℕ) → has l n ≡ true → ReachedBy (program_from r) (has set) n) → (n : ℕ) → (not (has set n) && follows r l n) ≡ true → ReachedBy (program_from r) (has set) n
    follows_by l old n h =
        let v = any_which _ r.edges (and_true_right (not (has set n)) _ h) in
        let b = at r.froms v.0 in
        let q : eqb (at r.tos v.0) n ≡ true = and_true_right (has l b) _ v.2 in
        let e : (program_from r).edge b n ≡ true = any_some (leads r b n) r.edges v.0 v.1 (rw (eq-eqb b b refl, q) refl) in
        let x = (old b (and_true_left (has l b) _ v.2)).1 in
        let t = w.edge_together b n e in
        let o = not-true _ (and_true_left (not (has set n)) _ h) in
        (t.to_exists, subst (λ (f : ℕ). ClearPath (program_from r) set (at r.firsts f) n) t.owner_same (step x.0 e, (x.1, o)))

    reach_sound : (n : ℕ) → has (reach_of r set) n ≡ true → ReachedBy (program_from r) (has set) n
    unfolding reach_of
    reach_sound =
        grown_all (sweep r set) r.nodes (ReachedBy (program_from r) (has set))
        (λ l old n. or_either (is_first r n) _ (first_by n) (follows_by l old n)) r.nodes

    -- and with enough sweeps each node that a clear path reaches is found
    module _ (s : swept r set ≡ true) where
      first_reached : (f : ℕ) → f < r.functions → has (reach_of r set) (at r.firsts f) ≡ true
      first_reached f h =
          full_has (sweep r set) r.nodes (reach_of r set) s (at r.firsts f) (w.first_own f h).exists
          (rw (any_some (λ k. eqb (at r.firsts k) (at r.firsts f)) r.functions f h (eq-eqb (at r.firsts f) _ refl)) refl)

      edge_reached : (b n : ℕ) → (program_from r).edge b n ≡ true → has (reach_of r set) b ≡ true → has set n ≡ false → has (reach_of r set) n ≡ true
      edge_reached b n e h o =
          let v = any_which (leads r b n) r.edges e in
          let p = eqb-true (at r.froms v.0) b (and_true_left _ _ v.2) in
          let q = and_true_right (eqb (at r.froms v.0) b) _ v.2 in
          let y : follows r (reach_of r set) n ≡ true = any_some _ r.edges v.0 v.1 (rw (p, h, q) refl) in
          full_has (sweep r set) r.nodes (reach_of r set) s n (w.edge_together b n e).to_exists (rw (o, y) (or_true (is_first r n)))

      path_reached : {a n : ℕ} (p : Path (program_from r) a n) → Clear (has set) p → has (reach_of r set) a ≡ true → has (reach_of r set) n ≡ true
      path_reached stop c h = h
      path_reached (step {p = b} {n = n} p e) c h = edge_reached b n e (path_reached p c.0 h) c.1

      reach_exact : Reached (program_from r) (has set) (has (reach_of r set))
      reach_exact n = (reach_sound n, λ x. path_reached x.1.0 x.1.1 (first_reached (at r.owners n) (w.owner_exists n x.0)))

  -- ---- the set

  module _ (short : length r.sorts ≤ r.nodes) where
    -- a node that is not plain exists
    sort_exists : (n s : ℕ) → at r.sorts n ≡ suc s → n < r.nodes
    sort_exists n s e = go (dec_lt n r.nodes)
      where
        go : Dec (n < r.nodes) → n < r.nodes
        go (yes h) = h
        go (no h) = absurd (omega (arith, e, get_or-eq_default r.sorts 0 {n = n} (omega arith)))

    -- the set lies in every closed one: where an exit is not reached, every path to it holds a member
    set_below : (other : ℕ → Bool) → Closed (program_from r) other → (n : ℕ) → has (set_of r) n ≡ true → other n ≡ true
    unfolding set_of
    set_below other k =
        grown_all (round r) r.nodes (λ n. other n ≡ true)
        (λ set old n. or_either _ (blocked r set n) (λ e. k.syncs n (eqb-true _ _ e)) (in_other set old n)) (suc r.functions)
      where
        in_other : (set : List Bool) → ((n : ℕ) → has set n ≡ true → other n ≡ true) → (n : ℕ) → blocked r set n ≡ true → other n ≡ true
        in_other set old n h =
            let f = at r.targets n in
            let exit = at r.exits f in
            let v = all_three (eqb (at r.sorts n) call) (swept r set) (not (has (reach_of r set) exit)) h in
            let c = eqb-true (at r.sorts n) call v.0 in
            let b = first_reached set v.1 f (w.target_exists n (sort_exists n 0 c)) in
            k.calls n c (λ p.
            ⊎_elim
            (λ (q : Clear (has set) p). not_both (has (reach_of r set) exit) (path_reached set v.1 p q b) (not-true _ v.2))
            (λ (x : Holds (has set) p). (x.0, x.1, old x.0 x.2))
            (clear_or_holds (program_from r) (has set) p))

    -- and the nodes that are not plain are a closed one, so a first node is no member
    plain_out : (n : ℕ) → at r.sorts n ≡ plain → has (set_of r) n ≡ false
    plain_out n e =
        ⊎_elim
        (λ (h : has (set_of r) n ≡ true). not_both _ (set_below (λ m. not (eqb (at r.sorts m) plain)) closed n h) (rw e refl))
        (λ x. x)
        (either_way (has (set_of r) n))
      where
        closed : Closed (program_from r) (λ m. not (eqb (at r.sorts m) plain))
        closed = record { syncs = λ m e. rw e refl; calls = λ m e every. rw e refl }

    -- where the exit of f is reached, a path to it holds no member
    free_path : (f : ℕ) → f < r.functions → has (reach_of r (set_of r)) (at r.exits f) ≡ true → (p : Path (program_from r) (at r.firsts f) (at r.exits f)) × ((y : ℕ) → On y p → has (set_of r) y ≡ false)
    free_path f l h =
        let x = (reach_sound (set_of r) (at r.exits f) h).1 in
        let q = subst (λ (o : ℕ). ClearPath (program_from r) (set_of r) (at r.firsts o) (at r.exits f)) (w.exit_own f l).owner_is x in
        (q.0, clear_holds_none (program_from r) (has (set_of r)) q.0 (plain_out (at r.firsts f) (w.first_own f l).plain_is) q.1)

    set_closed : full (round r) r.nodes (set_of r) ≡ true → swept r (set_of r) ≡ true → Closed (program_from r) (has (set_of r))
    set_closed done s = record { syncs = λ n e. member n (sort_exists n 2 e) (rw e refl); calls = calls }
      where
        member : (n : ℕ) → n < r.nodes → round r (set_of r) n ≡ true → has (set_of r) n ≡ true
        member = full_has (round r) r.nodes (set_of r) done

        calls : (n : ℕ) → at r.sorts n ≡ call → ((p : Path (program_from r) (at r.firsts (at r.targets n)) (at r.exits (at r.targets n))) → Holds (has (set_of r)) p) → has (set_of r) n ≡ true
        calls n c every =
            let f = at r.targets n in
            let b = sort_exists n 0 c in
            ⊎_elim
            (λ (h : has (reach_of r (set_of r)) (at r.exits f) ≡ true).
            let p = free_path f (w.target_exists n b) h in
            let y = every p.0 in
            not_both (has (set_of r) y.0) y.2 (p.1 y.0 y.1))
            (λ (h : has (reach_of r (set_of r)) (at r.exits f) ≡ false). member n b (rw (c, s, h) refl))
            (either_way (has (reach_of r (set_of r)) (at r.exits f)))

pub sets_found : (r : Rows) → WellFormed (program_from r) → sets_test r ≡ true → Synchronising (program_from r) (has (set_of r)) × Reached (program_from r) (has (set_of r)) (has (reach_of r (set_of r)))
unfolding sets_test
sets_found r w h =
    let v = all_three (leb (length r.sorts) r.nodes) (full (round r) r.nodes (set_of r)) (swept r (set_of r)) h in
    let short = leb-true _ _ v.0 in
    (record { closed = set_closed r w short v.1 v.2; smallest = set_below r w short }, reach_exact r w (set_of r) v.2)
