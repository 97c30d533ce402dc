-- What the two walks come to is safe, no safe choice beats it, and no other choice is like that.
use Prim.Native.Nat.{ℕ, zero, suc, ◌<◌, ◌≤◌}
use mathlib.Core.Path.{◌≡◌, sym, ap, ◌∙◌, subst}
use mathlib.Core.Logic.{◌⊎◌, inl, inr, ⊎_elim}
use native.Mathlib.Nat.{eq-or-lt_of_le}
use native.Mathlib.Omega.{arith}
use native.Mathlib.Decide.{ℕ_discrete, dec_le}
use Rattle.table.specs.Record.{spawn}
use Rattle.table.specs.Program.{Program}
use Rattle.table.specs.WellFormed.{WellFormed}
use Rattle.table.proofs.Laws.{well_formed}
use Rattle.rules.specs.Choice.{guarded, unguarded, ChoiceFor}
use Rattle.sizes.specs.Call.{choice_of}
use Rattle.sizes.specs.Trials.{known_program, PreparedFor}
use Rattle.sizes.specs.declared.trials.Prepared.{Prepared}
use Rattle.sizes.proofs.Trying.{holds_least}
use Rattle.safety.specs.Safety.{Safe}
use Rattle.safety.proofs.Laws.{safe_alike}
use Rattle.preference.specs.Preference.{IsSpawn, ComesFirst, InOrder}
use Rattle.choice.specs.Beats.{Alike, Wins, Beats, Best, Returned}
use Rattle.choice.specs.Best.{BestOf}
use Rattle.search.specs.Walk.{Unmerged, Walked, Searched}
use Rattle.search.specs.declared.found.Found.{Found}
use Rattle.preference.proofs.Firsts.{stands_first}
use Rattle.search.proofs.Laws.{nothing_merged}

-- ---- of two choices one wins, or they are alike

abbrev AllAlike : Program → ℕ → (ℕ → ℕ) → (ℕ → ℕ) → Type 0
AllAlike g k c d = (n : ℕ) → IsSpawn g n → Alike k c d n

module _ (g : Program) (w : WellFormed g) (count : ℕ) (order : ℕ → ℕ) (o : InOrder g count order) where
  module _ (k : ℕ) (c d : ℕ → ℕ) where
    before_alike : (i : ℕ) → i < count → ((l : ℕ) → l < i → Alike k c d (order l)) → (m : ℕ) → IsSpawn g m → ComesFirst g m (order i) → Alike k c d m
    before_alike i h a m s f =
        let q = o.all m s in
        subst (λ (z : ℕ). Alike k c d z) q.2
        (a q.0 (stands_first g w o q.0 i q.1 h (subst (λ (z : ℕ). ComesFirst g z (order i)) (sym q.2) f)))

    one_wins : (i : ℕ) → i ≤ count → ((l : ℕ) → l < i → Alike k c d (order l)) ⊎ (Wins g k c d ⊎ Wins g k d c)
    one_wins zero h = inl (λ l q. absurd (omega arith))
    one_wins (suc i) h = go (one_wins i (omega arith)) (dec_le k (c (order i))) (dec_le k (d (order i)))
      where
        more : ((l : ℕ) → l < i → Alike k c d (order l)) → Alike k c d (order i) → (l : ℕ) → l < suc i → Alike k c d (order l)
        more a b l q = ⊎_elim (λ (e : l ≡ i). subst (λ (z : ℕ). Alike k c d (order z)) (sym e) b) (a l) (eq-or-lt_of_le (omega arith))

        go : ((l : ℕ) → l < i → Alike k c d (order l)) ⊎ (Wins g k c d ⊎ Wins g k d c) → Dec (k ≤ c (order i)) → Dec (k ≤ d (order i)) → ((l : ℕ) → l < suc i → Alike k c d (order l)) ⊎ (Wins g k c d ⊎ Wins g k d c)
        go (inr v) p q = inr v
        go (inl a) (yes p) (yes q) = inl (more a (λ x. q, λ x. p))
        go (inl a) (no p) (no q) = inl (more a (λ x. absurd (p x), λ x. absurd (q x)))
        go (inl a) (yes p) (no q) =
            inr
            (inl (record { at = order i; spawn_is = o.spawns i (omega arith); does = p; doesn't = omega arith; first = before_alike i (omega arith) a }))
        go (inl a) (no p) (yes q) =
            inr
            (inr (record { at = order i; spawn_is = o.spawns i (omega arith); does = q; doesn't = omega arith; first = λ m s f. let z = before_alike i (omega arith) a m s f in (z.1, z.0) }))

    alike_or_wins : AllAlike g k c d ⊎ (Wins g k c d ⊎ Wins g k d c)
    alike_or_wins =
        ⊎_elim
        (λ (a : (l : ℕ) → l < count → Alike k c d (order l)). inl (λ n s. let q = o.all n s in subst (λ (z : ℕ). Alike k c d z) q.2 (a q.0 q.1)))
        inr
        (one_wins count (omega arith))

  -- no safe choice above where a walk began wins against what it came to
  no_win : (k : ℕ) (from to : ℕ → ℕ) → Walked g k count order from to → (d : ℕ → ℕ) → Safe g d → ((n : ℕ) → n < g.nodes → from n ≤ d n) → (v : Wins g k d to) → suc (from v.at) ≡ k → ⊥
  no_win k from to x d s b v e =
      let q = o.all v.at v.spawn_is in
      x.blocked q.0 q.1
      (subst (λ (z : ℕ). suc (from z) ≡ k) (sym q.2) e)
      (subst (λ (z : ℕ). to z < k) (sym q.2) v.doesn't)
      d s b
      (λ l h. (v.first (order l) (o.spawns l (omega (arith, q.1))) (subst (λ (z : ℕ). ComesFirst g (order l) z) q.2 (o.sorted l q.0 h q.1))).1)
      (subst (λ (z : ℕ). k ≤ d z) (sym q.2) v.does)

-- ---- a choice is what its verdicts are

module _ (g : Program) (c d : ℕ → ℕ) (e : (n : ℕ) → n < g.nodes → c n ≡ d n) where
  wins_alike : (k : ℕ) (x : ℕ → ℕ) → Wins g k x d → Wins g k x c
  wins_alike k x v = record {
    at = v.at;
    spawn_is = v.spawn_is;
    does = v.does;
    doesn't = omega (arith, v.doesn't, e v.at v.spawn_is.exists);
    first = λ m s f. let z = v.first m s f in (λ y. omega (arith, z.0 y, e m s.exists), λ y. z.1 (omega (arith, e m s.exists)));
  }

  best_alike : Best g c → Best g d
  best_alike b = record { safe = safe_alike g c d e b.safe; unbeaten = λ x f s v. b.unbeaten x f s (beats x v) }
    where
      beats : (x : ℕ → ℕ) → Beats g x d → Beats g x c
      beats x (inl v) = inl (wins_alike guarded x v)
      beats x (inr (a, v)) =
          inr
          (λ n s. (λ y. omega (arith, (a n s).0 y, e n s.exists), λ y. (a n s).1 (omega (arith, e n s.exists))), wins_alike unguarded x v)

-- ---- a safe choice that no safe choice beats is the only one, and so the one to return

module _ (g : Program) (w : WellFormed g) (count : ℕ) (order : ℕ → ℕ) (o : InOrder g count order) (final : ℕ → ℕ) (final_for : ChoiceFor g final) (safe : Safe g final) (unbeaten : (d : ℕ → ℕ) → ChoiceFor g d → Safe g d → Beats g d final → ⊥) where
  best : Best g final
  best = record { safe = safe; unbeaten = unbeaten }

  only : (c : ℕ → ℕ) → ChoiceFor g c → Best g c → (n : ℕ) → n < g.nodes → final n ≡ c n
  only c f b n h = go (ℕ_discrete (g.sort n) spawn)
    where
      same : g.sort n ≡ spawn → Alike guarded c final n → Alike unguarded c final n → final n ≡ c n
      same e p q = level (dec_le 2 (c n)) (dec_le 3 (c n))
        where
          level : Dec (2 ≤ c n) → Dec (3 ≤ c n) → final n ≡ c n
          level (yes x) (yes y) = omega (arith, q.0 y, (f.spawns n h e).1, (final_for.spawns n h e).1)
          level (yes x) (no y) = below (dec_le 3 (final n))
            where
              below : Dec (3 ≤ final n) → final n ≡ c n
              below (yes z) = absurd (y (q.1 z))
              below (no z) = omega (arith, p.0 x)
          level (no x) y = below (dec_le 2 (final n))
            where
              below : Dec (2 ≤ final n) → final n ≡ c n
              below (yes z) = absurd (x (p.1 z))
              below (no z) = omega (arith, (f.spawns n h e).0, (final_for.spawns n h e).0)

      third : g.sort n ≡ spawn → AllAlike g guarded c final → AllAlike g unguarded c final ⊎ (Wins g unguarded c final ⊎ Wins g unguarded final c) → final n ≡ c n
      third e a (inl b') = let i : IsSpawn g n = record { exists = h; spawns = e } in same e (a n i) (b' n i)
      third e a (inr (inl v)) = absurd (unbeaten c f b.safe (inr (a, v)))
      third e a (inr (inr v)) = absurd (b.unbeaten final final_for best.safe (inr (λ m i. ((a m i).1, (a m i).0), v)))

      second : g.sort n ≡ spawn → AllAlike g guarded c final ⊎ (Wins g guarded c final ⊎ Wins g guarded final c) → final n ≡ c n
      second e (inl a) = third e a (alike_or_wins g w count order o unguarded c final)
      second e (inr (inl v)) = absurd (unbeaten c f b.safe (inl v))
      second e (inr (inr v)) = absurd (b.unbeaten final final_for best.safe (inl v))

      go : Dec (g.sort n ≡ spawn) → final n ≡ c n
      go (yes e) = second e (alike_or_wins g w count order o guarded c final)
      go (no e) = final_for.others n h e ∙ sym (f.others n h e)

  return_unbeaten : Returned g final
  return_unbeaten = record {
    choice_for = final_for;
    exactly_when = λ c f. (λ e. best_alike g final c e best, only c f);
  }

-- ---- the two walks

-- the verdict of a node to begin with, after the first walk, and after the second
record Stages (x y z : ℕ) : Type 0 where
  first_up : x ≤ y
  merged_at_most : y ≤ 2
  second_up : y ≤ z
  at_most : z ≤ 3
  merged_before : 2 ≤ z → 2 ≤ y
  zero_stays : x ≡ 0 → z ≡ 0

stages : (x y z : ℕ) → x ≤ 1 → (y ≡ x) ⊎ ((suc x ≡ 2) × (y ≡ 2)) → (z ≡ y) ⊎ ((suc y ≡ 3) × (z ≡ 3)) → Stages x y z
stages x y z h (inl e) (inl f) = record { first_up = omega arith; merged_at_most = omega arith; second_up = omega arith; at_most = omega arith; merged_before = λ l. omega arith; zero_stays = λ l. omega arith }
stages x y z h (inl e) (inr (a, b)) = record { first_up = omega arith; merged_at_most = omega arith; second_up = omega arith; at_most = omega arith; merged_before = λ l. omega arith; zero_stays = λ l. omega arith }
stages x y z h (inr (a, b)) (inl f) = record { first_up = omega arith; merged_at_most = omega arith; second_up = omega arith; at_most = omega arith; merged_before = λ l. omega arith; zero_stays = λ l. omega arith }
stages x y z h (inr (a, b)) (inr (p, q)) = record { first_up = omega arith; merged_at_most = omega arith; second_up = omega arith; at_most = omega arith; merged_before = λ l. omega arith; zero_stays = λ l. omega arith }

module _ (g : Program) (w : WellFormed g) (count : ℕ) (order : ℕ → ℕ) (o : InOrder g count order) (start middle final : ℕ → ℕ) (u : Unmerged g start) (one : Walked g guarded count order start middle) (two : Walked g unguarded count order middle final) where
  stage : (n : ℕ) → n < g.nodes → Stages (start n) (middle n) (final n)
  stage n h =
      stages (start n) (middle n) (final n) (nothing_merged g start u n h)
      (⊎_elim inl (λ z. inr (z.0, z.1)) (one.moved n h))
      (⊎_elim inl (λ z. inr (z.0, z.1)) (two.moved n h))

  final_for : ChoiceFor g final
  final_for = record {
    others = λ n h e. (stage n h).zero_stays (u.others n h e);
    spawns = λ n h e. (omega (arith, (stage n h).first_up, (stage n h).second_up, u.spawns n (record { exists = h; spawns = e })), (stage n h).at_most);
  }

  module _ (d : ℕ → ℕ) (f : ChoiceFor g d) where
    start_below : (n : ℕ) → n < g.nodes → start n ≤ d n
    start_below n h = go (ℕ_discrete (g.sort n) spawn)
      where
        go : Dec (g.sort n ≡ spawn) → start n ≤ d n
        go (yes e) = omega (arith, u.spawns n (record { exists = h; spawns = e }), (f.spawns n h e).0)
        go (no e) = omega (arith, u.others n h e)

    middle_below : AllAlike g guarded d final → (n : ℕ) → n < g.nodes → middle n ≤ d n
    middle_below a n h = go (ℕ_discrete (g.sort n) spawn) (dec_le 2 (middle n))
      where
        go : Dec (g.sort n ≡ spawn) → Dec (2 ≤ middle n) → middle n ≤ d n
        go (yes e) (yes l) = omega (arith, (stage n h).merged_at_most, (a n (record { exists = h; spawns = e })).1 (omega (arith, (stage n h).second_up)))
        go (yes e) (no l) = omega (arith, (f.spawns n h e).0)
        go (no e) l = omega (arith, (stage n h).second_up, (stage n h).zero_stays (u.others n h e))

    beaten_by_none : Safe g d → Beats g d final → ⊥
    beaten_by_none s (inl v) =
        no_win g w count order o guarded start middle one d s start_below
        (record {
          at = v.at;
          spawn_is = v.spawn_is;
          does = v.does;
          doesn't = omega (arith, v.doesn't, (stage v.at v.spawn_is.exists).second_up);
          first = λ m p q. let z = v.first m p q in (λ y. (stage m p.exists).merged_before (z.0 y), λ y. z.1 (omega (arith, (stage m p.exists).second_up)));
        })
        (ap suc (u.spawns v.at v.spawn_is))
    beaten_by_none s (inr (a, v)) =
        let x = stage v.at v.spawn_is.exists in
        let merged = x.merged_before ((a v.at v.spawn_is).0 (omega (arith, v.does))) in
        no_win g w count order o unguarded middle final two d s (middle_below a) v (omega (arith, x.merged_at_most, merged))

  -- so it is the one to return
  pub walks_return : Returned g final
  walks_return = return_unbeaten g w count order o final final_for two.safe beaten_by_none

-- so what a search comes to is the choice to return, with its sizes
pub searched_best : {p : Prepared} {found : Found} → PreparedFor p → Searched p found → BestOf (known_program p.known) found
searched_best {p} {found} q x =
    let m = x.merged in
    let w = well_formed p.known.program.table.now p.known.program.ready.accepted_is in
    record {
      returned = walks_return (known_program p.known) w x.count x.order x.in_order m.start x.middle (choice_of found.verdicts) m.unmerged_is m.walked x.walked;
      sizes = x.holds.found.sizes;
      least = holds_least q x.holds;
      sizes_are = x.holds.written;
    }
