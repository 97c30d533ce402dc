-- What a search has found, with one node more.
use Prim.Native.Nat.{ℕ, ◌+◌, ◌<◌, ◌≤◌}
use mathlib.Core.Path.{◌≡◌, refl, sym, ap, ◌∙◌, subst}
use mathlib.Core.List.{[], ◌∷◌, ◌++◌}
use mathlib.Core.Bool.{Bool, true, false, not, ◌&&◌, ◌||◌}
use mathlib.Core.Logic.{⊎_elim}
use native.Mathlib.Omega.{arith}
use lib.Dec.{eqb}
use lib.ListN.{length}
use borrow.Author.Tests.{eqb-true, eq-eqb, not-true, not-false}
use Rattle.std.proofs.Math.Seq.{get_or-append_seam}
use Rattle.std.proofs.lemmas.Bool.{cases_lt}
use Rattle.std.proofs.lemmas.List.{length-append, get_or_append_left}
use Rattle.table.specs.Program.{Program}
use Rattle.table.proofs.Booleans.{either_way, not_both, and_true_left, and_false_right, or_true, or_true_right}
use Rattle.sync.specs.declared.found.Found.{Found}
use Rattle.sync.specs.Pass.{Through}
use Rattle.sync.specs.Paths.{stop}
use Rattle.sync.specs.Search.{Finds, Keeps, Offered, node_at}
use Rattle.sync.specs.Words.{member}

pub keeps_same : (f : Found) → Keeps f f
keeps_same f = record { longer = omega arith; stays = λ i h. refl; members = λ n h. h }

pub keeps_both : (f h k : Found) → Keeps f h → Keeps h k → Keeps f k
keeps_both f h k p q = record {
  longer = omega (arith, p.longer, q.longer);
  stays = λ i l. q.stays i (omega (arith, l, p.longer)) ∙ p.stays i l;
  members = λ n m. q.members n (p.members n m);
}

-- ---- one node more

module _ (f : Found) (f' : Found) (n : ℕ) (nodes : f'.nodes.items ≡ f.nodes.items ++ n ∷ []) (set : (m : ℕ) → member f'.set m ≡ (eqb m n || member f.set m)) where
  longer : length f'.nodes.items ≡ length f.nodes.items + 1
  longer = rw nodes (length-append f.nodes.items (n ∷ []))

  last : node_at f' (length f.nodes.items) ≡ n
  last = rw nodes (get_or-append_seam f.nodes.items n [] 0)

  pub keeps_more : Keeps f f'
  keeps_more = record {
    longer = omega (arith, longer);
    stays = λ i l. rw nodes (get_or_append_left f.nodes.items (n ∷ []) 0 i l);
    members = λ m h. set m ∙ rw h (or_true (eqb m n));
  }

  pub added : member f'.set n ≡ true
  added = set n ∙ rw (eq-eqb n n refl) refl

  module _ (g : Program) (avoid : ℕ → Bool) (s : ℕ) (p : Through g avoid s n) where
    sound : ((i : ℕ) → i < length f.nodes.items → Through g avoid s (node_at f i)) → (i : ℕ) → i < length f'.nodes.items → Through g avoid s (node_at f' i)
    sound h i l =
        ⊎_elim
        (λ (b : i < length f.nodes.items). subst (λ (m : ℕ). Through g avoid s m) (sym (keeps_more.stays i b)) (h i b))
        (λ (b : length f.nodes.items ≤ i). let e : length f.nodes.items ≡ i = omega (arith, l, b, longer) in subst (λ (m : ℕ). Through g avoid s m) (sym last ∙ ap (node_at f') e) p)
        (cases_lt i (length f.nodes.items))

    places : ((m : ℕ) → member f.set m ≡ true → (i : ℕ) × (i < length f.nodes.items) × (node_at f i ≡ m)) → (m : ℕ) → member f'.set m ≡ true → (i : ℕ) × (i < length f'.nodes.items) × (node_at f' i ≡ m)
    places h m t =
        ⊎_elim
        (λ (b : eqb m n ≡ true). (length f.nodes.items, omega (arith, longer), last ∙ sym (eqb-true m n b)))
        (λ (b : eqb m n ≡ false). let x = h m (or_true_right (eqb m n) (member f.set m) (sym (set m) ∙ t) b) in (x.0, omega (arith, x.1, longer), keeps_more.stays x.0 x.1 ∙ x.2))
        (either_way (eqb m n))

    pub finds_more : Finds g avoid s f → Finds g avoid s f'
    finds_more q = record {
      sound = sound q.sound;
      places = places q.places;
      starts = keeps_more.members s q.starts;
    }

-- the first node of a search, which has found nothing before
pub finds_first : (g : Program) (avoid : ℕ → Bool) (s : ℕ) (f f' : Found) → f.nodes.items ≡ [] → ((n : ℕ) → member f.set n ≡ false) → f'.nodes.items ≡ f.nodes.items ++ s ∷ [] → ((m : ℕ) → member f'.set m ≡ (eqb m s || member f.set m)) → Finds g avoid s f'
finds_first g avoid s f f' none empty nodes set = record {
  sound = sound f f' s nodes set g avoid s (stop, tt) (λ i l. absurd (omega (arith, l, ap length none)));
  places = places f f' s nodes set g avoid s (stop, tt) (λ m h. not_both (member f.set m) h (empty m));
  starts = added f f' s nodes set;
}

-- a node is offered: it is added, or it is to be avoided or was found before
module _ (avoid : ℕ → Bool) (n : ℕ) (f : Found) where
  pub offered_more : (f' : Found) → f'.nodes.items ≡ f.nodes.items ++ n ∷ [] → ((m : ℕ) → member f'.set m ≡ (eqb m n || member f.set m)) → (not (avoid n) && not (member f.set n)) ≡ true → Offered avoid n f f'
  offered_more f' nodes set h = record {
    keeps = keeps_more f f' n nodes set;
    finds = λ g s q p. finds_more f f' n nodes set g avoid s (p (not-true (avoid n) (and_true_left (not (avoid n)) _ h))) q;
    found = λ h. added f f' n nodes set;
  }

  pub offered_none : (not (avoid n) && not (member f.set n)) ≡ false → Offered avoid n f f
  offered_none h = record {
    keeps = keeps_same f;
    finds = λ g s q p. q;
    found = λ c. not-false (member f.set n) (and_false_right (not (avoid n)) (not (member f.set n)) h (ap not c));
  }
