-- One item more in the chains.
use Prim.Native.Nat.{ℕ, zero, suc, ◌+◌, ◌<◌}
use mathlib.Core.Path.{◌≡◌, refl, sym, ap, ◌∙◌}
use mathlib.Core.Bool.{Bool, true, false, true≢false, cond}
use mathlib.Core.List.{List}
use native.Mathlib.Omega.{arith}
use lib.Dec.{eqb}
use lib.ListN.{length, get_or, set, replicate}
use lib.Seq.{get_or-set_same, get_or-set_other}
use borrow.Author.Count.{below_more}
use borrow.Author.Tests.{eqb-true, eqb-false}
use Rattle.std.specs.Prelude.{Option, None, Some}
use Rattle.links.specs.Links.{latest, Linked}
use Rattle.links.proofs.Latest.{latest_more}

-- at first there are none
empty : (size k : ℕ) → get_or {A = Option ℕ} (replicate size None) k None ≡ None
empty zero k = refl
empty (suc n) zero = refl
empty (suc n) (suc k) = empty n k

module _ (has : ℕ → ℕ → Bool) where
  pub linked_none : (keys items : ℕ) → Linked has 0 (replicate keys None) (replicate items None)
  unfolding latest
  linked_none keys items = record {
    starts = empty keys;
    goes_on = λ k i h t. absurd (omega arith);
  }

  module _ (i : ℕ) (first next : List (Option ℕ)) (l : Linked has i first next) where
    -- item i has no key
    pub linked_pass : ((k : ℕ) → has k i ≡ false) → Linked has (i + 1) first next
    linked_pass none = record {
      starts = λ k. l.starts k ∙ sym (latest_more (has k) i ∙ ap (λ b. cond b (Some i) (latest (has k) i)) (none k));
      goes_on = λ k. below_more _ i (l.goes_on k) (λ t. absurd (true≢false (sym t ∙ none k)));
    }

    -- item i has key k
    module _ (k : ℕ) (h : k < length first) (room : i < length next) (key : (j : ℕ) → has j i ≡ eqb j k) where
      starts_here : (j : ℕ) (b : Bool) → eqb j k ≡ b → get_or (set first k (Some i)) j None ≡ cond b (Some i) (latest (has j) i)
      starts_here j true e = ap (λ (m : ℕ). get_or (set first k (Some i)) m None) (eqb-true j k e) ∙ get_or-set_same first k (Some i) None h
      starts_here j false e = get_or-set_other first k j (Some i) None (eqb-false j k e) ∙ l.starts j

      goes_back : (j m : ℕ) → m < i → has j m ≡ true → get_or (set next i (get_or first k None)) m None ≡ latest (has j) m
      goes_back j m b t = get_or-set_other next i m (get_or first k None) None (λ e. omega arith) ∙ l.goes_on j m b t

      goes_here : (j : ℕ) → has j i ≡ true → get_or (set next i (get_or first k None)) i None ≡ latest (has j) i
      goes_here j t =
          get_or-set_same next i (get_or first k None) None room
          ∙ ap (λ (m : ℕ). get_or first m None) (sym (eqb-true j k (sym (key j) ∙ t)))
          ∙ l.starts j

      pub linked_put : Linked has (i + 1) (set first k (Some i)) (set next i (get_or first k None))
      linked_put = record {
        starts = λ j. starts_here j (eqb j k) refl ∙ sym (latest_more (has j) i ∙ ap (λ b. cond b (Some i) (latest (has j) i)) (key j));
        goes_on = λ j. below_more _ i (goes_back j) (goes_here j);
      }
