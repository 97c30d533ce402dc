-- All calls of a function are added by a walk along their chain.
use Prim.Native.Nat.{ℕ, ◌<◌, ◌≤◌}
use mathlib.Core.Path.{◌≡◌, refl, sym, ◌∙◌}
use mathlib.Core.List.{List}
use mathlib.Core.Bool.{Bool, true, false, ◌||◌}
use mathlib.Core.Logic.{⊎_elim}
use native.Mathlib.Omega.{arith}
use lib.Dec.{eqb}
use borrow.Author.Tests.{eqb-true, eq-eqb}
use Rattle.std.specs.Prelude.{Option, None, Some}
use Rattle.std.proofs.lemmas.Bool.{cases_lt}
use Rattle.table.specs.Record.{plain, call}
use Rattle.table.specs.Program.{program_of}
use Rattle.table.proofs.Booleans.{either_way, and_true_left, and_true_right, or_true, or_true_right, same_test}
use Rattle.table.proofs.Laws.{nodes_read, sort_past}
use Rattle.links.specs.Links.{latest, left, Walk}
use Rattle.links.proofs.Walks.{walk_starts, walk_item, walk_falls, walk_goes_on, walk_ends}
use Rattle.sync.specs.Pass.{call_of}
use Rattle.sync.specs.Words.{member}

-- a walk along the calls that has come to `next` has added those that it has passed to the set
pub record Adding (calls : ℕ → Bool) (items : ℕ) (from set : List ℕ) (next : Option ℕ) : Type 0 where
  pub walk : Walk calls items (λ n. member set n ≡ true) next
  pub keeps : (n : ℕ) → member from n ≡ true → member set n ≡ true
  pub only : (n : ℕ) → member set n ≡ true → (member from n || calls n) ≡ true

module _ (calls : ℕ → Bool) (items : ℕ) (from : List ℕ) where
  pub adding_starts : (next : Option ℕ) → next ≡ latest calls items → Adding calls items from from next
  adding_starts next e = record {
    walk = walk_starts calls items _ next e;
    keeps = λ n h. h;
    only = λ n h. rw h refl;
  }

  module _ (set : List ℕ) (at : Option ℕ) (a : Adding calls items from set at) (n : ℕ) (is : at ≡ Some n) where
    pub adding_item : (n < items) × (calls n ≡ true)
    adding_item = walk_item calls items _ at a.walk n is

    module _ (next : Option ℕ) (e : next ≡ latest calls n) where
      pub adding_falls : left next < left at
      adding_falls = walk_falls calls items _ at a.walk n is next e

      pub adding_more : (set' : List ℕ) → ((m : ℕ) → member set' m ≡ (eqb m n || member set m)) → Adding calls items from set' next
      adding_more set' with = record {
        walk = walk_goes_on calls items _ at a.walk n is _ next e kept (with n ∙ rw (eq-eqb n n refl) refl);
        keeps = λ m h. kept m (a.keeps m h);
        only = only;
      }
        where
          kept : (m : ℕ) → member set m ≡ true → member set' m ≡ true
          kept m h = with m ∙ rw h (or_true (eqb m n))

          only : (m : ℕ) → member set' m ≡ true → (member from m || calls m) ≡ true
          only m h = ⊎_elim
              (λ (t : eqb m n ≡ true). rw (eqb-true m n t, adding_item.1) (or_true (member from n)))
              (λ (f : eqb m n ≡ false). a.only m (or_true_right (eqb m n) (member set m) (sym (with m) ∙ h) f))
              (either_way (eqb m n))

  pub adding_ends : (set : List ℕ) (at : Option ℕ) → Adding calls items from set at → at ≡ None → ((n : ℕ) → calls n ≡ true → n < items) → (n : ℕ) → member set n ≡ (member from n || calls n)
  adding_ends set at a is exists n = same_test (member set n) (member from n || calls n) (a.only n) has
    where
      has : (member from n || calls n) ≡ true → member set n ≡ true
      has h =
          ⊎_elim
          (λ (t : member from n ≡ true). a.keeps n t)
          (λ (f : member from n ≡ false). let c = or_true_right (member from n) (calls n) h f in walk_ends calls items _ at a.walk is n (exists n c) c)
          (either_way (member from n))

-- a node that is not plain exists
pub sort_exists : (t : List ℕ) (n : ℕ) → ((program_of t).sort n ≡ plain → ⊥) → n < (program_of t).nodes
sort_exists t n h =
    ⊎_elim
    (λ (l : n < (program_of t).nodes). l)
    (λ (l : (program_of t).nodes ≤ n). absurd (h (sort_past t n (omega (arith, l, nodes_read t)))))
    (cases_lt n (program_of t).nodes)

pub call_exists : (t : List ℕ) (n : ℕ) → (program_of t).sort n ≡ call → n < (program_of t).nodes
call_exists t n h = sort_exists t n (λ e. omega (arith, h, e))

module _ (t : List ℕ) (f n : ℕ) (h : call_of (program_of t) f n ≡ true) where
  pub call_of_sort : (program_of t).sort n ≡ call
  call_of_sort = eqb-true _ _ (and_true_left (eqb ((program_of t).sort n) call) _ h)

  pub call_of_target : f ≡ (program_of t).target n
  call_of_target = eqb-true _ _ (and_true_right (eqb ((program_of t).sort n) call) _ h)

  pub call_of_exists : n < (program_of t).nodes
  call_of_exists = call_exists t n call_of_sort
