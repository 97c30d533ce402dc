-- The least solution of the words that list a system's rules is the least solution of the system.
use Prim.Native.Nat.{ℕ, ◌+◌, ◌-◌, ◌<◌, ◌≤◌}
use mathlib.Core.Path.{◌≡◌, refl, sym, ap, ◌∙◌, subst}
use mathlib.Core.Bool.{cond}
use mathlib.Core.List.{List}
use native.Mathlib.Omega.{arith}
use native.Mathlib.Decide.{dec_lt}
use lib.Dec.{ltb}
use lib.ListN.{length}
use borrow.Author.Tests.{lt-ltb, le-ltb}
use Rattle.size.specs.Size.{cap}
use Rattle.size.specs.Numbers.{at}
use Rattle.solver.specs.System.{sum_of, gives, Derives, none, rule, Solves}
use Rattle.solver.specs.Words.{Named, entry_count, head_of, part_of, other_of, base_of, size_at, others, word_form, word, start, item_form}
use Rattle.solver.proofs.Rises.{der_less}
use Rattle.rules.specs.System.{Entry, size, along, Form, Given, RuleOf, DerOf, forms_of, Solved, Derived}
use Rattle.rules.specs.Entries.{offset, entry_at}
use Rattle.rules.specs.Numbered.{other_entries}
use Rattle.listed.specs.Listed.{Says, Lists}
use Rattle.rules.specs.declared.sums.Sum.{Sum}
use Rattle.rules.specs.declared.sums.Sum.TheVariants.{After, Before, Through}
use Rattle.rules.proofs.Entries.{entry_size, entry_after, entry_before, entry_through, entry_along}

-- values by number, as values of entries
abbrev pub seen : (ℕ → ℕ) → Entry → ℕ
seen v (size x) = cond (ltb x 2304) (v x) 0
seen v (along s n) = cond (ltb n 512) (v (offset s + n)) 0

module _ (v : ℕ → ℕ) where
  pub seen_size : (x : ℕ) → x < 2304 → seen v (size x) ≡ v x
  seen_size x h = rw (lt-ltb x 2304 h) refl

  pub seen_along : (s : Sum) (n : ℕ) → n < 512 → seen v (along s n) ≡ v (offset s + n)
  seen_along s n h = rw (lt-ltb n 512 h) refl

  seen_at : (x : ℕ) → x < entry_count → seen v (entry_at x) ≡ v x
  seen_at x h = go (dec_lt x 2304) (dec_lt x 2816) (dec_lt x 3328)
    where
      go : Dec (x < 2304) → Dec (x < 2816) → Dec (x < 3328) → seen v (entry_at x) ≡ v x
      go (yes a) b c = ap (seen v) (entry_size x a) ∙ seen_size x a
      go (no a) (yes b) c = ap (seen v) (entry_after x (omega arith) b) ∙ seen_along After (x - 2304) (omega arith) ∙ ap v (omega arith)
      go (no a) (no b) (yes c) = ap (seen v) (entry_before x (omega arith) c) ∙ seen_along Before (x - 2816) (omega arith) ∙ ap v (omega arith)
      go (no a) (no b) (no c) = ap (seen v) (entry_through x (omega arith)) ∙ seen_along Through (x - 3328) (omega arith) ∙ ap v (omega arith)

  -- a word gives what its rule does
  says_gives : (w : ℕ) {f : Form} → Says w f → gives (seen v) f ≡ gives v (word_form w)
  says_gives w s = rw (s.base_is, s.body_is) (go (dec_lt (other_of w) 2304))
    where
      go : Dec (other_of w < 2304) → cap (base_of w + (seen v (entry_at (part_of w)) + sum_of (seen v) (other_entries (size_at (other_of w))))) ≡ cap (base_of w + (v (part_of w) + sum_of v (others (other_of w))))
      go (yes a) = rw (lt-ltb (other_of w) 2304 a) (omega (arith, seen_at (part_of w) s.part_low, seen_size (other_of w) a))
      go (no a) = rw (le-ltb (other_of w) 2304 (omega arith)) (omega (arith, seen_at (part_of w) s.part_low))

-- and its numbers are of entries
pub lists_named : {S : Given} {rules : List ℕ} → Lists S rules → Named rules (length rules)
lists_named l = record { heads = λ j h. (l.each j h).1.head_low; parts = λ j h. (l.each j h).1.part_low }

module _ (S : Given) {rules : List ℕ} (lists : Lists S rules) {from : ℕ → ℕ} (derived : Derived S.program S.synchronising S.reached S.choice from) (past : (x : ℕ) → 2304 ≤ x → from x ≡ 0) where
  seen_derived : (v : ℕ → ℕ) → ((x : ℕ) → DerOf S (entry_at x) (v x)) → (y : Entry) → DerOf S y (seen v y)
  seen_derived v d (size x) = go (dec_lt x 2304)
    where
      go : Dec (x < 2304) → DerOf S (size x) (seen v (size x))
      go (yes h) = rw (seen_size v x h) (subst (λ (e : Entry). DerOf S e (v x)) (entry_size x h) (d x))
      go (no h) = rw (le-ltb x 2304 (omega arith)) none
  seen_derived v d (along s n) = go (dec_lt n 512)
    where
      go : Dec (n < 512) → DerOf S (along s n) (seen v (along s n))
      go (yes h) = rw (seen_along v s n h) (subst (λ (e : Entry). DerOf S e (v (offset s + n))) (entry_along s n h) (d (offset s + n)))
      go (no h) = rw (le-ltb n 512 (omega arith)) none

  start_derived : (x : ℕ) → DerOf S (entry_at x) (from x)
  start_derived x = go (dec_lt x 2304)
    where
      go : Dec (x < 2304) → DerOf S (entry_at x) (from x)
      go (yes h) = rw (entry_size x h) (derived.each x)
      go (no h) = rw (past x (omega arith)) none

  -- what the words derive, the rules do
  words_derive : {x t : ℕ} → Derives (item_form rules (length rules) from) x t → DerOf S (entry_at x) t
  words_derive none = none
  words_derive (rule {t = t} (word j h) v e d l) =
      let q = lists.each j h in
      rule {t = t} q.0 (seen v) (ap entry_at e ∙ sym q.1.head_is) (seen_derived v (λ z. words_derive (d z))) (omega (arith, says_gives v (at rules j) q.1))
  words_derive (rule {t = t} (start y) v e d l) = subst (λ (i : ℕ). DerOf S (entry_at i) t) (sym e) (der_less (forms_of S) t (omega arith) (start_derived y))

  pub words_solve : {v : ℕ → ℕ} → Solves (item_form rules (length rules) from) v → Solved S.program S.synchronising S.reached S.choice (seen v)
  words_solve {v} s = record { derived = seen_derived v (λ x. words_derive (s.derived x)); closed = closed }
    where
      closed : (r : RuleOf S) → gives (seen v) (forms_of S r) ≤ seen v (forms_of S r).head
      closed r =
          let a = lists.all r in
          rw a.2.head_is (omega (arith, says_gives v (at rules a.0) a.2, seen_at v (head_of (at rules a.0)) a.2.head_low, s.closed (word a.0 a.1)))
