-- One more choice of a list: what is known of those before it, and of it, is known of all of them.
use Prim.Native.Nat.{ℕ, ◌+◌, ◌*◌, ◌<◌, ◌≤◌}
use mathlib.Core.Path.{◌≡◌, refl, sym, ap, ◌∙◌}
use mathlib.Core.Bool.{Bool, true, false, ◌||◌}
use mathlib.Core.List.{List}
use mathlib.Core.Logic.{◌⊎◌, ⊎_elim}
use native.Mathlib.Nat.{eq-or-lt_of_le}
use native.Mathlib.Omega.{arith}
use lib.Dec.{eqb}
use lib.ListN.{length, drop}
use lib.Seq.{drop-drop}
use borrow.Author.Tests.{eq-eqb, ne_eqb}
use Rattle.std.specs.Prelude.{◌↔◌}
use Rattle.table.specs.Program.{program_of}
use Rattle.sync.specs.Words.{bit}
use Rattle.word.proofs.Bits.{bit_none}
use Rattle.table.specs.Result.{done}
use Rattle.sizes.specs.Call.{choice_of, LeavesFor}
use Rattle.safety.specs.Safety.{Safe}
use Rattle.safety.specs.Test.{Tells}
use Rattle.what_if.specs.Call.{nodes_of, entries_of, part, Safeties, LeavesSets}
use Rattle.what_if.proofs.Parts.{part_next, part_long, put, put_long, put_here, put_tail, put_before}

this_or_before : (j i : ℕ) → j < i + 1 → (j ≡ i) ⊎ (j < i)
this_or_before j i h = eq-or-lt_of_le (omega arith)

module _ (t choices : List ℕ) where
  pub none_safe : Safeties t choices 0 0
  none_safe = record { safe_is = λ i h. absurd (omega (arith, h)); unused = λ i h. bit_none i }

  -- bit i says whether choice i is safe, and the others are as they were
  one_more : (i bits next : ℕ) (r : Bool) → bit next i ≡ r → ((j : ℕ) → (j ≡ i → ⊥) → bit next j ≡ bit bits j) → Tells r (Safe (program_of t) (choice_of (part (nodes_of t) i choices))) → Safeties t choices i bits → Safeties t choices (i + 1) next
  one_more i bits next r here others told before = record {
    safe_is = λ j h. ⊎_elim (λ e. this j e) (λ l. earlier j l) (this_or_before j i h);
    unused = λ j h. others j (λ e. omega (arith, e, h)) ∙ before.unused j (omega (arith, h));
  }
    where
      this : (j : ℕ) → j ≡ i → (bit next j ≡ true) ↔ Safe (program_of t) (choice_of (part (nodes_of t) j choices))
      this j e = rw e ((λ b. told.yes_if (sym here ∙ b)), (λ s. here ∙ told.only_if s))

      earlier : (j : ℕ) → j < i → (bit next j ≡ true) ↔ Safe (program_of t) (choice_of (part (nodes_of t) j choices))
      earlier j l = rw (others j (λ e. omega (arith, e, l))) (before.safe_is j l)

  -- a safe choice: its bit is set,
  pub one_safe : (i bits next : ℕ) {r : Bool} → ((j : ℕ) → bit next j ≡ (eqb j i || bit bits j)) → r ≡ true → Tells r (Safe (program_of t) (choice_of (part (nodes_of t) i choices))) → Safeties t choices i bits → Safeties t choices (i + 1) next
  one_safe i bits next e q = one_more i bits next _ (e i ∙ rw (eq-eqb i i refl) (sym q)) (λ j n. e j ∙ rw (ne_eqb j i n) refl)

  -- and an unsafe one: it stays 0
  pub one_unsafe : (i bits : ℕ) {r : Bool} → r ≡ false → Tells r (Safe (program_of t) (choice_of (part (nodes_of t) i choices))) → Safeties t choices i bits → Safeties t choices (i + 1) bits
  one_unsafe i bits q told before = one_more i bits bits _ (before.unused i (omega arith) ∙ sym q) (λ j n. refl) told before

  pub none_left : (old : List ℕ) → LeavesSets t choices 0 old old
  none_left old = record { long = refl; set = λ i h. absurd (omega (arith, h)); tail = refl }

  -- the sizes of choice i stand in set i, and the other numbers are as they were
  pub one_more_left : (i : ℕ) (old now set : List ℕ) → entries_of t * i + entries_of t ≤ length now → LeavesFor t (part (nodes_of t) i choices) (part (entries_of t) i now) done set → LeavesSets t choices i old now → LeavesSets t choices (i + 1) old (put (entries_of t) i now set)
  one_more_left i old now set within left before = record {
    long = put_long many i now set size within ∙ before.long;
    set = λ j h. ⊎_elim (λ e. this j e) (λ l. earlier j l) (this_or_before j i h);
    tail = rw (part_next many i) (put_tail many i now set size within ∙ rest);
  }
    where
      many : ℕ
      many = entries_of t

      size : length set ≡ many
      size = left.2.long ∙ part_long many i now within

      rest : drop (many * i + many) now ≡ drop (many * i + many) old
      rest = sym (drop-drop many (many * i) now) ∙ ap (drop many) before.tail ∙ drop-drop many (many * i) old

      this : (j : ℕ) → j ≡ i → LeavesFor t (part (nodes_of t) j choices) (part many j old) done (part many j (put many i now set))
      this j e = rw (e, put_here many i now set size within, ← before.tail) left

      earlier : (j : ℕ) → j < i → LeavesFor t (part (nodes_of t) j choices) (part many j old) done (part many j (put many i now set))
      earlier j l = rw (put_before many i now set size within j l) (before.set j l)
