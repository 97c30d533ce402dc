-- The bytes past the nodes are as they were: the nodes' verdicts alone are written.
use Rattle.std.proofs.Common.{◌≡◌, ℕ, ◌<◌, Bool, true, false, cond, List, set, refl, ◌∙◌, arith, get_or-set_other, length-set}
use Rattle.size.specs.Numbers.{Written}
use Rattle.sizes.specs.Call.{choice_of}

-- whatever verdicts they get,
pub written_as : {count i : ℕ} {numbers : ℕ → ℕ} {old new : List ℕ} → Written i numbers old new → i ≡ count → Written count (choice_of new) old new
written_as w e = record { long = w.long; written = λ i h. refl; tail = λ i h. w.tail i (omega arith) }

-- from one step to the next,
pub written_twice : {count : ℕ} {numbers : ℕ → ℕ} {a b c : List ℕ} → Written count numbers a b → Written count (choice_of c) b c → Written count (choice_of c) a c
written_twice v w = record { long = w.long ∙ v.long; written = λ i h. refl; tail = λ i h. w.tail i h ∙ v.tail i h }

-- and where a trial of one node is taken or not
pub written_tried : {count n : ℕ} (x : ℕ) {first old new : List ℕ} (taken : Bool) → n < count → new ≡ cond taken (set old n x) old → Written count (choice_of old) first old → Written count (choice_of new) first new
written_tried {n = n} x {old = old} true h e w =
    rw e (record {
      long = length-set old n x ∙ w.long;
      written = λ i l. refl;
      tail = λ i l. get_or-set_other old n i x 0 (λ q. absurd (omega arith)) ∙ w.tail i l;
    })
written_tried x false h e w = rw e w
