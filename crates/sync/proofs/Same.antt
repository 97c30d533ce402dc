-- The sets are the program's alone, and so are their words.
use Prim.Native.Nat.{ℕ}
use mathlib.Core.Path.{◌≡◌, sym, subst}
use mathlib.Core.List.{List}
use mathlib.Core.Bool.{Bool}
use Rattle.table.specs.Program.{Program}
use Rattle.table.proofs.Booleans.{same_test}
use Rattle.sync.specs.Synchronising.{Synchronising, ReachedBy}
use Rattle.sync.specs.Words.{member, Eight}
use Rattle.sync.specs.Answer.{Sets}
use Rattle.sync.proofs.Members.{words_same}

-- "The set is the smallest": there is one
pub synchronising_unique : (g : Program) (set other : ℕ → Bool) → Synchronising g set → Synchronising g other → (n : ℕ) → set n ≡ other n
synchronising_unique g set other p q n = same_test (set n) (other n) (p.smallest other q.closed n) (q.smallest set p.closed n)

-- one program, one pair of sets of words
pub sets_same : (g : Program) (set reached set' reached' : List ℕ) → Eight set → Eight reached → Eight set' → Eight reached' → Sets g set reached → Sets g set' reached' → (set ≡ set') × (reached ≡ reached')
sets_same g set reached set' reached' a b c d p q = (s, words_same reached reached' b d through)
  where
    s : set ≡ set'
    s = words_same set set' a c (synchronising_unique g (member set) (member set') p.set q.set)

    through : (n : ℕ) → member reached n ≡ member reached' n
    through n =
        same_test (member reached n) (member reached' n)
        (λ h. (q.reach n).1 (subst (λ (w : List ℕ). ReachedBy g (member w) n) s ((p.reach n).0 h)))
        (λ h. (p.reach n).1 (subst (λ (w : List ℕ). ReachedBy g (member w) n) (sym s) ((q.reach n).0 h)))
