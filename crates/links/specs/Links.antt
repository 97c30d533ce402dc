-- Chains of items with the same key, from the last one to the first. Helps proofs only: no promise about a table rests on it.
use Rattle.std.specs.Prelude.{ℕ, zero, suc, ◌<◌, ◌≤◌, ◌≡◌, Bool, true, false, cond, eqb, List, Option, None, Some, get_or}

-- the last item below n that passes the test, if one does
unfoldable pub latest : (ℕ → Bool) → ℕ → Option ℕ
latest test zero = None
latest test (suc n) = cond (test n) (Some n) (latest test n)

-- What is given for an item below `items`: its key, or nothing where it has none.
pub record Keyed (gives : ℕ → Option ℕ → Type 0) (has : ℕ → ℕ → Bool) (items : ℕ) : Type 0 where
  pub nothing : (i : ℕ) → i < items → gives i None → (k : ℕ) → has k i ≡ false
  pub key : (i k : ℕ) → i < items → gives i (Some k) → (j : ℕ) → has j i ≡ eqb j k

-- the items below `items` that have a key are linked: key k is that of item i where `has k i`
pub record Linked (has : ℕ → ℕ → Bool) (items : ℕ) (first next : List (Option ℕ)) : Type 0 where
  pub starts : (k : ℕ) → get_or first k None ≡ latest (has k) items
  pub goes_on : (k i : ℕ) → i < items → has k i ≡ true → get_or next i None ≡ latest (has k) i

-- which item is next on a walk, and how far it has still to go
abbrev pub left : Option ℕ → ℕ
left None = 0
left (Some i) = suc i

-- a walk along the chain of a key that has come to `next`: what is done has been done to all items of the key that it has passed
pub record Walk (test : ℕ → Bool) (items : ℕ) (done : ℕ → Type 0) (next : Option ℕ) : Type 0 where
  pub end : ℕ
  pub within : end ≤ items
  pub at : next ≡ latest test end
  pub passed : (i : ℕ) → end ≤ i → i < items → test i ≡ true → done i
