-- The sums that safety asks for: the largest along open paths that end, or start, at a node. Each is bounded by all such paths and attained by one.
use Rattle.std.specs.Prelude.{ℕ, ◌+◌, ◌≤◌, ◌≡◌, Bool, false}
use Rattle.table.specs.Program.{Program}
use Rattle.sync.specs.Paths.{Path, stop, step, Clear}
use Rattle.size.specs.Size.{cap}
use Rattle.rules.specs.Rules.{post, pre, through, of_node, sum_after, sum_before}

-- no node before the last is a member of the set
abbrev pub Ahead : {g : Program} {a n : ℕ} → (ℕ → Bool) → Path g a n → Type 0
Ahead set stop = Unit {0}
Ahead set (step {p = p} q e) = Ahead set q × (set p ≡ false)

-- 01, Safety 2: "Post(first of front) + Through of the rest of the front", over the fronts that end at n
abbrev pub after_sum : {g : Program} {a n : ℕ} → (ℕ → ℕ) → Path g a n → ℕ
after_sum {g} {a} sizes q = cap (of_node g sizes post a + sum_after (of_node g sizes through) q)

pub record LargestAfter (g : Program) (set : ℕ → Bool) (sizes : ℕ → ℕ) (n x : ℕ) : Type 0 where
  pub bounds : {a : ℕ} (q : Path g a n) → Clear set q → after_sum sizes q ≤ x
  pub attained : (a : ℕ) × ((q : Path g a n) × Clear set q × (x ≡ after_sum sizes q))

-- 01, Safety 2: "Through of all of the back but its last + Pre(last of back)", over the backs that start at n
abbrev pub before_sum : {g : Program} {n b : ℕ} → (ℕ → ℕ) → Path g n b → ℕ
before_sum {g} {n} {b} sizes q = cap (sum_before (of_node g sizes through) q + of_node g sizes pre b)

pub record LargestBefore (g : Program) (set : ℕ → Bool) (sizes : ℕ → ℕ) (n x : ℕ) : Type 0 where
  pub bounds : {b : ℕ} (q : Path g n b) → Ahead set q → before_sum sizes q ≤ x
  pub attained : (b : ℕ) × ((q : Path g n b) × Ahead set q × (x ≡ before_sum sizes q))
