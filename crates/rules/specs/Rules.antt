-- Document 01, "Sizes and their rules": the rules, each "at least", for all paths, and the least table that meets them.
use Rattle.std.specs.Prelude.{ℕ, ◌+◌, ◌*◌, ◌<◌, ◌≤◌, ◌≡◌, Bool, true}
use Rattle.table.specs.Record.{call, spawn}
use Rattle.table.specs.Program.{Program}
use Rattle.program.specs.Frame.{frame_of}
use Rattle.sync.specs.Paths.{Path, stop, step, Clear, Open}
use Rattle.sync.specs.Synchronising.{Synchronising}
use Rattle.size.specs.Size.{unbounded, cap}
use Rattle.rules.specs.Choice.{Merges, LeavesUnguarded}

-- "Each function and node has four sizes: Total, Post, Pre, Through." The kinds of size, in that order:
abbrev pub total : ℕ
total = 0

abbrev pub post : ℕ
post = 1

abbrev pub pre : ℕ
pre = 2

abbrev pub through : ℕ
through = 3

-- A table of sizes, in the written order: "for each function and then each node Total, Post, Pre, Through".
abbrev pub of_function : Program → (ℕ → ℕ) → ℕ → ℕ → ℕ
of_function g sizes k f = sizes (4 * f + k)

abbrev pub of_node : Program → (ℕ → ℕ) → ℕ → ℕ → ℕ
of_node g sizes k n = sizes (4 * (g.functions + n) + k)

-- "4 × (functions + nodes)"
abbrev pub entries : Program → ℕ
entries g = 4 * (g.functions + g.nodes)

-- What a merged spawn's rules use of its target: "Total of its target".
abbrev pub spawned : Program → (ℕ → ℕ) → ℕ → ℕ
spawned g sizes n = of_function g sizes total (g.target n)

-- Sums along a path: of all its nodes, of all but the first, and of all but the last.
abbrev pub sum : {g : Program} {a n : ℕ} → (ℕ → ℕ) → Path g a n → ℕ
sum w (stop {n}) = w n
sum w (step {n = n} p e) = sum w p + w n

abbrev pub sum_after : {g : Program} {a n : ℕ} → (ℕ → ℕ) → Path g a n → ℕ
sum_after w stop = 0
sum_after w (step {n = n} p e) = sum_after w p + w n

abbrev pub sum_before : {g : Program} {a n : ℕ} → (ℕ → ℕ) → Path g a n → ℕ
sum_before w stop = 0
sum_before w (step p e) = sum w p

-- The table meets all rules, with `set` the synchronising nodes. For a path of two or more nodes its last step is written out:
-- between its ends stand the nodes before that step, but for the first.
pub record Meets (g : Program) (set : ℕ → Bool) (choice sizes : ℕ → ℕ) : Type 0 where
  -- every entry is a size
  pub sized : (x : ℕ) → sizes x ≤ unbounded
  -- "Total(f): frame + Total(n) for each node n of f."
  pub total_node : (n : ℕ) → n < g.nodes → cap (frame_of g (g.owner n) + of_node g sizes total n) ≤ of_function g sizes total (g.owner n)
  -- "Total(f): frame + Post(first) + Through of those between + Pre(last), for each open path of two or more nodes."
  pub total_path : {a p n : ℕ} (q : Path g a p) (e : g.edge p n ≡ true) → Clear set q → cap (frame_of g (g.owner a) + of_node g sizes post a + sum_after (of_node g sizes through) q + of_node g sizes pre n) ≤ of_function g sizes total (g.owner a)
  -- "Post(f): Post(first) + Through of all others, for each open path ending at the exit."
  pub post_path : (f : ℕ) → f < g.functions → {a : ℕ} (q : Path g a (g.exit f)) → Open set q → cap (of_node g sizes post a + sum_after (of_node g sizes through) q) ≤ of_function g sizes post f
  -- "Pre(f): frame + Through of all but the last + Pre(last), for each open path from the first node."
  pub pre_path : (f : ℕ) → f < g.functions → {n : ℕ} (q : Path g (g.first f) n) → Open set q → cap (frame_of g f + sum_before (of_node g sizes through) q + of_node g sizes pre n) ≤ of_function g sizes pre f
  -- "Through(f): the Through of all nodes, for each open path from first node to exit."
  pub through_path : (f : ℕ) → f < g.functions → (q : Path g (g.first f) (g.exit f)) → Open set q → cap (sum (of_node g sizes through) q) ≤ of_function g sizes through f
  -- "A call: each size at least its target's."
  pub calls : (n : ℕ) → n < g.nodes → g.sort n ≡ call → (k : ℕ) → k ≤ through → of_function g sizes k (g.target n) ≤ of_node g sizes k n
  -- "A merged spawn: Total and Post at least Total of its target; if unguarded, Pre and Through too."
  pub merged : (n : ℕ) → n < g.nodes → g.sort n ≡ spawn → Merges choice n → (k : ℕ) → k ≤ post → cap (spawned g sizes n) ≤ of_node g sizes k n
  pub unguarded : (n : ℕ) → n < g.nodes → g.sort n ≡ spawn → LeavesUnguarded choice n → (k : ℕ) → k ≤ through → cap (spawned g sizes n) ≤ of_node g sizes k n

-- "The sizes of a choice are the least table that meets all of these": it meets them, and is at or below every table that does.
pub record Least (g : Program) (set : ℕ → Bool) (choice sizes : ℕ → ℕ) : Type 0 where
  pub meets : Meets g set choice sizes
  pub least : (other : ℕ → ℕ) → Meets g set choice other → (x : ℕ) → x < entries g → sizes x ≤ other x

-- with the program's own synchronising set
abbrev pub LeastSizes : Program → (ℕ → ℕ) → (ℕ → ℕ) → Type 0
LeastSizes g choice sizes = (set : ℕ → Bool) × Synchronising g set × Least g set choice sizes
