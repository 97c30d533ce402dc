-- Document 01, "Safety": the two conditions, and safe choices.
use Rattle.std.specs.Prelude.{ℕ, ◌<◌, ◌≡◌, Bool, true}
use Rattle.table.specs.Record.{spawn}
use Rattle.table.specs.Program.{Program}
use Rattle.sync.specs.Paths.{Path, stop, step, Open}
use Rattle.sync.specs.Synchronising.{Synchronising}
use Rattle.size.specs.Size.{unbounded}
use Rattle.rules.specs.Rules.{post, of_function, Least}
use Rattle.rules.specs.Sums.{after_sum, before_sum}

-- Which functions condition 1 speaks of: "the target of every spawn, merged or not".
abbrev pub GivesBack : Program → ℕ → Type 0
GivesBack g f = (n : ℕ) × (n < g.nodes) × (g.sort n ≡ spawn) × (f ≡ g.target n)

-- 1: "Post of the target of every spawn, merged or not, is 0"
abbrev pub PostsZero : Program → (ℕ → ℕ) → Type 0
PostsZero g sizes = (f : ℕ) → GivesBack g f → of_function g sizes post f ≡ 0

-- "every place where it is cut into a front and a back, both non-empty": the path that a front, an edge and a back make up
abbrev pub cut : {g : Program} {a p n b : ℕ} → Path g a p → g.edge p n ≡ true → Path g n b → Path g a b
cut front e stop = step front e
cut front e (step back i) = step (cut front e back) i

-- 2: "for every open path of two or more nodes and every place where it is cut [..], not both of these are unbounded: Post(first of front)
-- + Through of the rest of the front; and Through of all of the back but its last + Pre(last of back)"
pub record CutsBounded (g : Program) (set : ℕ → Bool) (sizes : ℕ → ℕ) : Type 0 where
  pub bounded : {a p n b : ℕ} (front : Path g a p) (e : g.edge p n ≡ true) (back : Path g n b) → Open set (cut front e back) → after_sum sizes front ≡ unbounded → before_sum sizes back ≡ unbounded → ⊥

-- "A choice is safe if, on its sizes:" both hold.
pub record Safe (g : Program) (choice : ℕ → ℕ) : Type 0 where
  pub set : ℕ → Bool
  pub set_is : Synchronising g set
  pub sizes : ℕ → ℕ
  pub sizes_are : Least g set choice sizes
  pub posts_zero : PostsZero g sizes
  pub cuts_bounded : CutsBounded g set sizes
