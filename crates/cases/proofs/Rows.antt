-- A table's program from short lists: the same program, and quick to compute with.
use Prim.Native.Nat.{ℕ, zero, suc, ◌<◌}
use mathlib.Core.Path.{◌≡◌, refl, sym, ap, ap₂, ◌∙◌, fun_ext}
use mathlib.Core.Bool.{Bool, true, false, cond, ◌&&◌, ◌||◌}
use mathlib.Core.List.{List, [], ◌∷◌, ◌++◌}
use mathlib.Core.Logic.{⊎_elim}
use native.Mathlib.Omega.{arith}
use native.Mathlib.Decide.{dec_lt}
use lib.Dec.{eqb, ltb}
use lib.ListN.{length, length-append, get_or-eq_default, get_or-append}
use borrow.Author.Tests.{lt-ltb, le-ltb}
use Rattle.size.specs.Numbers.{at}
use Rattle.table.specs.Below.{any}
use Rattle.table.specs.Record.{sort_of, field_a, field_b, field_c, functions, nodes, edges, node_sort, node_owner, node_target, edge_from, edge_to}
use Rattle.table.specs.Program.{Program, program_of, within}
use Rattle.table.proofs.Below.{last_or_before}

-- the values of f below n, in order
unfoldable pub row : (ℕ → ℕ) → ℕ → List ℕ
row f zero = []
row f (suc n) = row f n ++ (f n ∷ [])

pub record Rows : Type 0 where
  pub functions : ℕ
  pub nodes : ℕ
  pub edges : ℕ
  pub entries : List ℕ
  pub firsts : List ℕ
  pub exits : List ℕ
  pub frames : List ℕ
  pub sorts : List ℕ
  pub owners : List ℕ
  pub targets : List ℕ
  pub froms : List ℕ
  pub tos : List ℕ

-- the e-th edge leads from a to b
abbrev pub leads : Rows → ℕ → ℕ → ℕ → Bool
leads r a b e = eqb (at r.froms e) a && eqb (at r.tos e) b

abbrev pub program_from : Rows → Program
program_from r = record {
  functions = r.functions;
  nodes = r.nodes;
  entry = λ f. eqb (at r.entries f) 1;
  first = at r.firsts;
  exit = at r.exits;
  frame = at r.frames;
  sort = at r.sorts;
  owner = at r.owners;
  target = at r.targets;
  edge = λ a b. any (leads r a b) r.edges;
}

unfoldable pub rows_of : List ℕ → Rows
unfolding row
rows_of t = record {
  functions = functions t;
  nodes = nodes t;
  edges = edges t;
  entries = row (sort_of t) (functions t);
  firsts = row (field_a t) (functions t);
  exits = row (field_b t) (functions t);
  frames = row (field_c t) (functions t);
  sorts = row (node_sort t) (nodes t);
  owners = row (node_owner t) (nodes t);
  targets = row (node_target t) (nodes t);
  froms = row (edge_from t) (edges t);
  tos = row (edge_to t) (edges t);
}

row_long : (f : ℕ → ℕ) (n : ℕ) → length (row f n) ≡ n
unfolding row
row_long f zero = refl
row_long f (suc n) = length-append (row f n) (f n ∷ []) ∙ omega (arith, row_long f n)

last_of : (l : List ℕ) (x n : ℕ) → n ≡ length l → at (l ++ (x ∷ [])) n ≡ x
last_of [] x n e = rw e refl
last_of (y ∷ l) x zero e = absurd (omega (arith, e))
last_of (y ∷ l) x (suc n) e = last_of l x n (omega (arith, e))

row_below : (f : ℕ → ℕ) (n i : ℕ) → i < n → at (row f n) i ≡ f i
unfolding row
row_below f zero i h = absurd (omega arith)
row_below f (suc n) i h = ⊎_elim here (λ l. get_or-append (row f n) (f n ∷ []) 0 i (omega (arith, row_long f n, l)) ∙ row_below f n i l) (last_or_before i n h)
  where
    here : i ≡ n → at (row f n ++ (f n ∷ [])) i ≡ f i
    here e = rw e (last_of (row f n) (f n) n (sym (row_long f n)))

row_at : (f : ℕ → ℕ) (n i : ℕ) → at (row f n) i ≡ within n i (f i)
row_at f n i = go (dec_lt i n)
  where
    go : Dec (i < n) → at (row f n) i ≡ within n i (f i)
    go (yes h) = rw (lt-ltb i n h) (row_below f n i h)
    go (no h) = rw (le-ltb i n (omega arith)) (get_or-eq_default (row f n) 0 (omega (arith, row_long f n)))

entry_at : (n f s : ℕ) → eqb (within n f s) 1 ≡ (ltb f n && eqb s 1)
entry_at n f s = go (ltb f n)
  where
    go : (b : Bool) → eqb (cond b s 0) 1 ≡ (b && eqb s 1)
    go true = refl
    go false = refl

any_same : (f g : ℕ → Bool) (n : ℕ) → ((k : ℕ) → k < n → f k ≡ g k) → any f n ≡ any g n
unfolding any
any_same f g zero e = refl
any_same f g (suc n) e = ap₂ ◌||◌ (any_same f g n (λ k h. e k (omega arith))) (e n (omega arith))

pub rows_program : (t : List ℕ) → program_from (rows_of t) ≡ program_of t
unfolding rows_of program_of
rows_program t i = record {
  functions = functions t;
  nodes = nodes t;
  entry = fun_ext (λ f. ap (λ (s : ℕ). eqb s 1) (row_at (sort_of t) (functions t) f) ∙ entry_at (functions t) f (sort_of t f)) i;
  first = fun_ext (row_at (field_a t) (functions t)) i;
  exit = fun_ext (row_at (field_b t) (functions t)) i;
  frame = fun_ext (row_at (field_c t) (functions t)) i;
  sort = fun_ext (row_at (node_sort t) (nodes t)) i;
  owner = fun_ext (row_at (node_owner t) (nodes t)) i;
  target = fun_ext (row_at (node_target t) (nodes t)) i;
  edge = fun_ext (λ a. fun_ext (λ b. same a b)) i;
}
  where
    same : (a b : ℕ) → any (leads (rows_of t) a b) (edges t) ≡ any (λ e. eqb (edge_from t e) a && eqb (edge_to t e) b) (edges t)
    same a b =
        any_same (leads (rows_of t) a b) (λ e. eqb (edge_from t e) a && eqb (edge_to t e) b) (edges t)
        (λ e h. ap₂ (λ (x y : ℕ). eqb x a && eqb y b) (row_below (edge_from t) (edges t) e h) (row_below (edge_to t) (edges t) e h))
