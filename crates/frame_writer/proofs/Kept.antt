-- What a table keeps where the frames of its functions are set: every field of every record but c, and c of every record after the functions.
use Prim.Native.Nat.{ℕ, ◌+◌, ◌*◌, ◌/◌, ◌<◌, ◌≤◌}
use mathlib.Core.Path.{◌≡◌, refl, ap}
use mathlib.Core.List.{List}
use mathlib.Core.Logic.{⊎_elim}
use native.Mathlib.Omega.{arith}
use lib.Dec.{eqb}
use Rattle.table.specs.Below.{count}
use Rattle.table.specs.Record.{records, byte_of, kind_of, sort_of, field_a, field_b, field_c, functions, nodes, edges, node_sort, node_owner}
use Rattle.frame_writer.specs.Frames.{FramesSet, InFrame}

module _ {t : List ℕ} {frame : ℕ → ℕ} {u : List ℕ} (s : FramesSet t (functions t) frame u) where
  pub records_same : records u ≡ records t
  records_same = ap (λ (n : ℕ). n / 8) s.long

  byte_same : (r k : ℕ) → k < 6 → byte_of u r k ≡ byte_of t r k
  byte_same r k h =
      let p = r * 8 + k in
      s.others p (λ (w : InFrame (functions t) p). ⊎_elim (λ e. absurd (omega (arith, e))) (λ e. absurd (omega (arith, e))) w.2)

  late_byte_same : (r k : ℕ) → functions t ≤ r → k < 8 → byte_of u r k ≡ byte_of t r k
  late_byte_same r k l h =
      let p = r * 8 + k in
      s.others p (λ (w : InFrame (functions t) p). ⊎_elim (λ e. absurd (omega (arith, w.1, e))) (λ e. absurd (omega (arith, w.1, e))) w.2)

  module _ (r : ℕ) where
    pub kind_same : kind_of u r ≡ kind_of t r
    unfolding kind_of
    kind_same = byte_same r 0 (omega arith)

    pub sort_same : sort_of u r ≡ sort_of t r
    unfolding sort_of
    sort_same = byte_same r 1 (omega arith)

    pub a_same : field_a u r ≡ field_a t r
    unfolding field_a
    a_same = rw (byte_same r 2 (omega arith), byte_same r 3 (omega arith)) refl

    pub b_same : field_b u r ≡ field_b t r
    unfolding field_b
    b_same = rw (byte_same r 4 (omega arith), byte_same r 5 (omega arith)) refl

    pub c_same : functions t ≤ r → field_c u r ≡ field_c t r
    unfolding field_c
    c_same l = rw (late_byte_same r 6 l (omega arith), late_byte_same r 7 l (omega arith)) refl

  kinds_same : (k : ℕ) → count (λ r. eqb (kind_of u r) k) (records u) ≡ count (λ r. eqb (kind_of t r) k) (records t)
  kinds_same k = λ i. count (λ r. eqb (kind_same r i) k) (records_same i)

  pub functions_same : functions u ≡ functions t
  unfolding functions
  functions_same = kinds_same 1

  pub nodes_same : nodes u ≡ nodes t
  unfolding nodes
  nodes_same = kinds_same 2

  pub edges_same : edges u ≡ edges t
  unfolding edges
  edges_same = kinds_same 3

  pub node_sort_same : (n : ℕ) → node_sort u n ≡ node_sort t n
  node_sort_same n = λ i. sort_same (functions_same i + n) i

  pub node_owner_same : (n : ℕ) → node_owner u n ≡ node_owner t n
  node_owner_same n = λ i. a_same (functions_same i + n) i
