-- What the crates above may use of this one beside its promise.
use Prim.Native.Nat.{ℕ, ◌+◌}
use mathlib.Core.Path.{◌≡◌, refl, ap, ◌∙◌}
use mathlib.Core.List.{List}
use mathlib.Core.Bool.{true, false, ◌&&◌}
use mathlib.Core.Logic.{⊎_elim}
use lib.Dec.{eqb, ltb}
use borrow.Author.Tests.{ltb-true}
use Rattle.table.specs.Below.{any}
use Rattle.table.specs.Record.{field_c, functions}
use Rattle.table.specs.Checks.{Accepted}
use Rattle.table.specs.Program.{program_of, within}
use Rattle.table.proofs.Booleans.{either_way}
use Rattle.frame_writer.specs.Frames.{FramesSet, WithFrames, with_frames}
use Rattle.frame_writer.proofs.Kept.{functions_same, nodes_same, edges_same, sort_same, a_same, b_same, node_sort_same, node_owner_same}
use Rattle.frame_writer.proofs.Checked.{refusal_same}

module _ {t : List ℕ} {frame : ℕ → ℕ} {u : List ℕ} (s : FramesSet t (functions t) frame u) where
  frame_set : (f : ℕ) → within (functions u) f (field_c u f) ≡ within (functions t) f (frame f)
  frame_set f =
      rw (functions_same s)
      (⊎_elim
      (λ (l : ltb f (functions t) ≡ true). ap (within (functions t) f) (s.frame_is f (ltb-true f (functions t) l)))
      (λ (g : ltb f (functions t) ≡ false). rw g refl)
      (either_way (ltb f (functions t))))

  program_same : program_of u ≡ with_frames frame (program_of t)
  unfolding program_of
  program_same = λ i.
      let n = functions_same s i in
      let m = nodes_same s i in
      let edge_at = λ (e : ℕ). n + m + e in
      record {
        functions = n;
        nodes = m;
        entry = λ f. ltb f n && eqb (sort_same s f i) 1;
        first = λ f. within n f (a_same s f i);
        exit = λ f. within n f (b_same s f i);
        frame = λ f. frame_set f i;
        sort = λ k. within m k (node_sort_same s k i);
        owner = λ k. within m k (node_owner_same s k i);
        target = λ k. within m k (b_same s (n + k) i);
        edge = λ a b. any (λ e. eqb (a_same s (edge_at e) i) a && eqb (b_same s (edge_at e) i) b) (edges_same s i);
      }

-- An accepted table whose functions were given other frames is accepted, and its program differs in these alone.
pub set_accepted : (t : List ℕ) (frame : ℕ → ℕ) {u : List ℕ} → Accepted t → FramesSet t (functions t) frame u → WithFrames t frame u
set_accepted t frame ok s = record { bytes = s; accepted_is = refusal_same s ok ∙ ok; program_is = program_same s }
