-- Setting the frames of an accepted table changes nothing that a check looks at.
use Prim.Native.Nat.{ℕ, zero, suc, ◌%◌}
use mathlib.Core.Path.{◌≡◌, refl, ap, fun_ext}
use mathlib.Core.List.{List}
use mathlib.Core.Bool.{true, false, not, ◌&&◌, ◌||◌}
use mathlib.Core.Logic.{⊎_elim}
use lib.Dec.{eqb, leb, ltb}
use borrow.Author.Tests.{ltb-true, ltb-false}
use Rattle.table.specs.Below.{any, count}
use Rattle.table.specs.Refusal.{refusal}
use Rattle.table.specs.Record.{field_a, field_b, functions}
use Rattle.table.specs.Checks.{Accepted, free_checks, order_checks, checks, above, broken, unlisted, out_of_order, too_many, no_entry, absent, foreign, not_plain, not_above}
use Rattle.table.specs.Scan.{surplus_of}
use Rattle.table.proofs.Booleans.{either_way}
use Rattle.table.proofs.Laws.{function_kind}
use Rattle.frame_writer.specs.Frames.{FramesSet}
use Rattle.frame_writer.proofs.Kept.{records_same, kind_same, sort_same, a_same, b_same, c_same, functions_same, nodes_same, node_sort_same, node_owner_same}

module _ {t : List ℕ} {frame : ℕ → ℕ} {u : List ℕ} (s : FramesSet t (functions t) frame u) where
  broken_same : broken u ≡ broken t
  unfolding broken
  broken_same = ap (λ (n : ℕ). not (eqb (n % 8) 0)) s.long

  -- c is looked at in nodes and edges only, which stand after the functions
  unlisted_same : Accepted t → (r : ℕ) → unlisted u r ≡ unlisted t r
  unfolding unlisted
  unlisted_same ok r =
      ⊎_elim
      (λ (l : ltb r (functions t) ≡ true). rw (kind_same s r, sort_same s r, b_same s r, function_kind t ok r (ltb-true r (functions t) l)) refl)
      (λ (g : ltb r (functions t) ≡ false). rw (kind_same s r, sort_same s r, b_same s r, c_same s r (ltb-false r (functions t) g)) refl)
      (either_way (ltb r (functions t)))

  out_of_order_same : (r : ℕ) → out_of_order u r ≡ out_of_order t r
  unfolding out_of_order
  out_of_order_same zero = refl
  out_of_order_same (suc r) = rw (kind_same s (suc r), kind_same s r) refl

  not_above_same : (r : ℕ) → not_above u r ≡ not_above t r
  unfolding not_above
  not_above_same zero = refl
  not_above_same (suc r) = λ i.
      eqb (kind_same s r i) 3 && eqb (kind_same s (suc r) i) 3 && not (above (a_same s (suc r) i) (b_same s (suc r) i) (a_same s r i) (b_same s r i))

  surplus_same : (k limit r : ℕ) → surplus_of u k limit r ≡ surplus_of t k limit r
  surplus_same k limit r = λ i. eqb (kind_same s r i) k && leb limit (count (λ m. eqb (kind_same s m i) k) r)

  too_many_same : (r : ℕ) → too_many u r ≡ too_many t r
  unfolding too_many
  too_many_same r = λ i. surplus_same 1 64 r i || surplus_same 2 512 r i || surplus_same 3 1024 r i

  no_entry_same : no_entry u ≡ no_entry t
  unfolding no_entry
  no_entry_same = λ i. eqb (functions_same s i) 0 || not (any (λ r. eqb (kind_same s r i) 1 && eqb (sort_same s r i) 1) (records_same s i))

  module _ (r : ℕ) where
    absent_same : absent u r ≡ absent t r
    unfolding absent
    absent_same = rw (kind_same s r, sort_same s r, a_same s r, b_same s r, functions_same s, nodes_same s) refl

    foreign_same : foreign u r ≡ foreign t r
    unfolding foreign
    foreign_same = rw (kind_same s r, a_same s r, b_same s r, node_owner_same s (field_a t r), node_owner_same s (field_b t r)) refl

    not_plain_same : not_plain u r ≡ not_plain t r
    unfolding not_plain
    not_plain_same = rw (kind_same s r, a_same s r, b_same s r, node_sort_same s (field_a t r), node_sort_same s (field_b t r)) refl

  pub refusal_same : Accepted t → refusal checks u ≡ refusal checks t
  unfolding checks free_checks order_checks refusal
  refusal_same ok =
      rw (records_same s, broken_same, no_entry_same)
      (rw (fun_ext (unlisted_same ok), fun_ext out_of_order_same, fun_ext too_many_same, fun_ext absent_same, fun_ext foreign_same, fun_ext not_plain_same, fun_ext not_above_same) refl)
