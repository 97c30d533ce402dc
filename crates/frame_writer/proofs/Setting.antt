-- Setting frames one after another.
use Prim.Native.Nat.{ℕ, ◌+◌, ◌*◌, ◌/◌, ◌%◌, ◌<◌, ◌≤◌}
use mathlib.Core.Path.{◌≡◌, refl, ◌∙◌}
use mathlib.Core.List.{List}
use mathlib.Core.Logic.{inl, inr}
use native.Mathlib.Omega.{arith}
use native.Mathlib.Decide.{ℕ_discrete}
use lib.ListN.{length, get_or, set, length-set}
use lib.Seq.{get_or-set_same, get_or-set_other}
use Rattle.table.specs.Record.{field_c}
use Rattle.frame_writer.specs.Frames.{FramesSet, InFrame}

pub frames_none : (t : List ℕ) (frame : ℕ → ℕ) → FramesSet t 0 frame t
frames_none t frame = record { long = refl; frame_is = λ f h. absurd (omega arith); others = λ p h. refl }

-- what is left where the frame of function i alone is set to x
module _ (u : List ℕ) (i x : ℕ) where
  put : List ℕ
  put = set (set u (i * 8 + 6) (x % 256)) (i * 8 + 7) (x / 256)

  put_long : length put ≡ length u
  unfolding put
  put_long = simp length-set

  put_other : (p : ℕ) → (p ≡ i * 8 + 6 → ⊥) → (p ≡ i * 8 + 7 → ⊥) → get_or put p 0 ≡ get_or u p 0
  unfolding put
  put_other p low high = get_or-set_other _ (i * 8 + 7) p _ 0 high ∙ get_or-set_other u (i * 8 + 6) p _ 0 low

  put_low : i * 8 + 8 ≤ length u → get_or put (i * 8 + 6) 0 ≡ x % 256
  unfolding put
  put_low h = get_or-set_other _ (i * 8 + 7) (i * 8 + 6) _ 0 (λ e. absurd (omega arith)) ∙ get_or-set_same u (i * 8 + 6) _ 0 (omega arith)

  put_high : i * 8 + 8 ≤ length u → get_or put (i * 8 + 7) 0 ≡ x / 256
  unfolding put
  put_high h = get_or-set_same (set u (i * 8 + 6) (x % 256)) (i * 8 + 7) (x / 256) 0 (simp length-set (omega arith))

  put_frame : i * 8 + 8 ≤ length u → field_c put i ≡ x
  unfolding field_c
  put_frame h = omega (arith, put_low h, put_high h)

  put_other_frame : (j : ℕ) → (j ≡ i → ⊥) → field_c put j ≡ field_c u j
  unfolding field_c
  put_other_frame j n =
      let low = put_other (j * 8 + 6) (λ e. absurd (omega (arith, n))) (λ e. absurd (omega arith)) in
      let high = put_other (j * 8 + 7) (λ e. absurd (omega arith)) (λ e. absurd (omega (arith, n))) in
      rw (low, high) refl

pub frames_next : (frame : ℕ → ℕ) (i x : ℕ) {t u : List ℕ} → FramesSet t i frame u → i * 8 + 8 ≤ length t → x ≡ frame i → FramesSet t (i + 1) frame (set (set u (i * 8 + 6) (x % 256)) (i * 8 + 7) (x / 256))
unfolding put
frames_next frame i x {t} {u} w h e = record {
  long = put_long u i x ∙ w.long;
  frame_is = λ j k. go j k (ℕ_discrete j i);
  others = λ p out.
      put_other u i x p (λ q. out (i, omega arith, inl q)) (λ q. out (i, omega arith, inr q))
      ∙ w.others p (λ (k : InFrame i p). out (k.0, omega (arith, k.1), k.2));
}
  where
    go : (j : ℕ) → j < i + 1 → Dec (j ≡ i) → field_c (put u i x) j ≡ frame j
    go j k (yes q) = rw q (put_frame u i x (omega (arith, w.long)) ∙ e)
    go j k (no q) = put_other_frame u i x j q ∙ w.frame_is j (omega (arith, q))

pub frames_last : (frame : ℕ → ℕ) {n i : ℕ} {t u : List ℕ} → FramesSet t i frame u → i ≡ n → FramesSet t n frame u
frames_last frame w e = rw e at w
