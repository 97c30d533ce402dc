-- How a file comes to be in pieces.
use Rattle.std.proofs.Common.{◌≡◌, ℕ, zero, suc, ◌-◌, ◌<◌, Bool, true, false, cond, eqb, List, [], ◌∷◌, length, get_or, take, drop, refl, sym, ap, ◌∙◌, subst, arith}
use Rattle.std.specs.List.{concat}
use Rattle.std.proofs.lemmas.List.{get_or-take, take-take, length-take-le, length-drop}
use Rattle.std.proofs.lemmas.Bool.{lt-ltb, and_parts, and_from, and_right}
use Rattle.usage_line.specs.Bytes.{line_feed, ends_in}
use Rattle.usage_line.specs.Lines.{pieces, before_first}
use Rattle.usage_line.specs.Cut.{IsCut}

pub pieces_none : (file : List ℕ) → length file ≡ 0 → pieces file ≡ []
unfolding pieces
pieces_none [] e = refl
pieces_none (b ∷ bytes) e = absurd (omega arith)

-- its first line feed ends its first piece
pub pieces_at : (k : ℕ) (file : List ℕ) → k < length file → ((j : ℕ) → j < k → eqb (get_or file j 0) line_feed ≡ false) → eqb (get_or file k 0) line_feed ≡ true → pieces file ≡ take (suc k) file ∷ pieces (drop (suc k) file)
unfolding pieces
pieces_at k [] l before here = absurd (omega arith)
pieces_at zero (b ∷ bytes) l before here = ap (λ c. cond c ((b ∷ []) ∷ pieces bytes) (before_first b (pieces bytes))) here
pieces_at (suc k) (b ∷ bytes) l before here =
    ap (λ c. cond c ((b ∷ []) ∷ pieces bytes) (before_first b (pieces bytes))) (before 0 (omega arith))
    ∙ ap (before_first b) (pieces_at k bytes (omega arith) (λ j m. before (suc j) (omega arith)) here)

-- and without one it is one piece
pub pieces_whole : (file : List ℕ) → 0 < length file → ((j : ℕ) → j < length file → eqb (get_or file j 0) line_feed ≡ false) → pieces file ≡ file ∷ []
unfolding pieces
pieces_whole [] l none = absurd (omega arith)
pieces_whole (b ∷ []) l none = ap (λ c. cond c ((b ∷ []) ∷ []) (before_first b [])) (none 0 (omega arith))
pieces_whole (b ∷ c ∷ bytes) l none =
    ap (λ t. cond t ((b ∷ []) ∷ pieces (c ∷ bytes)) (before_first b (pieces (c ∷ bytes)))) (none 0 (omega arith))
    ∙ ap (before_first b) (pieces_whole (c ∷ bytes) (omega arith) (λ j m. none (suc j) (omega arith)))

-- a piece is taken off
pub cut_at : (file : List ℕ) (k : ℕ) → k < length file → ((j : ℕ) → j < k → eqb (get_or file j 0) line_feed ≡ false) → eqb (get_or file k 0) line_feed ≡ true → IsCut file (take k file) true (drop (suc k) file)
cut_at file k l before here =
    let piece = take (suc k) file in
    let long : length piece ≡ suc k = length-take-le (suc k) file (omega arith) in
    let last : length piece - 1 ≡ k = omega (arith, long) in
    let ended : ends_in line_feed piece ≡ true =
    and_from _ _ (lt-ltb 0 _ (omega (arith, long))) (subst (λ (m : ℕ). eqb (get_or piece m 0) line_feed ≡ true) (sym last) (ap (λ (b : ℕ). eqb b line_feed) (get_or-take (suc k) file k 0 (omega arith)) ∙ here))
    in (
      piece,
      pieces_at k file l before here,
      sym ended,
      sym (ap (λ (b : Bool). cond b (take (length piece - 1) piece) piece) ended ∙ ap (λ (m : ℕ). take m piece) last ∙ take-take k (suc k) file (omega arith)),
      simp length-drop (omega arith),
    )

pub cut_whole : (file : List ℕ) → 0 < length file → ((j : ℕ) → j < length file → eqb (get_or file j 0) line_feed ≡ false) → IsCut file file false []
cut_whole file l none =
    let open_end : ends_in line_feed file ≡ false = and_right _ _ (none (length file - 1) (omega arith)) in (
      file,
      pieces_whole file l none ∙ ap (λ (p : List (List ℕ)). file ∷ p) (sym (pieces_none [] refl)),
      sym open_end,
      sym (ap (λ (b : Bool). cond b (take (length file - 1) file) file) open_end),
      l,
    )

-- ---- what `pieces` means

-- each but the last ends in a line feed
abbrev pub Fed : List (List ℕ) → Type 0
Fed some = (k : ℕ) → suc k < length some → ends_in line_feed (get_or some k []) ≡ true

-- and in none does one stand before its end
abbrev pub Unfed : List (List ℕ) → Type 0
Unfed some = (k i : ℕ) → suc i < length (get_or some k []) → eqb (get_or (get_or some k []) i 0) line_feed ≡ false

module _ (b : ℕ) where
  joined_first : (some : List (List ℕ)) → concat (before_first b some) ≡ b ∷ concat some
  joined_first [] = refl
  joined_first (piece ∷ some) = refl

  fed_first : (some : List (List ℕ)) → Fed some → Fed (before_first b some)
  fed_first [] fed k l = absurd (omega arith)
  fed_first (piece ∷ some) fed (suc k) l = fed (suc k) l
  fed_first (piece ∷ some) fed zero l = longer piece (fed 0 l)
    where
      at : (bytes : List ℕ) (m n : ℕ) → n ≡ m → eqb (get_or bytes n 0) line_feed ≡ eqb (get_or bytes m 0) line_feed
      at bytes m n e = ap (λ (i : ℕ). eqb (get_or bytes i 0) line_feed) e

      longer : (piece : List ℕ) → ends_in line_feed piece ≡ true → ends_in line_feed (b ∷ piece) ≡ true
      longer [] h = absurd cc
      longer (c ∷ rest) h =
          and_from _ _
          (lt-ltb 0 (length (b ∷ c ∷ rest)) (omega arith))
          (at (b ∷ c ∷ rest) (suc (length rest)) (length (b ∷ c ∷ rest) - 1) (omega arith) ∙ sym (at (c ∷ rest) (length rest) (length (c ∷ rest) - 1) (omega arith)) ∙ (and_parts _ _ h).1)

  unfed_first : eqb b line_feed ≡ false → (some : List (List ℕ)) → Unfed some → Unfed (before_first b some)
  unfed_first e [] unfed zero i l = absurd (omega arith)
  unfed_first e [] unfed (suc k) i l = absurd (omega arith)
  unfed_first e (piece ∷ some) unfed zero zero l = e
  unfed_first e (piece ∷ some) unfed zero (suc i) l = unfed 0 i (omega arith)
  unfed_first e (piece ∷ some) unfed (suc k) i l = unfed (suc k) i l

-- one after another they are the file
pub joined : (file : List ℕ) → concat (pieces file) ≡ file
unfolding pieces
joined [] = refl
joined (b ∷ bytes) = go (eqb b line_feed) (joined bytes)
  where
    go : (t : Bool) → concat (pieces bytes) ≡ bytes → concat (cond t ((b ∷ []) ∷ pieces bytes) (before_first b (pieces bytes))) ≡ b ∷ bytes
    go true e = ap (λ (x : List ℕ). b ∷ x) e
    go false e = joined_first b (pieces bytes) ∙ ap (λ (x : List ℕ). b ∷ x) e

pub fed : (file : List ℕ) → Fed (pieces file)
unfolding pieces
fed [] k l = absurd (omega arith)
fed (b ∷ bytes) k l = go (eqb b line_feed) refl (fed bytes) k l
  where
    go : (t : Bool) → eqb b line_feed ≡ t → Fed (pieces bytes) → Fed (cond t ((b ∷ []) ∷ pieces bytes) (before_first b (pieces bytes)))
    go true e rest zero l = e
    go true e rest (suc k) l = rest k (omega arith)
    go false e rest k l = fed_first b (pieces bytes) rest k l

pub unfed : (file : List ℕ) → Unfed (pieces file)
unfolding pieces
unfed [] k i l = absurd (omega arith)
unfed (b ∷ bytes) k i l = go (eqb b line_feed) refl (unfed bytes) k i l
  where
    go : (t : Bool) → eqb b line_feed ≡ t → Unfed (pieces bytes) → Unfed (cond t ((b ∷ []) ∷ pieces bytes) (before_first b (pieces bytes)))
    go true e rest zero i l = absurd (omega arith)
    go true e rest (suc k) i l = rest k i l
    go false e rest k i l = unfed_first b e (pieces bytes) rest k i l
