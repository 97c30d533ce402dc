-- A line written out, and its name and count found again.
use Rattle.std.proofs.Common.{◌≡◌, ℕ, Bool, ◌+◌, ◌-◌, ◌<◌, ◌≤◌, true, false, List, [], ◌∷◌, ◌++◌, length, get_or, take, drop, slice_range, refl, sym, ap, ◌∙◌, ⊎_elim, arith, not, eqb, ◌||◌}
use Rattle.std.specs.List.{list_all}
use Rattle.std.proofs.lemmas.List.{append_assoc, length-append, get_or_append_left, get_or-append_right, get_or_at, take_at, drop_at, drop-drop, drop_more, take-append-drop}
use Rattle.std.proofs.lemmas.List.Edits.{split_between}
use Rattle.std.proofs.lemmas.Slice.{between_from_start}
use Rattle.std.proofs.lemmas.List.Sums.{AllPass-from_list_all}
use Rattle.std.proofs.lemmas.Bool.{and_parts, or_parts, not-true, cases_lt, eqb-true, eq-eqb}
use Rattle.std.proofs.lemmas.Slice.Eq.{bytes_eq-Decides}
use Rattle.usage_line.specs.Bytes.{tab, colon, line_feed, is_place, is_name, is_count, value}
use Rattle.usage_line.specs.Line.{behind_last, stands, name_start, name_end, count_end, count_part, qualifier, of_form, name_in, count_in}
use Rattle.usage_line.proofs.Parts.{name_end_is, name_end_tab, behind_last_is, behind_last_le}
use Rattle.usage_line.proofs.Forms.{formed, of_form_from, room, named}

-- the middle of three
middle : (p q r : List ℕ) (i j : ℕ) → length p ≡ i → i + length q ≡ j → slice_range (p ++ (q ++ r)) i j ≡ q
middle p q r i j a b = ap (take (j - i)) (drop_at p (q ++ r) i a) ∙ take_at q r (j - i) (omega arith)

passes : (test : ℕ → Bool) (bytes : List ℕ) → list_all (λ b. not (test b)) bytes ≡ true → (k : ℕ) → k < length bytes → test (get_or bytes k 0) ≡ false
passes test bytes all k l = not-true _ (AllPass-from_list_all (λ b. not (test b)) bytes all k 0 l)

-- a place, a name, a tab, a count and the qualifier
abbrev pub line_of : List ℕ → List ℕ → List ℕ → List ℕ
line_of place name count = place ++ name ++ (tab ∷ count ++ qualifier)

module _ (place name count : List ℕ) (p : is_place place ≡ true) (n : is_name name ≡ true) (c : is_count count ≡ true) where
  line : List ℕ
  line = line_of place name count

  start : ℕ
  start = length place

  end : ℕ
  end = length place + length name

  long : length line ≡ end + (1 + (length count + 7))
  unfolding line end
  long = simp length-append (omega arith)

  -- the place, and what follows it
  apart : line ≡ place ++ (name ++ (tab ∷ count ++ qualifier))
  unfolding line
  apart = append_assoc place name (tab ∷ count ++ qualifier)

  behind : line ≡ (place ++ name ++ (tab ∷ [])) ++ (count ++ qualifier)
  unfolding line
  behind = sym (append_assoc (place ++ name) (tab ∷ []) (count ++ qualifier))

  in_place : (k : ℕ) → k < start → get_or line k 0 ≡ get_or place k 0
  unfolding start
  in_place k l = ap (λ (x : List ℕ). get_or x k 0) apart ∙ get_or_append_left place _ 0 k l

  in_name : (k : ℕ) → start ≤ k → k < end → get_or line k 0 ≡ get_or name (k - start) 0
  unfolding start end
  in_name k a l = ap (λ (x : List ℕ). get_or x k 0) apart ∙ get_or-append_right place _ (length place) k 0 refl a ∙ get_or_append_left name _ 0 (k - length place) (omega arith)

  at_end : get_or line end 0 ≡ tab
  unfolding line end
  at_end = get_or_at (place ++ name) tab (count ++ qualifier) 0 (length place + length name) (length-append place name)

  no_tab : (k : ℕ) → k < end → stands tab line k ≡ false
  unfolding is_place is_name start end
  no_tab k l =
      ⊎_elim
      (λ (a : k < start). ap (λ (x : ℕ). eqb x tab) (in_place k a) ∙ (or_parts _ _ (passes (λ b. eqb b tab || eqb b line_feed) place (and_parts _ _ p).1 k a)).0)
      (λ (a : start ≤ k). ap (λ (x : ℕ). eqb x tab) (in_name k a l) ∙ (or_parts _ _ (or_parts _ _ (passes (λ b. eqb b tab || eqb b colon || eqb b line_feed) name (and_parts _ _ n).1 (k - start) (omega arith))).0).0)
      (cases_lt k start)

  no_colon : (k : ℕ) → start ≤ k → k < end → stands colon line k ≡ false
  unfolding is_name start end
  no_colon k a l = ap (λ (x : ℕ). eqb x colon) (in_name k a l) ∙ (or_parts _ _ (or_parts _ _ (passes (λ b. eqb b tab || eqb b colon || eqb b line_feed) name (and_parts _ _ n).1 (k - start) (omega arith))).0).1

  last_colon : 0 < start → stands colon line (start - 1) ≡ true
  unfolding is_place start
  last_colon l = ap (λ (x : ℕ). eqb x colon) (in_place (start - 1) (omega arith)) ∙ (and_parts _ _ (and_parts _ _ p).0).1

  ends : name_end line ≡ end
  ends = name_end_is line end (omega (arith, long)) no_tab (eq-eqb _ tab at_end)

  starts : name_start line ≡ start
  unfolding name_start start end
  starts = ap (behind_last (stands colon line)) ends ∙ behind_last_is (stands colon line) end start (omega arith) last_colon no_colon

  place_found : slice_range line 0 (name_start line) ≡ place
  unfolding start
  place_found = ap (slice_range line 0) starts ∙ ap (λ (x : List ℕ). slice_range x 0 start) apart ∙ middle [] place _ 0 start refl (omega arith)

  name_found : slice_range line (name_start line) (name_end line) ≡ name
  unfolding start end
  name_found = ap (λ (i : ℕ). slice_range line i (name_end line)) starts ∙ ap (slice_range line start) ends ∙ ap (λ (x : List ℕ). slice_range x start end) apart ∙ middle place name _ start end refl refl

  count_found : count_part line ≡ count
  unfolding end
  count_found =
      ap (λ (i : ℕ). slice_range line (i + 1) (length line - 7)) ends
      ∙ ap (λ (x : List ℕ). slice_range x (end + 1) (length line - 7)) behind
      ∙ middle (place ++ name ++ (tab ∷ [])) count qualifier (end + 1) (length line - 7) (simp length-append (omega arith)) (omega (arith, long))

  qualified : drop (count_end line) line ≡ qualifier
  unfolding line
  qualified =
      ap (drop (count_end line)) (sym (append_assoc (place ++ name) (tab ∷ count) qualifier))
      ∙ drop_at (place ++ name ++ (tab ∷ count)) qualifier (count_end line) (simp length-append (omega arith))

  of_form_written : of_form line ≡ true
  of_form_written =
      of_form_from line record {
        place = ap is_place place_found ∙ p;
        name = ap is_name name_found ∙ n;
        count = ap is_count count_found ∙ c;
        qualified = (bytes_eq-Decides _ _).1 qualified;
      }

  pub found_again : (of_form (line_of place name count) ≡ true) × (name_in (line_of place name count) ≡ name) × (count_in (line_of place name count) ≡ value count)
  unfolding line count_in
  found_again = (of_form_written, named line of_form_written ∙ name_found, ap value count_found)

-- The other way: what a line of its form is made of.
module _ (line : List ℕ) (form : of_form line ≡ true) where
  start_le : name_start line ≤ name_end line
  unfolding name_start
  start_le = behind_last_le (stands colon line) (name_end line)

  -- what stands behind the name
  ending : drop (name_end line) line ≡ tab ∷ count_part line ++ qualifier
  ending =
      let next = name_end line + 1 in
      let long = count_end line - next in
      drop_more line (name_end line) 0 (omega (arith, room line form))
      ∙ ap (λ (b : ℕ). b ∷ drop next line) (eqb-true _ tab (name_end_tab line (omega (arith, room line form))))
      ∙ ap (λ (x : List ℕ). tab ∷ x) (sym (take-append-drop long (drop next line)))
      ∙ ap (λ (x : List ℕ). tab ∷ count_part line ++ x) (drop-drop long next line ∙ ap (λ (m : ℕ). drop m line) (omega (arith, room line form)) ∙ (bytes_eq-Decides _ qualifier).0 (formed line form).qualified)

  pub made_of : line ≡ line_of (slice_range line 0 (name_start line)) (name_in line) (count_part line)
  made_of =
      let start = name_start line in
      let name = slice_range line start (name_end line) in
      let rest = tab ∷ count_part line ++ qualifier in
      split_between line start (name_end line) start_le
      ∙ ap (λ (x : List ℕ). take start line ++ (name ++ x)) ending
      ∙ sym (append_assoc (take start line) name rest)
      ∙ ap (λ (x : List ℕ). x ++ name ++ rest) (sym (between_from_start line start))
      ∙ ap (λ (x : List ℕ). slice_range line 0 start ++ x ++ rest) (sym (named line form))
