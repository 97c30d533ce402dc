-- What a line of its form is made of.
use Rattle.std.proofs.Common.{◌≡◌, ℕ, ◌+◌, ◌<◌, ◌≤◌, true, false, cond, eqb, List, [], length, drop, slice_range, bytes_eq, ap, ◌∙◌, ⊎_elim, arith}
use Rattle.std.proofs.lemmas.Bool.{and_parts, and_from, leb-true, eqb-true, eqb-false, cases_Bool, cases_lt, both_ways}
use Rattle.usage_line.specs.Bytes.{is_place, is_name, is_count}
use Rattle.usage_line.specs.Line.{name_start, name_end, count_end, count_part, qualifier, of_form, name_in}
use Rattle.usage_line.proofs.Parts.{no_count}

pub record Formed (line : List ℕ) : Type 0 where
  pub place : is_place (slice_range line 0 (name_start line)) ≡ true
  pub name : is_name (slice_range line (name_start line) (name_end line)) ≡ true
  pub count : is_count (count_part line) ≡ true
  pub qualified : bytes_eq (drop (count_end line) line) qualifier ≡ true

pub formed : (line : List ℕ) → of_form line ≡ true → Formed line
unfolding of_form
formed line e =
    let three = and_parts _ _ e in
    let two = and_parts _ _ three.0 in
    let one = and_parts _ _ two.0 in
    record { place = one.0; name = one.1; count = two.1; qualified = three.1 }

pub of_form_from : (line : List ℕ) → Formed line → of_form line ≡ true
unfolding of_form
of_form_from line f = and_from _ _ (and_from _ _ (and_from _ _ f.place f.name) f.count) f.qualified

-- there is room for a tab and a digit before the qualifier
pub room : (line : List ℕ) → of_form line ≡ true → name_end line + 8 ≤ length line
room line e =
    ⊎_elim
    (λ (short : length line < name_end line + 8). absurd (both_ways _ (no_count line short) (formed line e).count))
    (λ (long : name_end line + 8 ≤ length line). long)
    (cases_lt (length line) (name_end line + 8))

pub named : (line : List ℕ) → of_form line ≡ true → name_in line ≡ slice_range line (name_start line) (name_end line)
unfolding name_in
named line e = ap (λ b. cond b (slice_range line (name_start line) (name_end line)) []) e

pub unnamed : (line : List ℕ) → of_form line ≡ false → name_in line ≡ []
unfolding name_in
unnamed line e = ap (λ b. cond b (slice_range line (name_start line) (name_end line)) []) e

pub name_is_name : (line : List ℕ) → of_form line ≡ true → is_name (name_in line) ≡ true
name_is_name line e = ap is_name (named line e) ∙ (formed line e).name

some : (name : List ℕ) → is_name name ≡ true → 1 ≤ length name
unfolding is_name
some name e = leb-true 1 (length name) (and_parts _ _ (and_parts _ _ e).0).0

pub name_has_bytes : (line : List ℕ) → of_form line ≡ true → 1 ≤ length (name_in line)
name_has_bytes line e = some (name_in line) (name_is_name line e)

-- a line has a name just if it is of its form
module _ (line found : List ℕ) (is : found ≡ name_in line) where
  pub form_from_some : eqb (length found) 0 ≡ false → of_form line ≡ true
  form_from_some some =
      ⊎_elim
      (λ (e : of_form line ≡ true). e)
      (λ (e : of_form line ≡ false). absurd (eqb-false (length found) 0 some (ap length (is ∙ unnamed line e))))
      (cases_Bool (of_form line))

  pub form_from_none : eqb (length found) 0 ≡ true → of_form line ≡ false
  form_from_none none =
      ⊎_elim
      (λ (e : of_form line ≡ true). absurd (omega (arith, name_has_bytes line e, ap length is, eqb-true (length found) 0 none)))
      (λ (e : of_form line ≡ false). e)
      (cases_Bool (of_form line))
