-- For the crates above: what a line of its form is, and the pieces of a file one after another.
use Rattle.std.proofs.Common.{◌≡◌, ℕ, ◌+◌, ◌<◌, ◌≤◌, true, false, eqb, List, [], ◌∷◌, length, get_or, drop, slice_range, ap, arith}
use Rattle.std.specs.List.{concat}
use Rattle.std.proofs.lemmas.List.{length-drop, drop_more}
use Rattle.usage_line.specs.Bytes.{line_feed, ends_in, is_place, is_name, is_count, value}
use Rattle.usage_line.specs.Line.{name_start, count_part, of_form, name_in, count_in}
use Rattle.usage_line.specs.Lines.{pieces, lines, piece_at}
use Rattle.usage_line.proofs.Forms.{formed, name_is_name}
use Rattle.usage_line.proofs.Written.{found_again, made_of}
use Rattle.usage_line.proofs.Pieces.{joined, fed, unfed}
pub use Rattle.usage_line.proofs.Written.{line_of}

-- ---- a line of the report

-- A line that is so written is of its form, and that is the name and the count that it has.
pub form_written : (place name count : List ℕ) → is_place place ≡ true → is_name name ≡ true → is_count count ≡ true → (of_form (line_of place name count) ≡ true) × (name_in (line_of place name count) ≡ name) × (count_in (line_of place name count) ≡ value count)
form_written = found_again

-- And each line of its form is so written.
pub record Written (line place name count : List ℕ) : Type 0 where
  pub place_is : is_place place ≡ true
  pub name_is : is_name name ≡ true
  pub count_is : is_count count ≡ true
  pub line_is : line ≡ line_of place name count

pub written_form : (line : List ℕ) → of_form line ≡ true → Written line (slice_range line 0 (name_start line)) (name_in line) (count_part line)
written_form line form = record { place_is = (formed line form).place; name_is = name_is_name line form; count_is = (formed line form).count; line_is = made_of line form }

pub name_is : (line : List ℕ) → of_form line ≡ true → is_name (name_in line) ≡ true
name_is = name_is_name

-- ---- a file

-- its pieces one after another are the file
pub pieces_joined : (file : List ℕ) → concat (pieces file) ≡ file
pieces_joined = joined

-- each but the last ends in a line feed
pub pieces_fed : (file : List ℕ) (k : ℕ) → k + 1 < lines file → ends_in line_feed (piece_at file k) ≡ true
pieces_fed file k l = fed file k (omega arith)

-- and in none does one stand before its end
pub pieces_unfed : (file : List ℕ) (k i : ℕ) → i + 1 < length (piece_at file k) → eqb (get_or (piece_at file k) i 0) line_feed ≡ false
pieces_unfed file k i l = unfed file k i (omega arith)

-- Behind the first j pieces of a file stands this one.
pub pieces_drop : (file : List ℕ) (j : ℕ) (piece : List ℕ) (rest : List (List ℕ)) → drop j (pieces file) ≡ piece ∷ rest → (j < lines file) × (piece_at file j ≡ piece) × (drop (j + 1) (pieces file) ≡ rest)
pieces_drop file j piece rest e =
    let within : j < lines file = omega (arith, length-drop j (pieces file), ap length e) in
    let next = drop_more (pieces file) j [] within in
    (within, cc, cc)

-- and behind all of them nothing
pub pieces_end : (file : List ℕ) (j : ℕ) → drop j (pieces file) ≡ [] → lines file ≤ j
pieces_end file j e = omega (arith, length-drop j (pieces file), ap length e)
