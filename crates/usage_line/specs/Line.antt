-- Document 02, "Frames from the compiler's report": a line of the report, taken without its line feed.
use Rattle.std.specs.Prelude.{ℕ, zero, suc, ◌+◌, ◌-◌, Bool, cond, ◌&&◌, eqb, leb, List, [], ◌∷◌, length, drop, get_or, codes, slice_range, bytes_eq, unwrap_or}
use Rattle.table.specs.Below.{earliest}
use Rattle.usage_line.specs.Bytes.{tab, colon, is_place, is_name, is_count, value}

-- one past the last number below n that passes the test, and 0 where none does
unfoldable pub behind_last : (ℕ → Bool) → ℕ → ℕ
behind_last test zero = 0
behind_last test (suc n) = cond (test n) (suc n) (behind_last test n)

-- this byte stands there
abbrev pub stands : ℕ → List ℕ → ℕ → Bool
stands byte line i = eqb (get_or line i 0) byte

-- "between last colon and first tab" (document 01, "The forms we expect"): the name ends at the first tab, or with the line where there is none, and
-- starts behind the last colon before that
unfoldable pub name_end : List ℕ → ℕ
name_end line = unwrap_or (earliest (stands tab line) (length line)) (length line)

unfoldable pub name_start : List ℕ → ℕ
name_start line = behind_last (stands colon line) (name_end line)

-- "a tab, and a qualifier", "The qualifier must be `static`": what stands behind the count
abbrev pub qualifier : List ℕ
qualifier = tab ∷ codes "static"

abbrev pub count_end : List ℕ → ℕ
count_end line = length line - length qualifier

abbrev pub count_part : List ℕ → List ℕ
count_part line = slice_range line (name_end line + 1) (count_end line)

-- "Each line holds a place that ends in a colon and the function's name, a tab, a byte count in decimal, a tab, and a qualifier": a line of this form. By
-- the law `written_form` it is its place, its name, a tab, its count and the qualifier, and by `form_written` every such line is of this form.
unfoldable pub of_form : List ℕ → Bool
of_form line =
    is_place (slice_range line 0 (name_start line))
    && is_name (slice_range line (name_start line) (name_end line))
    && is_count (count_part line)
    && bytes_eq (drop (count_end line) line) qualifier

-- "The name found in a report line is returned as a part of that line [..]; for a line not of its form that part is empty."
unfoldable pub name_in : List ℕ → List ℕ
name_in line = cond (of_form line) (slice_range line (name_start line) (name_end line)) []

-- its count, which may be above 65,535: that does not cost a line its form
unfoldable pub count_in : List ℕ → ℕ
count_in line = value (count_part line)

-- "a line of either file that isn't of its form, a count above 65,535": what every line of the report has to be
unfoldable pub is_usage : List ℕ → Bool
is_usage line = of_form line && leb (count_in line) 65535
