-- The bytes of a run of records.
use Rattle.std.specs.Prelude.{ℕ, zero, suc, ◌+◌, ◌/◌, ◌%◌, if◌then◌else◌, List, [], ◌∷◌, ◌++◌}
use Rattle.script.specs.declared.records.Field.{Field}
use Rattle.script.specs.declared.records.Records.{Records}

-- A number as two bytes, the low one first.
abbrev pub two_bytes : ℕ → List ℕ → List ℕ
two_bytes x rest = x % 256 ∷ x / 256 % 256 ∷ rest

-- What a field is in record n of a run: it goes up by one from each to the next, or stays.
abbrev pub field_at : Field → ℕ → ℕ
field_at x n = if x.rises then (x.first + n) % 65536 else x.first

-- Record n of a run.
abbrev pub record_at : Records → ℕ → List ℕ
record_at r n = r.kind ∷ r.sort ∷ two_bytes (field_at r.a n) (two_bytes (field_at r.b n) (two_bytes r.c []))

-- The first n of its records, one behind the other.
abbrev pub records_before : Records → ℕ → List ℕ
records_before r zero = []
records_before r (suc n) = records_before r n ++ record_at r n
