-- Reading the bytes of records.
use Prim.Native.Nat.{ℕ, zero, suc, ◌+◌, ◌*◌, ◌<◌}
use mathlib.Core.Path.{◌≡◌, refl, ap, ◌∙◌}
use mathlib.Core.List.{List, [], ◌∷◌, ◌++◌}
use native.Mathlib.Omega.{arith}
use lib.ListN.{length, get_or, get_or-append}
use Rattle.std.proofs.lemmas.List.{get_or-append-add}
use Rattle.table.specs.Record.{records, byte_of, kind_of, sort_of, field_a, field_b, field_c}
use Rattle.program_bytes.specs.Bytes.{Fields, record_bytes, bytes}

pub bytes_long : (xs : List Fields) → length (bytes xs) ≡ 8 * length xs
bytes_long [] = refl
bytes_long (x ∷ xs) = omega (arith, bytes_long xs)

pub bytes_append : (xs ys : List Fields) → bytes (xs ++ ys) ≡ bytes xs ++ bytes ys
bytes_append [] ys = refl
bytes_append (x ∷ xs) ys = ap (λ (zs : List ℕ). record_bytes x ++ zs) (bytes_append xs ys)

pub records_bytes : (xs : List Fields) → records (bytes xs) ≡ length xs
records_bytes xs = omega (arith, bytes_long xs)

-- byte k of record r is that of the record alone
pub byte_at : (xs : List Fields) (r k : ℕ) (d : Fields) → r < length xs → k < 8 → byte_of (bytes xs) r k ≡ get_or (record_bytes (get_or xs r d)) k 0
byte_at [] r k d h l = absurd (omega arith)
byte_at (x ∷ xs) zero k d h l =
    let first : 0 * 8 + k ≡ k = omega arith in
    ap (λ (i : ℕ). get_or (bytes (x ∷ xs)) i 0) first ∙ get_or-append (record_bytes x) (bytes xs) 0 k l
byte_at (x ∷ xs) (suc r) k d h l =
    let later : suc r * 8 + k ≡ 8 + (r * 8 + k) = omega arith in
    ap (λ (i : ℕ). get_or (bytes (x ∷ xs)) i 0) later ∙ get_or-append-add (record_bytes x) (bytes xs) (r * 8 + k) 0 ∙ byte_at xs r k d (omega arith) l

-- and so are its fields
pub record Reads (t : List ℕ) (r : ℕ) (x : Fields) : Type 0 where
  pub kind_is : kind_of t r ≡ x.kind
  pub sort_is : sort_of t r ≡ x.sort
  pub a_is : field_a t r ≡ x.a
  pub b_is : field_b t r ≡ x.b
  pub c_is : field_c t r ≡ x.c

pub reads : (xs : List Fields) (r : ℕ) (d : Fields) → r < length xs → Reads (bytes xs) r (get_or xs r d)
unfolding kind_of sort_of field_a field_b field_c
reads xs r d h =
    let at = λ (k : ℕ) (l : k < 8). byte_at xs r k d h l in
    record {
      kind_is = at 0 (omega arith);
      sort_is = at 1 (omega arith);
      a_is = omega (arith, at 2 (omega arith), at 3 (omega arith));
      b_is = omega (arith, at 4 (omega arith), at 5 (omega arith));
      c_is = omega (arith, at 6 (omega arith), at 7 (omega arith));
    }
