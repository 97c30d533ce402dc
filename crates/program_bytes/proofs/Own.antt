-- A table's own records: its bytes are those of its fields.
use Prim.Native.Nat.{ℕ, zero, suc, ◌+◌, ◌*◌, ◌/◌, ◌%◌, ◌<◌, ◌≤◌}
use mathlib.Core.Path.{◌≡◌, refl, sym, ap, ap₂, ◌∙◌}
use mathlib.Core.Bool.{cond}
use mathlib.Core.List.{List, [], ◌∷◌, ◌++◌}
use native.Mathlib.Omega.{arith}
use lib.Dec.{eqb}
use lib.ListN.{length, get_or, take}
use lib.Seq.{ext_get_or, get_or-take}
use Rattle.std.proofs.lemmas.List.{length-take-le}
use Rattle.table.specs.Record.{byte_of, kind_of, sort_of, field_a, field_b, field_c, functions, nodes}
use Rattle.table.specs.Checks.{FreeOrder}
use Rattle.table.specs.Program.{program_of}
use Rattle.table.proofs.Laws.{functions_read, nodes_read, entry_read, first_read, exit_read, frame_read, sort_read, owner_read, target_read, function_record_is, node_record_is, free_records_are}
use Rattle.program_bytes.specs.Bytes.{Fields, Bytes, record_bytes, bytes, each, function_fields, node_fields, front_records}
use Rattle.program_bytes.proofs.Each.{ones_long, ones_at, each_same, each_more}
use Rattle.program_bytes.proofs.Reading.{bytes_long, byte_at}

-- what stands in record r
abbrev pub fields : List ℕ → ℕ → Fields
fields t r = record { kind = kind_of t r; sort = sort_of t r; a = field_a t r; b = field_b t r; c = field_c t r }

abbrev pub own_records : List ℕ → ℕ → List Fields
own_records t n = each n (λ r. fields t r ∷ [])

module _ (t : List ℕ) (b : Bytes t) where
  own_byte : (r k : ℕ) → k < 8 → get_or (record_bytes (fields t r)) k 0 ≡ byte_of t r k
  unfolding kind_of sort_of field_a field_b field_c
  own_byte r zero l = refl
  own_byte r (suc zero) l = refl
  own_byte r (suc (suc zero)) l = omega (arith, b (r * 8 + 2), b (r * 8 + 3))
  own_byte r (suc (suc (suc zero))) l = omega (arith, b (r * 8 + 2), b (r * 8 + 3))
  own_byte r (suc (suc (suc (suc zero)))) l = omega (arith, b (r * 8 + 4), b (r * 8 + 5))
  own_byte r (suc (suc (suc (suc (suc zero))))) l = omega (arith, b (r * 8 + 4), b (r * 8 + 5))
  own_byte r (suc (suc (suc (suc (suc (suc zero)))))) l = omega (arith, b (r * 8 + 6), b (r * 8 + 7))
  own_byte r (suc (suc (suc (suc (suc (suc (suc zero))))))) l = omega (arith, b (r * 8 + 6), b (r * 8 + 7))
  own_byte r (suc (suc (suc (suc (suc (suc (suc (suc k)))))))) l = absurd (omega arith)

  -- the first n records
  pub own_bytes : (n : ℕ) → n * 8 ≤ length t → bytes (own_records t n) ≡ take (n * 8) t
  own_bytes n h = ext_get_or 0 _ _ long each_byte
    where
      records_long : length (own_records t n) ≡ n
      records_long = ones_long (fields t) n

      long : length (bytes (own_records t n)) ≡ length (take (n * 8) t)
      long = omega (arith, bytes_long (own_records t n), records_long, length-take-le (n * 8) t h)

      each_byte : (i : ℕ) → i < length (bytes (own_records t n)) → get_or (bytes (own_records t n)) i 0 ≡ get_or (take (n * 8) t) i 0
      each_byte i l =
          let r = i / 8 in
          let k = i % 8 in
          let at : i ≡ r * 8 + k = omega arith in
          let within : r < n = omega (arith, bytes_long (own_records t n), records_long) in
          ap (λ (j : ℕ). get_or (bytes (own_records t n)) j 0) at
          ∙ byte_at (own_records t n) r k (fields t r) (omega (arith, records_long)) (omega arith)
          ∙ ap (λ (x : Fields). get_or (record_bytes x) k 0) (ones_at (fields t) n r (fields t r) within)
          ∙ own_byte r k (omega arith)
          ∙ ap (λ (j : ℕ). get_or t j 0) (sym at)
          ∙ sym (get_or-take (n * 8) t i 0 (omega arith))

-- ---- of a table whose edges may stand in any order: functions, then nodes

module _ (t : List ℕ) (free : FreeOrder t) where
  entry_same : (f : ℕ) → f < functions t → sort_of t f ≡ cond ((program_of t).entry f) 1 0
  entry_same f h = rw (entry_read t f h) (go (sort_of t f) (function_record_is t free f h).1)
    where
      go : (s : ℕ) → s ≤ 1 → s ≡ cond (eqb s 1) 1 0
      go zero l = refl
      go (suc zero) l = refl
      go (suc (suc s)) l = absurd (omega arith)

  function_same : (f : ℕ) → f < functions t → fields t f ≡ function_fields (program_of t) f
  function_same f h = λ i. record {
    kind = (function_record_is t free f h).0 i;
    sort = entry_same f h i;
    a = sym (first_read t f h) i;
    b = sym (exit_read t f h) i;
    c = sym (frame_read t f h) i;
  }

  node_same : (n : ℕ) → n < nodes t → fields t (functions t + n) ≡ node_fields (program_of t) n
  node_same n h = λ i. record {
    kind = (node_record_is t free n h).0 i;
    sort = sym (sort_read t n h) i;
    a = sym (owner_read t n h) i;
    b = sym (target_read t n h) i;
    c = (node_record_is t free n h).1 i;
  }

  pub front_same : own_records t (functions t + nodes t) ≡ front_records (program_of t)
  unfolding front_records
  front_same =
      each_more (λ r. fields t r ∷ []) (functions t) (nodes t)
      ∙ ap₂ (λ (xs ys : List Fields). xs ++ ys)
      (each_same _ (λ f. function_fields (program_of t) f ∷ []) (functions t) (λ f h. ap (λ (x : Fields). x ∷ []) (function_same f h)))
      (each_same _ (λ n. node_fields (program_of t) n ∷ []) (nodes t) (λ n h. ap (λ (x : Fields). x ∷ []) (node_same n h)))
      ∙ λ i. each (sym (functions_read t) i) (λ f. function_fields (program_of t) f ∷ []) ++ each (sym (nodes_read t) i) (λ n. node_fields (program_of t) n ∷ [])

  -- its front is that of the bytes of its program
  pub own_front : Bytes t → bytes (front_records (program_of t)) ≡ take ((functions t + nodes t) * 8) t
  own_front b = ap bytes (sym front_same) ∙ own_bytes t b (functions t + nodes t) (omega (arith, free_records_are t free))
