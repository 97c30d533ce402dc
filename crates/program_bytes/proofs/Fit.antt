-- The bytes of a program are bytes: each field of a record fits its place.
use Prim.Native.Nat.{ℕ, zero, suc, ◌/◌, ◌%◌, ◌<◌}
use mathlib.Core.Bool.{Bool, true, false, cond}
use mathlib.Core.List.{List, [], ◌∷◌}
use native.Mathlib.Omega.{arith}
use Rattle.std.specs.List.{All}
use Rattle.std.proofs.lemmas.List.Elements.{All-nil, All-cons, All-head, All-tail, All-append}
use Rattle.table.specs.Program.{Program}
use Rattle.table.specs.WellFormed.{WellFormed}
use Rattle.program_bytes.specs.Bytes.{Fields, bytes, function_fields, node_fields, edge_fields, front_records, edge_records, bytes_of, Bytes, Describable}
use Rattle.program_bytes.proofs.Each.{each_all}

record FieldsFit (x : Fields) : Type 0 where
  kind_fits : x.kind < 256
  sort_fits : x.sort < 256
  a_fits : x.a < 65536
  b_fits : x.b < 65536
  c_fits : x.c < 65536

record AllBytes (xs : List ℕ) : Type 0 where
  all_bytes : Bytes xs

one_more_byte : {x : ℕ} {xs : List ℕ} → x < 256 → AllBytes xs → AllBytes (x ∷ xs)
one_more_byte {x} {xs} h bs = record { all_bytes = go }
  where
    go : Bytes (x ∷ xs)
    go zero = h
    go (suc i) = bs.all_bytes i

two_more_bytes : (x : ℕ) {xs : List ℕ} → x < 65536 → AllBytes xs → AllBytes (x % 256 ∷ x / 256 ∷ xs)
two_more_bytes x h bs = let low : x % 256 < 256 = omega arith in let high : x / 256 < 256 = omega arith in one_more_byte low (one_more_byte high bs)

bytes_below : (xs : List Fields) → All FieldsFit xs → AllBytes (bytes xs)
bytes_below [] h = record { all_bytes = λ i. omega arith }
bytes_below (x ∷ xs) h =
    let f = All-head FieldsFit x xs h in
    let later = bytes_below xs (All-tail FieldsFit x xs h) in
    one_more_byte f.kind_fits (one_more_byte f.sort_fits (two_more_bytes x.a f.a_fits (two_more_bytes x.b f.b_fits (two_more_bytes x.c f.c_fits later))))

one_fits : (x : Fields) → FieldsFit x → All FieldsFit (x ∷ [])
one_fits x f = All-cons FieldsFit x [] f (All-nil FieldsFit)

module _ (g : Program) (w : WellFormed g) (d : Describable g) where
  function_fits : (f : ℕ) → f < g.functions → FieldsFit (function_fields g f)
  function_fits f h = record {
    kind_fits = omega arith;
    sort_fits = bit_fits (g.entry f);
    a_fits = omega (arith, (w.first_own f h).exists, w.few_nodes);
    b_fits = omega (arith, (w.exit_own f h).exists, w.few_nodes);
    c_fits = omega (arith, d.frame_fits f h);
  }
    where
      bit_fits : (b : Bool) → cond b 1 0 < 256
      bit_fits true = omega arith
      bit_fits false = omega arith

  node_fits : (n : ℕ) → n < g.nodes → FieldsFit (node_fields g n)
  node_fits n h = record {
    kind_fits = omega arith;
    sort_fits = omega (arith, w.sort_listed n h);
    a_fits = omega (arith, w.owner_exists n h, w.few_functions);
    b_fits = omega (arith, w.target_exists n h, w.few_functions);
    c_fits = omega arith;
  }

  edge_fits : (a b : ℕ) → a < g.nodes → b < g.nodes → FieldsFit (edge_fields a b)
  edge_fits a b h l = record {
    kind_fits = omega arith;
    sort_fits = omega arith;
    a_fits = omega (arith, w.few_nodes);
    b_fits = omega (arith, w.few_nodes);
    c_fits = omega arith;
  }

  edge_if_fits : (a b : ℕ) → a < g.nodes → b < g.nodes → (t : Bool) → All FieldsFit (cond t (edge_fields a b ∷ []) [])
  edge_if_fits a b h l true = one_fits _ (edge_fits a b h l)
  edge_if_fits a b h l false = All-nil FieldsFit

  front_fits : All FieldsFit (front_records g)
  unfolding front_records
  front_fits =
      All-append FieldsFit _ _
      (each_all FieldsFit _ g.functions (λ f h. one_fits _ (function_fits f h)))
      (each_all FieldsFit _ g.nodes (λ n h. one_fits _ (node_fits n h)))

  edges_fit : All FieldsFit (edge_records g)
  unfolding edge_records
  edges_fit = each_all FieldsFit _ g.nodes (λ a h. each_all FieldsFit _ g.nodes (λ b l. edge_if_fits a b h l (g.edge a b)))

  pub bytes_fit : Bytes (bytes_of g)
  unfolding bytes_of
  bytes_fit = (bytes_below _ (All-append FieldsFit _ _ front_fits edges_fit)).all_bytes
