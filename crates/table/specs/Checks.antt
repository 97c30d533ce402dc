-- Document 01, "Refused tables": the checks on the table itself. Each condition is a definition of its own, and `checks` lists the rows.
-- A condition on a record makes sense for every record of every table, whatever the rows before it say.
use Rattle.std.specs.Prelude.{ℕ, zero, suc, ◌%◌, ◌≡◌, List, [], ◌∷◌, ◌++◌, Bool, false, not, ◌&&◌, ◌||◌, eqb, leb, ltb, length, Option, None}
use Rattle.table.specs.Below.{any, count}
use Rattle.table.specs.Refusal.{Check, of_whole, of_each, refusal}
use Rattle.table.specs.Record.{records, kind_of, sort_of, field_a, field_b, field_c, is_function, is_node, is_edge, functions, nodes, node_owner, node_sort, is_entry, plain, sync, has_target}

-- 1: "length no multiple of 8"
unfoldable pub broken : List ℕ → Bool
broken t = not (eqb (length t % 8) 0)

-- 2: "kind or sort not listed, or a field that must be 0 isn't"
-- Listed are: function, sort 0 or 1; node, sort 0 to 3, with b 0 unless it is a call or spawn, and c 0; edge, sort 0, with c 0.
unfoldable pub unlisted : List ℕ → ℕ → Bool
unlisted t r =
    not
    ((is_function t r && leb (sort_of t r) 1)
    || (is_node t r && leb (sort_of t r) sync && (has_target (sort_of t r) || eqb (field_b t r) 0) && eqb (field_c t r) 0)
    || (is_edge t r && eqb (sort_of t r) 0 && eqb (field_c t r) 0))

-- 3: "kind lower than that of the record before"
unfoldable pub out_of_order : List ℕ → ℕ → Bool
out_of_order t zero = false
out_of_order t (suc r) = ltb (kind_of t (suc r)) (kind_of t r)

-- 4: "one more of its kind than allowed": as many as allowed stand before it. "At most 64 functions, 512 nodes, 1,024 edges."
unfoldable pub too_many : List ℕ → ℕ → Bool
too_many t r =
    (is_function t r && leb 64 (count (is_function t) r))
    || (is_node t r && leb 512 (count (is_node t) r))
    || (is_edge t r && leb 1024 (count (is_edge t) r))

-- 5: "no function, or no entry"
unfoldable pub no_entry : List ℕ → Bool
no_entry t = eqb (functions t) 0 || not (any (is_entry t) (records t))

-- 6: "a function or node number that doesn't exist"
-- A function names its first and exit node, a node its owner and the target of a call or spawn, an edge its two ends.
unfoldable pub absent : List ℕ → ℕ → Bool
absent t r =
    (is_function t r && (leb (nodes t) (field_a t r) || leb (nodes t) (field_b t r)))
    || (is_node t r && (leb (functions t) (field_a t r) || (has_target (sort_of t r) && leb (functions t) (field_b t r))))
    || (is_edge t r && (leb (nodes t) (field_a t r) || leb (nodes t) (field_b t r)))

-- 7: "first or exit node owned by another function; edge between two functions"
unfoldable pub foreign : List ℕ → ℕ → Bool
foreign t r =
    (is_function t r && not (eqb (node_owner t (field_a t r)) r && eqb (node_owner t (field_b t r)) r))
    || (is_edge t r && not (eqb (node_owner t (field_a t r)) (node_owner t (field_b t r))))

-- 8: "first or exit node not plain"
unfoldable pub not_plain : List ℕ → ℕ → Bool
not_plain t r = is_function t r && not (eqb (node_sort t (field_a t r)) plain && eqb (node_sort t (field_b t r)) plain)

-- "Edges must now ascend by from-node and then to-node, each once": the edge from a to b is above that from c to d
abbrev pub above : (a b c d : ℕ) → Bool
above a b c d = ltb c a || (eqb c a && ltb d b)

-- 15: "an edge not above the one before it" (document 02)
unfoldable pub not_above : List ℕ → ℕ → Bool
not_above t zero = false
not_above t (suc r) = is_edge t r && is_edge t (suc r) && not (above (field_a t (suc r)) (field_b t (suc r)) (field_a t r) (field_b t r))

-- a row about a record: "the record", the earliest one
abbrev pub of_record : (List ℕ → ℕ → Bool) → List ℕ → Option ℕ
of_record condition = of_each condition records

-- 1 to 8: those that leave the order of edges free
unfoldable pub free_checks : List (Check (List ℕ))
free_checks =
    record { number = 1; place = of_whole broken records }
    ∷ record { number = 2; place = of_record unlisted }
    ∷ record { number = 3; place = of_record out_of_order }
    ∷ record { number = 4; place = of_record too_many }
    ∷ record { number = 5; place = of_whole no_entry (λ t. 0) }
    ∷ record { number = 6; place = of_record absent }
    ∷ record { number = 7; place = of_record foreign }
    ∷ record { number = 8; place = of_record not_plain }
    ∷ []

-- "15, an edge not above the one before it, place the record, after 8 and before 9 to 14"
unfoldable pub order_checks : List (Check (List ℕ))
order_checks = record { number = 15; place = of_record not_above } ∷ []

unfoldable pub checks : List (Check (List ℕ))
checks = free_checks ++ order_checks

-- "a table in the old free order": one that would be accepted if its edges might stand in any order and repeat
abbrev pub FreeOrder : List ℕ → Type 0
FreeOrder t = refusal free_checks t ≡ None

-- "A table is accepted if none of the checks on the table itself [..] applies to it." That is one in free order, to which 15 does not apply either.
abbrev pub Accepted : List ℕ → Type 0
Accepted t = refusal checks t ≡ None
