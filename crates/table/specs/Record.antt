-- Document 01, "The task table": records and their fields. A table is the list of its bytes, of any length.
use Rattle.std.specs.Prelude.{ℕ, ◌+◌, ◌*◌, ◌/◌, List, Bool, ◌&&◌, ◌||◌, eqb, length, get_or}
use Rattle.table.specs.Below.{count}

-- "A table is a run of 8-byte records without a header." The count of whole records:
abbrev pub records : List ℕ → ℕ
records t = length t / 8

-- byte k of record r; past the table's end there are only zeros
abbrev pub byte_of : List ℕ → ℕ → ℕ → ℕ
byte_of t r k = get_or t (r * 8 + k) 0

-- the 16-bit little-endian number at byte k of record r
abbrev pub number_of : List ℕ → ℕ → ℕ → ℕ
number_of t r k = byte_of t r k + 256 * byte_of t r (k + 1)

-- "Byte 0 is the kind and byte 1 the sort. Then come three 16-bit little-endian numbers a, b, c."
unfoldable pub kind_of : List ℕ → ℕ → ℕ
kind_of t r = byte_of t r 0

unfoldable pub sort_of : List ℕ → ℕ → ℕ
sort_of t r = byte_of t r 1

unfoldable pub field_a : List ℕ → ℕ → ℕ
field_a t r = number_of t r 2

unfoldable pub field_b : List ℕ → ℕ → ℕ
field_b t r = number_of t r 4

unfoldable pub field_c : List ℕ → ℕ → ℕ
field_c t r = number_of t r 6

-- "Function, kind 1." "Node, kind 2." "Edge, kind 3."
abbrev pub is_function : List ℕ → ℕ → Bool
is_function t r = eqb (kind_of t r) 1

abbrev pub is_node : List ℕ → ℕ → Bool
is_node t r = eqb (kind_of t r) 2

abbrev pub is_edge : List ℕ → ℕ → Bool
is_edge t r = eqb (kind_of t r) 3

-- how many there are of each kind
unfoldable pub functions : List ℕ → ℕ
functions t = count (is_function t) (records t)

unfoldable pub nodes : List ℕ → ℕ
nodes t = count (is_node t) (records t)

-- Edge records, repeated ones too: "at most [..] 1,024 edges" is of these. Behind that check 15 lets no edge through twice.
unfoldable pub edges : List ℕ → ℕ
edges t = count (is_edge t) (records t)

-- "Functions stand first, then nodes, then edges. Functions and nodes are numbered from 0 in record order."
-- So function f is record f; these are the records of node n and of the e-th edge.
abbrev pub node_record : List ℕ → ℕ → ℕ
node_record t n = functions t + n

abbrev pub edge_record : List ℕ → ℕ → ℕ
edge_record t e = functions t + nodes t + e

-- "Node, kind 2. [..] a is the owning function. b is the target function of a call or spawn, else 0."
abbrev pub node_sort : List ℕ → ℕ → ℕ
node_sort t n = sort_of t (node_record t n)

abbrev pub node_owner : List ℕ → ℕ → ℕ
node_owner t n = field_a t (node_record t n)

abbrev pub node_target : List ℕ → ℕ → ℕ
node_target t n = field_b t (node_record t n)

-- "Edge, kind 3. [..] Control may pass from node a to node b."
abbrev pub edge_from : List ℕ → ℕ → ℕ
edge_from t e = field_a t (edge_record t e)

abbrev pub edge_to : List ℕ → ℕ → ℕ
edge_to t e = field_b t (edge_record t e)

-- "Sort 1 is an entry, sort 0 is not."
abbrev pub is_entry : List ℕ → ℕ → Bool
is_entry t r = is_function t r && eqb (sort_of t r) 1

-- "Sort 0 plain, 1 call, 2 spawn, 3 sync." A call or spawn has a target.
abbrev pub plain : ℕ
plain = 0

abbrev pub call : ℕ
call = 1

abbrev pub spawn : ℕ
spawn = 2

abbrev pub sync : ℕ
sync = 3

abbrev pub has_target : ℕ → Bool
has_target sort = eqb sort call || eqb sort spawn
