-- Document 01, "Cases to hold as one": the cases A to J. "Functions not described have one plain node." Sizes are those of frames rounded up to
-- multiples of 16, as document 02, Ask 6, has them.
use Rattle.std.specs.Prelude.{ℕ, ◌/◌, ◌%◌, List, [], ◌∷◌, ◌++◌}
use Rattle.size.specs.Size.{unbounded}
use Rattle.rules.specs.Choice.{unmerged, guarded, unguarded}
use Rattle.rules.specs.Rules.{total, post, pre, through}
use Rattle.text.specs.Listing.{ascii}
use Rattle.cases.specs.Claims.{Case, AllHold, listed, best, sized, unsafe, not_synchronising, refused}

-- A record's eight bytes: "Byte 0 is the kind and byte 1 the sort. Then come three 16-bit little-endian numbers a, b, c."
abbrev pub record_of : (kind sort a b c : ℕ) → List ℕ
record_of kind sort a b c = kind ∷ sort ∷ a % 256 ∷ a / 256 ∷ b % 256 ∷ b / 256 ∷ c % 256 ∷ c / 256 ∷ []

-- a function by its first node, exit node and frame
abbrev pub entry : (first exit frame : ℕ) → List ℕ
entry first exit frame = record_of 1 1 first exit frame

abbrev pub function : (first exit frame : ℕ) → List ℕ
function first exit frame = record_of 1 0 first exit frame

-- a node by its owner, and the target of a call or spawn
abbrev pub plain : (owner : ℕ) → List ℕ
plain owner = record_of 2 0 owner 0 0

abbrev pub call : (owner target : ℕ) → List ℕ
call owner target = record_of 2 1 owner target 0

abbrev pub spawn : (owner target : ℕ) → List ℕ
spawn owner target = record_of 2 2 owner target 0

abbrev pub sync : (owner : ℕ) → List ℕ
sync owner = record_of 2 3 owner 0 0

abbrev pub edge : (from to : ℕ) → List ℕ
edge from to = record_of 3 0 from to 0

-- "A: function 0 (entry, frame 40): plain 0, spawn 1 of function 1, sync 2, spawn 3 of function 2, plain 4, edges in a line. Frames 24 and
-- 100." Document 02: "In A the listing's first three lines become 160 112 80 0, 32 0 32 0 and 112 0 112 0."
abbrev pub table_a : List ℕ
table_a =
    entry 0 4 40 ++ function 5 5 24 ++ function 6 6 100
    ++ plain 0 ++ spawn 0 1 ++ sync 0 ++ spawn 0 2 ++ plain 0
    ++ plain 1
    ++ plain 2
    ++ edge 0 1 ++ edge 1 2 ++ edge 2 3 ++ edge 3 4

abbrev pub listing_a : List ℕ
listing_a =
    ascii "F 0 160 112 80 0\n"
    ++ ascii "F 1 32 0 32 0\n"
    ++ ascii "F 2 112 0 112 0\n"
    ++ ascii "S 1 unguarded 32 32 32 32\n"
    ++ ascii "S 3 unguarded 112 112 112 112\n"

-- "B: function 0 (entry, 8) calls 1: nodes 0, call 1, 2. Function 1 (32): plain 3, spawns 4 and 5 of itself, sync 6, plain 7, in a line.
-- Best: 4 unguarded, 5 guarded. Sizes of 1: unbounded, 0, unbounded, 0."
abbrev pub table_b : List ℕ
table_b =
    entry 0 2 8 ++ function 3 7 32
    ++ plain 0 ++ call 0 1 ++ plain 0
    ++ plain 1 ++ spawn 1 1 ++ spawn 1 1 ++ sync 1 ++ plain 1
    ++ edge 0 1 ++ edge 1 2
    ++ edge 3 4 ++ edge 4 5 ++ edge 5 6 ++ edge 6 7

abbrev pub choice_b : List ℕ
choice_b = 0 ∷ 0 ∷ 0 ∷ 0 ∷ unguarded ∷ guarded ∷ 0 ∷ 0 ∷ []

-- "G: B with 4 and 5 unguarded is unsafe."
abbrev pub choice_g : List ℕ
choice_g = 0 ∷ 0 ∷ 0 ∷ 0 ∷ unguarded ∷ unguarded ∷ 0 ∷ 0 ∷ []

-- "C: entry, frame 16: plain 0, spawn 1 of a leaf (frame 10), plain 2; edges 0-1, 1-1, 1-2. Best: guarded; [..] Pre 16, Through
-- 0." Document 02: "C then has Total 32 and Post 16". "D: C with leaf frame 0. Best: unguarded; Total 16."
abbrev pub table_c : (leaf : ℕ) → List ℕ
table_c leaf =
    entry 0 2 16 ++ function 3 3 leaf
    ++ plain 0 ++ spawn 0 1 ++ plain 0
    ++ plain 1
    ++ edge 0 1 ++ edge 1 1 ++ edge 1 2

abbrev pub choice_c : (verdict : ℕ) → List ℕ
choice_c verdict = 0 ∷ verdict ∷ 0 ∷ 0 ∷ []

-- "E: 0 (entry) spawns 1, 1 spawns 2, each as plain, spawn, plain in a line; frames 4. Best: the spawn in 1 unmerged, the one in 0
-- unguarded". Document 02: "E's Total of 0 is 32".
abbrev pub table_e : List ℕ
table_e =
    entry 0 2 4 ++ function 3 5 4 ++ function 6 6 4
    ++ plain 0 ++ spawn 0 1 ++ plain 0
    ++ plain 1 ++ spawn 1 2 ++ plain 1
    ++ plain 2
    ++ edge 0 1 ++ edge 1 2
    ++ edge 3 4 ++ edge 4 5

abbrev pub choice_e : List ℕ
choice_e = 0 ∷ unguarded ∷ 0 ∷ 0 ∷ unmerged ∷ 0 ∷ 0 ∷ []

-- "F: an entry of plain, call of itself, plain in a line: that call isn't synchronising."
abbrev pub table_f : (frame : ℕ) → List ℕ
table_f frame = entry 0 2 frame ++ plain 0 ++ call 0 0 ++ plain 0 ++ edge 0 1 ++ edge 1 2

-- "H: frame 0 calling (plain, call, plain in a line) frame 65,535 [..] Frame 1 calling it". Document 02: "both totals of H are unbounded."
abbrev pub table_h : (caller : ℕ) → List ℕ
table_h caller =
    entry 0 2 caller ++ function 3 3 65535
    ++ plain 0 ++ call 0 1 ++ plain 0
    ++ plain 1
    ++ edge 0 1 ++ edge 1 2

abbrev pub choice_h : List ℕ
choice_h = 0 ∷ 0 ∷ 0 ∷ 0 ∷ []

-- The list. Two things are left open there, and so here: the frame in F, and what the 7 bytes in J are.
abbrev pub cases : (frame a b c d e f g : ℕ) → List Case
cases frame a b c d e f g =
    record { table = table_a; claims = listed listing_a ∷ [] }
    ∷ record {
      table = table_b;
      claims =
          best choice_b
          ∷ sized choice_b 1 total unbounded ∷ sized choice_b 1 post 0 ∷ sized choice_b 1 pre unbounded ∷ sized choice_b 1 through 0
          ∷ [];
    }
    ∷ record {
      table = table_c 10;
      claims =
          best (choice_c guarded)
          ∷ sized (choice_c guarded) 0 total 32 ∷ sized (choice_c guarded) 0 post 16 ∷ sized (choice_c guarded) 0 pre 16 ∷ sized (choice_c guarded) 0 through 0
          ∷ [];
    }
    ∷ record { table = table_c 0; claims = best (choice_c unguarded) ∷ sized (choice_c unguarded) 0 total 16 ∷ [] }
    ∷ record { table = table_e; claims = best choice_e ∷ sized choice_e 0 total 32 ∷ [] }
    ∷ record { table = table_f frame; claims = not_synchronising 1 ∷ [] }
    ∷ record { table = table_b; claims = unsafe choice_g ∷ [] }
    ∷ record { table = table_h 0; claims = sized choice_h 0 total unbounded ∷ [] }
    ∷ record { table = table_h 1; claims = sized choice_h 0 total unbounded ∷ [] }
    -- "I: no bytes: refusal 5 at 0."
    ∷ record { table = []; claims = refused 5 0 ∷ [] }
    -- "J: 7 bytes: refusal 1 at 0."
    ∷ record { table = a ∷ b ∷ c ∷ d ∷ e ∷ f ∷ g ∷ []; claims = refused 1 0 ∷ [] }
    ∷ []

-- All of them hold, whatever is left open.
abbrev pub CasesHold : Type 0
CasesHold = (frame a b c d e f g : ℕ) → AllHold (cases frame a b c d e f g)
