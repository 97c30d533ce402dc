-- Document 01, "The listing program": the text that is printed for a table. A text is the list of its bytes.
use Rattle.std.specs.Prelude.{ℕ, zero, suc, ◌+◌, ◌<◌, ◌≤◌, ◌/◌, ◌%◌, ◌≡◌, cond, List, [], ◌∷◌, ◌++◌, eqb, ltb, length}
use Prim.Native.Char.{code}
use Prim.Native.String.{String, len, char_at}
use Rattle.table.specs.Record.{spawn}
use Rattle.table.specs.Answer.{outcome}
use Rattle.table.specs.Answer.{refused as is_refused}
use Rattle.table.specs.Checks.{Accepted}
use Rattle.table.specs.Program.{Program, program_of}
use Rattle.size.specs.Size.{unbounded}
use Rattle.rules.specs.Choice.{unmerged, guarded}
use Rattle.rules.specs.Rules.{total, post, pre, through, of_function, of_node, LeastSizes}
use Rattle.choice.specs.Beats.{Returned}

-- The bytes of a text in ASCII: of its first n characters, and of all.
abbrev pub bytes_to : String → ℕ → List ℕ
bytes_to s zero = []
bytes_to s (suc n) = bytes_to s n ++ (code (char_at s n) ∷ [])

abbrev pub ascii : String → List ℕ
ascii s = bytes_to s (len s)

-- A number below 10 to the k in decimal, with no zero in front.
unfoldable pub digits : ℕ → ℕ → List ℕ
digits zero n = []
digits (suc k) n = cond (ltb n 10) ((48 + n) ∷ []) (digits k (n / 10) ++ ((48 + n % 10) ∷ []))

-- Twenty places hold every number of 64 bits.
unfoldable pub decimal : ℕ → List ℕ
decimal n = digits 20 n

-- "Unbounded prints as `unbounded`."
unfoldable pub size_text : ℕ → List ℕ
size_text s = cond (eqb s unbounded) (ascii "unbounded") (decimal s)

-- "One space stands between fields."
unfoldable pub size_field : ℕ → List ℕ
size_field s = ascii " " ++ size_text s

-- "the four sizes", by kind: "Total, Post, Pre, Through"
unfoldable pub four_fields : (ℕ → ℕ) → List ℕ
four_fields of = size_field (of total) ++ size_field (of post) ++ size_field (of pre) ++ size_field (of through)

-- "verdict word (`unmerged`, `guarded` or `unguarded`)"
unfoldable pub verdict_word : ℕ → List ℕ
verdict_word v = cond (eqb v unmerged) (ascii "unmerged") (cond (eqb v guarded) (ascii "guarded") (ascii "unguarded"))

-- "for each function F, its number, Total, Post, Pre, Through". "Every line ends in a line feed".
unfoldable pub function_line : (ℕ → ℕ) → ℕ → List ℕ
function_line of f = ascii "F " ++ decimal f ++ four_fields of ++ ascii "\n"

-- "for each spawn [..] S, number, verdict word [..], the four sizes"
unfoldable pub spawn_line : ℕ → (ℕ → ℕ) → ℕ → List ℕ
spawn_line verdict of n = ascii "S " ++ decimal n ++ ascii " " ++ verdict_word verdict ++ four_fields of ++ ascii "\n"

-- the texts of 0 to n - 1, one after another: "records count from 0"
unfoldable pub joined : (ℕ → List ℕ) → ℕ → List ℕ
joined text zero = []
joined text (suc n) = joined text n ++ text n

-- of a function, and of a node: its line, if it is a spawn
abbrev pub of_function_text : Program → (ℕ → ℕ) → ℕ → List ℕ
of_function_text g sizes f = function_line (λ k. of_function g sizes k f) f

abbrev pub of_node_text : Program → (ℕ → ℕ) → (ℕ → ℕ) → ℕ → List ℕ
of_node_text g choice sizes n = cond (eqb (g.sort n) spawn) (spawn_line (choice n) (λ k. of_node g sizes k n) n) []

-- "for each function [..]; then for each spawn, by node"
unfoldable pub listing : Program → (ℕ → ℕ) → (ℕ → ℕ) → List ℕ
listing g choice sizes = joined (of_function_text g sizes) g.functions ++ joined (of_node_text g choice sizes) g.nodes

-- "A refusal prints `refused N at P`."
unfoldable pub refusal_line : ℕ → ℕ → List ℕ
refusal_line number place = ascii "refused " ++ decimal number ++ ascii " at " ++ decimal place ++ ascii "\n"

-- The text of a table. "at most 12,800 bytes; for a longer input it prints only `too long`". "It prints the best choice": the choice returned, and its sizes.
pub data ListingOf : List ℕ → List ℕ → Type 0 where
  too_long : {t text : List ℕ} → 12800 < length t → text ≡ ascii "too long\n" → ListingOf t text
  refused : {t text : List ℕ} → length t ≤ 12800 → (number place : ℕ) → outcome t ≡ is_refused number place → text ≡ refusal_line number place → ListingOf t text
  accepted : {t text : List ℕ} → length t ≤ 12800 → Accepted t → (choice sizes : ℕ → ℕ) → Returned (program_of t) choice → LeastSizes (program_of t) choice sizes → text ≡ listing (program_of t) choice sizes → ListingOf t text
