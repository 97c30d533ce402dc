-- What a line of a script says.
use Rattle.std.specs.Prelude.{ℕ, ◌≡◌, ◌≢◌, List, ◌∷◌, drop, slice_index_or}
use Rattle.script.specs.declared.Line.{Line}
use Rattle.script.specs.declared.Line.TheVariants.{Comment, Call, Table, Bytes, Records, Run}

-- The first byte of a line is this mark.
abbrev pub Begins : ℕ → List ℕ → Type 0
Begins mark text = (rest : List ℕ) × (text ≡ mark ∷ rest)

abbrev pub BeginsOther : ℕ → List ℕ → Type 0
BeginsOther mark text = (rest : List ℕ) → text ≢ mark ∷ rest

-- Such a mark, and this name behind it and a space.
abbrev pub Names : ℕ → List ℕ → List ℕ → Type 0
Names mark text name = (rest : List ℕ) × (text ≡ mark ∷ rest) × (name ≡ drop 1 rest)

-- What a line reads as: `#`, `!`, `=`, `+` and `?` are 35, 33, 61, 43 and 63.
abbrev pub ReadsAs : List ℕ → Line → Type 0
ReadsAs text (Comment) = slice_index_or text 0 35 ≡ 35
ReadsAs text (Call call) = Names 33 text call.now
ReadsAs text (Table name) = Names 61 text name.now
ReadsAs text (Bytes _) = Begins 43 text
ReadsAs text (Run _) = Begins 63 text
ReadsAs text (Records _) = BeginsOther 33 text × BeginsOther 61 text × BeginsOther 43 text × BeginsOther 63 text
