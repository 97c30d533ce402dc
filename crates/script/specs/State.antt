-- What the lines of a script come to, one after another.
use Rattle.std.specs.Prelude.{ℕ, ◌≡◌, ◌-◌, ◌/◌, List, [], ◌++◌, min, length, take, drop}
use Rattle.script.specs.declared.Line.{Line}
use Rattle.script.specs.declared.Line.TheVariants.{Comment, Call, Table, Bytes, Records, Run}
use Rattle.script.specs.declared.State.{State}
use Rattle.script.specs.Records.{records_before}

abbrev pub SameCall : State → State → Type 0
SameCall old new = new.call.now ≡ old.call.now

abbrev pub SameName : State → State → Type 0
SameName old new = new.name.now ≡ old.name.now

abbrev pub SameTable : State → State → Type 0
SameTable old new = new.table.items ≡ old.table.items

abbrev pub SameLeft : State → State → Type 0
SameLeft old new = new.left ≡ old.left

-- Tables stand one after another in a room of 65,536 bytes, 0 at first: behind the bytes of a table stand those that longer ones left.
abbrev pub behind : State → List ℕ
behind s = drop (length s.table.items) s.left

-- How many records go behind the bytes of the table, of the count that is asked for.
abbrev pub fitting : State → ℕ → ℕ
fitting old count = min count ((65536 - length old.table.items) / 8)

-- What a line makes of what was said before it.
abbrev pub Takes : State → Line → State → Type 0
Takes old (Comment) new = SameCall old new × SameName old new × SameTable old new × SameLeft old new
Takes old (Call call) new = (new.call.now ≡ call.now) × SameName old new × SameTable old new × SameLeft old new
Takes old (Table name) new = SameCall old new × (new.name.now ≡ name.now) × (new.table.items ≡ []) × (new.left ≡ old.table.items ++ behind old)
Takes old (Bytes count) new = SameCall old new × SameName old new × (new.table.items ≡ old.table.items ++ take count (behind old)) × SameLeft old new
Takes old (Records records) new = SameCall old new × SameName old new × (new.table.items ≡ old.table.items ++ records_before records (fitting old records.count)) × SameLeft old new
Takes old (Run _) new = SameCall old new × SameName old new × SameTable old new × SameLeft old new
