-- The records that the table has got so far, for which there is room.
use Rattle.std.proofs.Common.{◌≡◌, ◌+◌, ◌-◌, ◌*◌, ◌≤◌, ◌++◌, length}
use Rattle.script.specs.Records.{records_before}
use Rattle.script.proofs.records.Records.put.Given as goal

abbrev pub invariant-loop-place : goal.invariant-loop-place
invariant-loop-place l =
    (l.table.items ≡ l.initial.table.items ++ records_before l.self l.place)
    × (length l.table.items ≡ length l.initial.table.items + 8 * l.place)
    × (8 * l.place ≤ 65536 - length l.initial.table.items)
