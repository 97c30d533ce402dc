-- "Sort 0 plain, 1 call, 2 spawn, 3 sync."
use Rattle.std.specs.Prelude.{ℕ}
use Rattle.table.specs.Record.{plain, call, spawn, sync}
use Rattle.program.specs.declared.nodes.Sort.{Sort}
use Rattle.program.specs.declared.nodes.Sort.TheVariants.{Plain, Call, Spawn, Sync}

abbrev pub number_of : Sort → ℕ
number_of Plain = plain
number_of Call = call
number_of Spawn = spawn
number_of Sync = sync
