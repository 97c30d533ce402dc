-- What a table's check found, where a program was read.
use Rattle.std.specs.Prelude.{Result, Ok, Err}
use Rattle.table.specs.declared.Counts.{Counts}
use Rattle.table.specs.declared.refusal.Refused.{Refused}
use Rattle.program.specs.declared.Program.{Program}

abbrev pub counts_read : Result Program Refused → Result Counts Refused
counts_read (Ok p) = Ok p.of
counts_read (Err e) = Err e
