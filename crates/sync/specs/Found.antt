-- What is known of a table: what its check found, and its program's sets.
use Rattle.std.specs.Prelude.{Result, Ok, Err}
use Rattle.table.specs.declared.Counts.{Counts}
use Rattle.table.specs.declared.refusal.Refused.{Refused}
use Rattle.table.specs.Program.{program_of}
use Rattle.sync.specs.Answer.{Sets}
use Rattle.sync.specs.declared.Known.{Known}
use Rattle.sync.specs.declared.Settled.{Settled}

abbrev pub counts_found : Result Known Refused → Result Counts Refused
counts_found (Ok k) = Ok k.program.of
counts_found (Err e) = Err e

abbrev pub counts_settled : Result Settled Refused → Result Counts Refused
counts_settled (Ok c) = Ok c.known.program.of
counts_settled (Err e) = Err e

-- the two sets are the program's
abbrev pub Looked : Known → Type 0
Looked k = Sets (program_of k.program.table.now) k.synchronising k.reached
