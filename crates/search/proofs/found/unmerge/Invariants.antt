-- The invariant: the nodes below n have their verdicts, and the other bytes are as they were.
use Rattle.table.specs.Program.{program_of}
use Rattle.search.proofs.Starting.{Started}
use Rattle.search.proofs.found.unmerge.Given as goal

abbrev pub invariant-loop-n : goal.invariant-loop-n
invariant-loop-n l = Started (program_of l.program.table.now) l.n l.initial.verdicts l.verdicts
