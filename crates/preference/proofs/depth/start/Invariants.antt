-- The invariant: the functions below f are looked at.
use Rattle.table.specs.Program.{program_of}
use Rattle.preference.proofs.Levels.{Started}
use Rattle.preference.proofs.depth.start.Given as goal

abbrev pub invariant-loop-f : goal.invariant-loop-f
invariant-loop-f l = Started (program_of l.program.table.now) l.f l.depth
