-- The invariant: the depths up to the level are found.
use Rattle.table.specs.Program.{program_of}
use Rattle.preference.specs.Levels.{found_in, unfound}
use Rattle.preference.proofs.Levels.{Sounding}
use Rattle.preference.proofs.depth.sound.Given as goal

abbrev pub invariant-loop-deeper : goal.invariant-loop-deeper
invariant-loop-deeper l = Sounding (program_of l.program.table.now) l.level (found_in l.depth)

abbrev pub decreases-loop-deeper : goal.decreases-loop-deeper
decreases-loop-deeper l = unfound (program_of l.program.table.now) (found_in l.depth)
