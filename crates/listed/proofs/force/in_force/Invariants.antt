-- The invariant: the words kept are those of the first that are in force.
use Rattle.listed.specs.Listed.{in_force}
use Rattle.listed.proofs.Widest.{Kept}
use Rattle.listed.proofs.force.in_force.Given as goal

abbrev pub invariant-loop-word : goal.invariant-loop-word
invariant-loop-word g l = Kept (in_force l.choice l.known.program) l.all l.word-index l.rules.items
