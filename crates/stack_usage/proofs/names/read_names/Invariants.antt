-- The first f lines are names, and are in the list.
use Rattle.std.proofs.Common.{◌≡◌, length}
use Rattle.stack_usage.specs.Names.{NamesRead}
use Rattle.stack_usage.proofs.names.read_names.Given as goal

abbrev pub invariant-loop-f : goal.invariant-loop-f
invariant-loop-f l = (length l.of ≡ 64) × NamesRead l.file l.f l.of l.rest
