-- So many bytes are there.
use Rattle.std.proofs.Common.{◌≡◌, length}
use Rattle.script.proofs.Run.put_choice.Given as goal

abbrev pub invariant-loop : goal.invariant-loop
invariant-loop l = length l.choice.items ≡ l.counter
