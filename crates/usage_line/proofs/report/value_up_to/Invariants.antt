-- The invariant: the value of the digits so far, up to 65,536.
use Rattle.std.proofs.Common.{◌≡◌, min, take}
use Rattle.usage_line.specs.Bytes.{value}
use Rattle.usage_line.proofs.report.value_up_to.Given as goal

abbrev pub invariant-loop-digit : goal.invariant-loop-digit
invariant-loop-digit l = l.value ≡ min (value (take l.digit-index l.digits)) 65536
