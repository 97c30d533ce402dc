-- The first f functions are done.
use Rattle.std.proofs.Common.{◌≡◌, length}
use Rattle.stack_usage.specs.Report.{Noted}
use Rattle.stack_usage.proofs.report.note.Given as goal

abbrev pub invariant-loop-f : goal.invariant-loop-f
invariant-loop-f l = (length l.mentions ≡ 64) × (length l.names.of ≡ 64) × Noted l.names l.usage l.f l.initial.mentions l.mentions
