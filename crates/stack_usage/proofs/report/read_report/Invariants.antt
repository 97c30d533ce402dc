-- So many lines are read.
use Rattle.std.proofs.Common.{◌≡◌, ◌+◌, ◌≤◌, length}
use Rattle.stack_usage.specs.Report.{ReportRead}
use Rattle.stack_usage.proofs.report.read_report.Given as goal

abbrev pub invariant-loop-cut : goal.invariant-loop-cut
invariant-loop-cut l = (length l.mentions ≡ 64) × (l.line + length l.rest ≤ length l.report) × ReportRead l.report l.names l.line l.mentions l.rest

abbrev pub decreases-loop-cut : goal.decreases-loop-cut
decreases-loop-cut l = length l.rest
