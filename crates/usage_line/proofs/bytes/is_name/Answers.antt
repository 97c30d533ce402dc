use Rattle.std.proofs.Common.{arith}
use Rattle.std.proofs.lemmas.Grind.{common_steps}
use Rattle.std.proofs.lemmas.Bool.Decides.{nat_tests}
use Rattle.usage_line.specs.Bytes.{tab, colon, line_feed, is_name}
use Rattle.memchr.specs.Find.{is_byte3}
use Rattle.usage_line.proofs.Parts.{none_passes}
use Rattle.usage_line.proofs.bytes.is_name.Goals as goal

pub returns-then-bytes-le-LONGEST : goal.returns-then-bytes-le-LONGEST
unfolding is_name
returns-then-bytes-le-LONGEST c = let clear = none_passes (is_byte3 tab colon line_feed) _ _ c.memchr3.ensures in grind (arith, common_steps, nat_tests)

pub returns-else-bytes-le-LONGEST : goal.returns-else-bytes-le-LONGEST
unfolding is_name
returns-else-bytes-le-LONGEST c = grind (arith, common_steps, nat_tests)
