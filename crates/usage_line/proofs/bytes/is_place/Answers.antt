use Rattle.std.proofs.Common.{arith}
use Rattle.std.proofs.lemmas.Grind.{common_steps}
use Rattle.std.proofs.lemmas.Bool.Decides.{nat_tests}
use Rattle.usage_line.specs.Bytes.{tab, line_feed, is_place}
use Rattle.memchr.specs.Find.{is_byte2}
use Rattle.usage_line.proofs.Parts.{none_passes}
use Rattle.usage_line.proofs.bytes.is_place.Goals as goal

pub returns-then-bytes-eq58 : goal.returns-then-bytes-eq58
unfolding is_place
returns-then-bytes-eq58 c = let clear = none_passes (is_byte2 tab line_feed) _ _ c.memchr2.ensures in grind (arith, common_steps, nat_tests)

pub returns-else-bytes-eq58 : goal.returns-else-bytes-eq58
unfolding is_place
returns-else-bytes-eq58 c = grind (arith, common_steps, nat_tests)
