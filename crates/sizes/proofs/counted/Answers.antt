use Rattle.sizes.proofs.Calls.{done_valid}
use Rattle.sizes.proofs.counted.Goals as goal

pub write-requires : goal.write-requires
write-requires c = rw c.in_ok-known.ensures.known.table_is (done_valid _ c.in_ok-known.ensures.answer).fits
