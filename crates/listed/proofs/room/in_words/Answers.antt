use Rattle.std.proofs.Common.{refl}
use Rattle.listed.proofs.room.in_words.Goals as goal

pub returns : goal.returns
returns g c = record {
  value = c.deref.result;
  fit = rw c.deref.ensures.0 c.fill.ensures;
  shown = _;
  shows = refl;
  left = _;
  leaves = refl;
  called = c.take.ensures;
}
