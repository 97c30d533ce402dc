use Rattle.std.proofs.Common.{refl}
use Rattle.sizes.proofs.trials.fn.with_prepared.with_widest.Goals as goal

pub take-requires : goal.take-requires
take-requires g c =
    let from = c.requires.0 in
    c.requires.1 _ (refl, record { looked = from.0; words_for = from.1 }) _ refl

pub returns : goal.returns
returns g c =
    let from = c.requires.0 in
    record {
      value = _;
      fit = (refl, record { looked = from.0; words_for = from.1 });
      shown = _;
      shows = refl;
      left = _;
      leaves = refl;
      called = c.take.ensures;
    }
