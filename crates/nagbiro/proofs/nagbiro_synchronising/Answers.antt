use Rattle.nagbiro.proofs.Telling.{words_left}
use Rattle.nagbiro.proofs.nagbiro_synchronising.Goals as goal

pub returns-in-Ok-clause-leaves : goal.returns-in-Ok-clause-leaves
returns-in-Ok-clause-leaves c =
    let known = c.in-Ok.ensures in
    let set = c.write_words.ensures in
    words_left _ _ known.outcome (rw known.of_table at known.looked) set.eight set.written
