use mathlib.Core.Path.{refl}
use Rattle.nagbiro.proofs.Telling.{done_told, refused_told}
use Rattle.nagbiro.proofs.nagbiro_what_if.Goals as goal

pub returns-in-Ok-clause-told : goal.returns-in-Ok-clause-told
returns-in-Ok-clause-told c = done_told _ c.in-Ok.ensures.answers.0

pub returns-in-Ok-clause-judges : goal.returns-in-Ok-clause-judges
returns-in-Ok-clause-judges c =
    let told = c.in-Ok.ensures.answers in
    rw (← told.0) told.1

pub returns-in-Ok-clause-leaves : goal.returns-in-Ok-clause-leaves
returns-in-Ok-clause-leaves c = rw (← c.in-Ok.ensures.answers.0) c.in-Ok.ensures.leaves

pub returns-in-Err-clause-told : goal.returns-in-Err-clause-told
returns-in-Err-clause-told c = refused_told _ c.in-Err.ensures.answers c.tell.ensures.number c.tell.ensures.place

pub returns-in-Err-clause-judges : goal.returns-in-Err-clause-judges
returns-in-Err-clause-judges c = rw (← c.in-Err.ensures.answers) refl

pub returns-in-Err-clause-leaves : goal.returns-in-Err-clause-leaves
returns-in-Err-clause-leaves c = rw (← c.in-Err.ensures.answers) c.in-Err.ensures.leaves
