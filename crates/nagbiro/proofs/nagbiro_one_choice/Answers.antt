use Rattle.nagbiro.proofs.Telling.{done_told, refused_told, judged}
use Rattle.nagbiro.proofs.nagbiro_one_choice.Goals as goal

pub returns-in-Ok-clause-told : goal.returns-in-Ok-clause-told
returns-in-Ok-clause-told c = done_told _ c.in-Ok.ensures.answers.0

pub returns-in-Ok-clause-judges : goal.returns-in-Ok-clause-judges
returns-in-Ok-clause-judges c =
    let told = c.in-Ok.ensures.answers in
    judged _ _ told.0 told.1 c.from.ensures

pub returns-in-Err-clause-told : goal.returns-in-Err-clause-told
returns-in-Err-clause-told c = refused_told _ c.in-Err.ensures.answers c.tell.ensures.number c.tell.ensures.place
