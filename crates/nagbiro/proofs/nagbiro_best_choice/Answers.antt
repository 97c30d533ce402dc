use Rattle.nagbiro.proofs.Telling.{done_told, refused_told}
use Rattle.nagbiro.proofs.nagbiro_best_choice.Goals as goal

pub returns-in-Ok-clause-told : goal.returns-in-Ok-clause-told
returns-in-Ok-clause-told c = done_told _ c.in-Ok.ensures.answer

pub returns-in-Err-clause-told : goal.returns-in-Err-clause-told
returns-in-Err-clause-told c = refused_told _ c.in-Err.ensures.answer c.tell.ensures.number c.tell.ensures.place
