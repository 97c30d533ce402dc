use Rattle.search.proofs.Walking.{tried_taken}
use Rattle.search.proofs.found.Found.all_at_once.Goals as goal

pub returns-clause-all : goal.returns-clause-all
returns-clause-all c = λ yes.
    let x = tried_taken _ _ c.attempt.ensures.tried c.attempt.ensures.taken yes in
    (rw x.0 c.raised-larger.ensures, x.1, x.2)
