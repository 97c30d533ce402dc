use Rattle.sizes.specs.Call.{choice_of}
use Rattle.sizes.proofs.Calls.{done_valid}
use Rattle.safety.proofs.Judging.{tells_found}
use Rattle.safety.proofs.safety.Goals as goal

pub write-requires : goal.write-requires
write-requires c = rw c.in_ok-known.ensures.known.table_is (done_valid _ c.in_ok-known.ensures.answer).fits

pub returns-clause-answers : goal.returns-clause-answers
returns-clause-answers c =
    let known = c.in_ok-known.ensures.known in
    let told = rw known.table_is at (tells_found known.looked (choice_of c.args.choice.now) c.find-found.ensures c.both_hold.ensures) in
    (c.in_ok-known.ensures.answer, (told.yes_if, told.only_if))
