-- What the call for one choice answers.
use Rattle.std.specs.Prelude.{◌≡◌, ◌↔◌, Bool, true, Ok, Err}
use Rattle.std.specs.Prelude.{Result as CodeResult}
use Rattle.table.specs.Answer.{number_of}
use Rattle.table.specs.declared.refusal.Refused.{Refused}
use Rattle.table.specs.Program.{program_of}
use Rattle.table.specs.Result.{done, refused}
use Rattle.sizes.specs.Call.{Call, choice_of, call_result}
use Rattle.safety.specs.Safety.{Safe}

-- "answers safe, unsafe, or refused": the checks decide first, those of a call with a choice and a sizes buffer
abbrev pub Answers : Call → CodeResult Bool Refused → Type 0
Answers x (Ok safe) = (done ≡ call_result x) × ((safe ≡ true) ↔ Safe (program_of x.table) (choice_of x.choice))
Answers x (Err r) = refused (number_of r.cause) r.place ≡ call_result x
