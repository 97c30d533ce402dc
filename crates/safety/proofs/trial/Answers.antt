use mathlib.Core.Path.{refl}
use Rattle.table.proofs.Booleans.{not_both}
use Rattle.table.proofs.Laws.{well_formed}
use Rattle.sync.specs.Words.{member}
use Rattle.sizes.specs.Call.{choice_of}
use Rattle.sizes.specs.Trials.{known_program}
use Rattle.sizes.proofs.Trying.{found_held}
use Rattle.safety.specs.Safety.{Safe}
use Rattle.safety.specs.Trial.{adopted, rejected}
use Rattle.safety.proofs.Judging.{tells_found, none_above}
use Rattle.safety.proofs.trial.Goals as goal
use Rattle.safety.proofs.trial.Goals.{then-safe, else-safe}

pub returns : goal.returns
returns c =
    let p = c.requires in
    let known = c.args.prepared.now.known in
    let choice = choice_of c.args.choice.now in
    let found = c.find_from-found.ensures in
    let told = tells_found p.0.looked choice found c.both_hold-safe.ensures in
    elim c.if-safe.branch [
      | then-safe w ↦ rw w.sizes-is (adopted w.if-safe.true (told.yes_if w.if-safe.true) (found_held found p.1.long w.write.ensures))
      | else-safe w ↦
          let unsafe : Safe (known_program known) choice → ⊥ = λ safe. not_both c.both_hold-safe.result (told.only_if safe) w.if-safe.false in
          rw w.sizes-is (rejected w.if-safe.false (none_above (known_program known) (well_formed known.program.table.now known.program.ready.accepted_is) choice found.sizes (member known.synchronising, p.0.looked.set, found.sizes_of.least) unsafe) refl)
    ]
