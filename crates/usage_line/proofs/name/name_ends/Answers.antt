use Rattle.std.proofs.Common.{arith}
use Rattle.std.proofs.lemmas.Grind.{common_steps}
use Rattle.usage_line.specs.Line.{name_start, of_form, name_in}
use Rattle.usage_line.proofs.name.name_ends.Goals as goal
use Rattle.usage_line.proofs.name.name_ends.Goals.{else-is_place-via-then-is_place+then-is_name+else-has_count, else-is_place-via-then-is_place+else-is_name, else-is_place-via-else-is_place}

pub returns-then-has_count-clause-is : goal.returns-then-has_count-clause-is
unfolding name_in of_form name_start
returns-then-has_count-clause-is c = grind (arith, common_steps)

pub returns-else-is_place-clause-is : goal.returns-else-is_place-clause-is
unfolding name_in of_form name_start
returns-else-is_place-clause-is c =
    elim c.else-is_place.branch [
      | else-is_place-via-then-is_place+then-is_name+else-has_count w ↦ grind (arith, common_steps)
      | else-is_place-via-then-is_place+else-is_name w ↦ grind (arith, common_steps)
      | else-is_place-via-else-is_place w ↦ grind (arith, common_steps)
    ]
