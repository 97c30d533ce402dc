-- What a search is to solve. Helps proofs only.
use Rattle.std.specs.Prelude.{length}
use Rattle.table.specs.Program.{Program}
use Rattle.size.specs.Numbers.{at}
use Rattle.sizes.specs.Trials.{known_program, PreparedFor}
use Rattle.preference.specs.Preference.{InOrder}
use Rattle.search.specs.declared.problem.Problem.{Problem}

-- its program
abbrev pub program_in : Problem → Program
program_in p = known_program p.prepared.now.known

-- the table is prepared for trials, and the order is the preference order
pub record WellPosed (p : Problem) : Type 0 where
  pub prepared_for : PreparedFor p.prepared.now
  pub in_order : InOrder (program_in p) (length p.order.now) (at p.order.now)
