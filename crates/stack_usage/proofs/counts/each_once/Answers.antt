use mathlib.Core.Path.{refl}
use Rattle.stack_usage.proofs.counts.each_once.Goals as goal

pub returns-in_default-clause-refused : goal.returns-in_default-clause-refused
returns-in_default-clause-refused c =
    (refl, record { within = c.loop-f-test.true; odd = c.in_default.not-Once; before = λ f h. (_, c.loop-f.invariant.1 f h) })
