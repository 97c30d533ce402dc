use Rattle.table.specs.Checks.{above}
use Rattle.table.proofs.checks.is_above.Goals as goal

pub returns : goal.returns
returns c = λ i. above (c.field_a-a.ensures.0 i) (c.field_b-2.ensures.0 i) (c.field_a-c.ensures.0 i) (c.field_b.ensures.0 i)
