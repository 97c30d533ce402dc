use Rattle.nagbiro.proofs.Telling.{order_left}
use Rattle.nagbiro.proofs.nagbiro_call_order.Goals as goal

pub returns-in-Ok-clause-leaves : goal.returns-in-Ok-clause-leaves
returns-in-Ok-clause-leaves c =
    let found = c.in-Ok.ensures in
    order_left _ c.in-Ok.found.functions _ c.in-Ok.found.of found.outcome found.order_for.0 c.as_slice.ensures.len c.as_slice.ensures.value c.write_front.ensures
