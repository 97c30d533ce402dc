-- What rules are listed from is there. Helps proofs only.
use Rattle.std.specs.Prelude.{ℕ, ◌<◌, get_or}
use Rattle.table.specs.declared.Counts.{Counts}
use Rattle.rule_order.specs.declared.Orders.{Orders}

-- the entries of a table's orders are its functions, nodes and edges
pub record AllWithin (c : Counts) (orders : Orders) : Type 0 where
  pub functions_within : (i : ℕ) → i < c.functions → get_or orders.functions i 0 < c.functions
  pub nodes_within : (i : ℕ) → i < c.nodes → get_or orders.nodes i 0 < c.nodes
  pub edges_within : (i : ℕ) → i < c.edges → get_or orders.edges i 0 < c.edges
