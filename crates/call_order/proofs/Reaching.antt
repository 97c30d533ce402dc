-- Laws of reaching by calls, which the definition has with the last call apart.
use Prim.Native.Nat.{ℕ}
use Rattle.table.specs.Program.{Program}
use Rattle.call_order.specs.Calls.{Calls, Reaches}
use Rattle.call_order.specs.Calls.Reaches.{one, more}

module _ (g : Program) where
  -- from one function to another, and on from there
  pub reaches_on : {f m h : ℕ} → Reaches g f m → Reaches g m h → Reaches g f h
  reaches_on r (one c) = more r c
  reaches_on r (more s c) = more (reaches_on r s) c

  -- a call and then more of them
  pub reaches_first : {f m h : ℕ} → Calls g f m → Reaches g m h → Reaches g f h
  reaches_first c r = reaches_on (one c) r
