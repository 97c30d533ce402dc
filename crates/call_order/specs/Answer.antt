-- What is answered for a table.
use Rattle.std.specs.Prelude.{ℕ, ◌≤◌, ◌≡◌, List, Result, Ok, Err}
use Rattle.table.specs.Program.{program_of}
use Rattle.table.specs.declared.Counts.{Counts}
use Rattle.table.specs.declared.refusal.Refused.{Refused}
use Rattle.call_order.specs.declared.answer.InOrder.{InOrder}
use Rattle.call_order.specs.CallOrder.{places, CallOrder}

-- What the table's check found.
abbrev pub counts_ordered : Result InOrder Refused → Result Counts Refused
counts_ordered (Ok x) = Ok x.of
counts_ordered (Err e) = Err e

-- What it holds beside that: the functions in the call order, and zeros behind them.
abbrev pub OrderFor : List ℕ → Result InOrder Refused → Type 0
OrderFor t (Ok x) = CallOrder (program_of t) (places x.functions) × ((i : ℕ) → x.of.functions ≤ i → places x.functions i ≡ 0)
OrderFor t (Err e) = Unit {0}
