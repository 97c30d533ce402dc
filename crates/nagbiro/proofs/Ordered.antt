-- Document 02, "One order for edges": what is written "gives the same sizes for every choice", and the same safety and best choice.
use Prim.Native.Nat.{ℕ}
use mathlib.Core.Path.{sym, subst}
use Rattle.std.specs.Prelude.{◌↔◌}
use Rattle.table.proofs.Laws.{same_back}
use mathlib.Core.List.{List}
use Rattle.table.specs.Checks.{FreeOrder}
use Rattle.table.specs.Program.{Program, program_of}
use Rattle.table.specs.SameButEdges.{SameButEdges}
use Rattle.program_bytes.specs.Bytes.{Bytes}
use Rattle.ordered_table.specs.Call.{ordered_bytes}
use Rattle.ordered_table.proofs.Laws.{ordered_program, ordered_same}
use Rattle.rules.specs.Rules.{LeastSizes}
use Rattle.sizes.proofs.Laws.{sizes_same}
use Rattle.safety.specs.Safety.{Safe}
use Rattle.safety.proofs.Laws.{safe_same}
use Rattle.choice.specs.Beats.{Returned}

module _ (t : List ℕ) (b : Bytes t) (free : FreeOrder t) where
  same : SameButEdges t (ordered_bytes t)
  same = ordered_same t b free

  back : SameButEdges (ordered_bytes t) t
  back = same_back t (ordered_bytes t) same

  pub ordered_sizes : (c s : ℕ → ℕ) → LeastSizes (program_of t) c s ↔ LeastSizes (program_of (ordered_bytes t)) c s
  ordered_sizes c s = (sizes_same t (ordered_bytes t) same c s, sizes_same (ordered_bytes t) t back c s)

  pub ordered_safe : (c : ℕ → ℕ) → Safe (program_of t) c ↔ Safe (program_of (ordered_bytes t)) c
  ordered_safe c = (safe_same t (ordered_bytes t) same c, safe_same (ordered_bytes t) t back c)

  pub ordered_best : (r : ℕ → ℕ) → Returned (program_of t) r ↔ Returned (program_of (ordered_bytes t)) r
  ordered_best r =
      let one = ordered_program t b free in
      (subst (λ (g : Program). Returned g r) (sym one), subst (λ (g : Program). Returned g r) one)
