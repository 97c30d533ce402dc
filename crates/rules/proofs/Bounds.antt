-- How far the rules reach: no head past the entries.
use Prim.Native.Nat.{ℕ, ◌<◌, ◌≤◌}
use mathlib.Core.Path.{◌≡◌, refl, sym, subst}
use mathlib.Core.Bool.{Bool}
use native.Mathlib.Omega.{arith}
use Rattle.table.specs.Program.{Program}
use Rattle.table.specs.WellFormed.{WellFormed}
use Rattle.rules.specs.Rules.{through, entries}
use Rattle.rules.specs.System.{Entry, size, along, kind_for, Rule, start, step_on, end, total_node, total_edge, target_of, form_of, Der, none, rule}
use Rattle.rules.specs.declared.sums.Sum.{Sum}
use Rattle.rules.specs.declared.sums.Sum.TheVariants.{After, Before, Through}

pub kind_low : (s : Sum) → kind_for s ≤ through
kind_low After = omega arith
kind_low Before = omega arith
kind_low Through = omega arith

-- a size is one of the table's
abbrev Within : Program → Entry → Type 0
Within g (size x) = x < entries g
Within g (along s n) = Unit {0}

module _ (g : Program) (w : WellFormed g) (set reached : ℕ → Bool) (choice : ℕ → ℕ) where
  head_within : (r : Rule g set reached choice) → Within g (form_of r).head
  head_within (start s n h b) = tt
  head_within (step_on s p n e b) = tt
  head_within (end s f h b) = omega (arith, kind_low s)
  head_within (total_node n h) = omega (arith, w.owner_exists n h)
  head_within (total_edge p n e) = omega (arith, w.owner_exists n (w.edge_together p n e).to_exists)
  head_within (target_of n k h l b) = omega arith

  -- so nothing is derived past the entries
  pub none_past : {x t : ℕ} → Der g set reached choice (size x) t → entries g ≤ x → t ≡ 0
  none_past none h = refl
  none_past (rule r v e d l) h = absurd (omega (arith, subst (Within g) (sym e) (head_within r)))
