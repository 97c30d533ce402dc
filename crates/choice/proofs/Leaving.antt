-- What is found and written is what the call leaves.
use Prim.Native.Nat.{ℕ, ◌<◌}
use mathlib.Core.Path.{◌≡◌, sym, ◌∙◌}
use mathlib.Core.List.{List}
use native.Mathlib.Omega.{arith}
use Rattle.table.specs.Program.{Program, program_of}
use Rattle.size.specs.Numbers.{at, Written}
use Rattle.rules.specs.Rules.{entries}
use Rattle.sizes.specs.Call.{choice_of}
use Rattle.sizes.proofs.Laws.{sizes_alike}
use Rattle.search.specs.declared.found.Found.{Found}
use Rattle.choice.specs.Beats.{Returned}
use Rattle.choice.specs.Best.{BestOf}
use Rattle.choice.specs.Call.{LeavesBest}

-- only the verdicts of the nodes there are count
returned_alike : (g : Program) (c d : ℕ → ℕ) → ((n : ℕ) → n < g.nodes → c n ≡ d n) → Returned g c → Returned g d
returned_alike g c d e r = record {
  choice_for = record {
    others = λ n h s. sym (e n h) ∙ r.choice_for.others n h s;
    spawns = λ n h s. let v = r.choice_for.spawns n h s in (omega (arith, e n h), omega (arith, e n h));
  };
  exactly_when = λ x f. let w = r.exactly_when x f in (λ same. w.0 (λ n h. e n h ∙ same n h), λ b n h. sym (e n h) ∙ w.1 b n h);
}

pub best_leaves : {t : List ℕ} {found : Found} {old_verdicts new_verdicts old_sizes new_sizes : List ℕ} → BestOf (program_of t) found → Written (program_of t).nodes (at found.verdicts) old_verdicts new_verdicts → Written (entries (program_of t)) (at found.sizes) old_sizes new_sizes → LeavesBest t old_verdicts new_verdicts old_sizes new_sizes
best_leaves {t} {found} {new_verdicts = w} b a z = record {
  returned = returned_alike g (choice_of found.verdicts) (choice_of w) same b.returned;
  written = record { long = a.long; written = λ n h. a.written n h ∙ same n h; tail = a.tail };
  sizes = (b.sizes, sizes_alike g (choice_of found.verdicts) (choice_of w) b.sizes same b.least, record { long = z.long; written = λ x h. z.written x h ∙ b.sizes_are x h; tail = z.tail });
}
  where
    g : Program
    g = program_of t

    same : (n : ℕ) → n < g.nodes → choice_of found.verdicts n ≡ choice_of w n
    same n h = sym (a.written n h)
