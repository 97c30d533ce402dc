-- What the least solution of a table's rules comes to: the least sizes, and the largest sums.
use Prim.Native.Nat.{ℕ, ◌+◌, ◌*◌, ◌<◌, ◌≤◌}
use mathlib.Core.Path.{◌≡◌, sym, ap, ◌∙◌, subst}
use mathlib.Core.List.{List, map}
use lib.ListN.{length, take}
use native.Mathlib.Omega.{arith}
use Rattle.std.proofs.lemmas.List.{get_or_past, length-take}
use Rattle.table.proofs.Laws.{well_formed}
use Rattle.sync.specs.Found.{Looked}
use Rattle.sync.specs.Words.{member}
use Rattle.sync.specs.declared.Known.{Known}
use Rattle.size.specs.Size.{cap, value_of}
use Rattle.size.specs.Numbers.{at}
use Rattle.solver.specs.declared.solution.Solution.{Solution}
use Rattle.solver.specs.Values.{number_at, values_of, Settles}
use Rattle.solver.proofs.Rises.{der_less}
use Rattle.solver.proofs.Values.{value_size, value_after, value_before, first_starts}
use Rattle.rules.specs.Rules.{entries}
use Rattle.rules.specs.Sums.{LargestAfter, LargestBefore}
use Rattle.rules.specs.System.{Entry, size, along, forms_of, Solved}
use Rattle.rules.specs.declared.sums.Sum.TheVariants.{After, Before}
use Rattle.rules.proofs.Solved.{solved_least, solved_after, solved_before}
use Rattle.listed.specs.Listed.{given, Lists, RulesFor}
use Rattle.listed.proofs.Worded.{seen, seen_size, seen_along, words_solve}
use Rattle.sizes.specs.Trials.{known_program, DerivedFor, FoundFor, StartsFor}
use Rattle.sizes.specs.declared.trials.Prepared.{Prepared}

module _ (choice : List ℕ) (known : Known) (looked : Looked known) (f : Solution) {rules : List ℕ} {from : ℕ → ℕ} (s : Settles rules from f) (lists : Lists (given choice known) rules) (past : (x : ℕ) → 2304 ≤ x → from x ≡ 0) (derived : DerivedFor known (at choice) from) where
  abbrev v : Entry → ℕ
  v = seen (number_at f)

  solved : Solved (known_program known) (member known.synchronising) (member known.reached) (at choice) v
  solved = words_solve (given choice known) lists derived past s

  few : entries (known_program known) ≤ 2304
  few =
      let p = known.program in
      omega (arith, p.functions_are, p.nodes_are, p.few_functions, p.few_nodes)

  size_is : (x : ℕ) → x < entries (known_program known) → at (map value_of f.sizes) x ≡ v (size x)
  size_is x h = let l : x < 2304 = omega (arith, few) in sym (value_size (values_of f) x l) ∙ sym (seen_size (number_at f) x l)

  sum_low : (n : ℕ) → n < (known_program known).nodes → n < 512
  sum_low n h =
      let p = known.program in
      omega (arith, p.nodes_are, p.few_nodes)

  after_is : (n : ℕ) → n < (known_program known).nodes → v (along After n) ≡ at (map value_of f.after) n
  after_is n h = seen_along (number_at f) After n (sum_low n h) ∙ value_after (values_of f) (2304 + n) (omega arith) (omega (arith, sum_low n h)) ∙ ap (at (values_of f).after) (omega arith)

  before_is : (n : ℕ) → n < (known_program known).nodes → v (along Before n) ≡ at (map value_of f.before) n
  before_is n h = seen_along (number_at f) Before n (sum_low n h) ∙ value_before (values_of f) (2816 + n) (omega arith) (omega (arith, sum_low n h)) ∙ ap (at (values_of f).before) (omega arith)

  pub found : FoundFor known (at choice) f
  found =
      let g = known_program known in
      let set = member known.synchronising in
      let reached = member known.reached in
      let well = well_formed known.program.table.now known.program.ready.accepted_is in
      record {
        sizes = λ x. v (size x);
        sizes_of = record {
          least = solved_least g set reached (at choice) well looked.set looked.reach v solved;
          after_is = λ n h. subst (LargestAfter g set (λ x. v (size x)) n) (after_is n h) (solved_after g set reached (at choice) well looked.set looked.reach v solved n h);
          before_is = λ n h. subst (LargestBefore g set (λ x. v (size x)) n) (before_is n h) (solved_before g set reached (at choice) well looked.set looked.reach v solved n h);
        };
        derived = record { each = λ x. solved.derived (size x) };
        sizes_are = size_is;
      }

-- from numbers that the choice derives
pub found_from : (numbers : List ℕ) {choice rules : List ℕ} {known : Known} {most : ℕ} {f : Solution} → Looked known → RulesFor choice known most rules → length numbers ≤ 2304 → DerivedFor known (at choice) (at numbers) → {from : ℕ → ℕ} → ((x : ℕ) → from x ≡ cap (at numbers x)) → Settles rules from f → FoundFor known (at choice) f
found_from numbers {choice} {rules} {known} {most} {f} looked r low d starts s =
    found choice known looked f s r.lists (λ x h. starts x ∙ ap cap (get_or_past numbers x 0 (omega arith)))
    (record { each = λ x. rw starts (der_less (forms_of (given choice known)) (cap (at numbers x)) (omega arith) (d.each x)) })

-- and from those that the sizes of a smaller choice are cut off from
pub derived_cut : {p : Prepared} {c : ℕ → ℕ} {numbers : List ℕ} → StartsFor p c numbers → (length (take (4 * (p.known.program.of.functions + p.known.program.of.nodes)) numbers) ≤ 2304) × DerivedFor p.known c (at (take (4 * (p.known.program.of.functions + p.known.program.of.nodes)) numbers))
derived_cut {p} {c} {numbers} s =
    let q = p.known.program in
    let e : 4 * (q.of.functions + q.of.nodes) ≡ entries (known_program p.known) = omega (arith, q.functions_are, q.nodes_are) in
    (omega (arith, s.long, length-take (4 * (q.of.functions + q.of.nodes)) numbers), rw e (record { each = λ x. rw (first_starts (entries (known_program p.known)) numbers x) (s.derived.each x) }))
