-- The whole text: it is that of the least sizes, which the best-choice call has written.
use Prim.Native.Nat.{ℕ, zero, suc, ◌+◌, ◌*◌, ◌<◌, ◌≤◌}
use mathlib.Core.Path.{◌≡◌, refl, ap, ap₂, subst, ◌∙◌}
use mathlib.Core.Bool.{cond}
use mathlib.Core.List.{List, [], ◌++◌}
use native.Mathlib.Omega.{arith}
use lib.Dec.{eqb}
use lib.ListN.{length}
use Rattle.std.specs.Prelude.{Result, Ok, Err}
use Rattle.table.specs.Record.{spawn}
use Rattle.table.specs.Program.{Program, program_of}
use Rattle.table.specs.declared.refusal.Refused.{Refused}
use Rattle.program.specs.declared.Program.{Program as CodeProgram}
use Rattle.size.specs.Numbers.{at}
use Rattle.rules.specs.Rules.{entries}
use Rattle.table.specs.Result.{result_of}
use Rattle.choice.specs.Call.{best_call, best_result, LeavesBest, LeavesBoth}
use Rattle.choice.proofs.Laws.{one_returned}
use Rattle.text.specs.Chosen.{text_of}
use Rattle.text.specs.declared.chosen.Chosen.{Chosen}
use Rattle.text.specs.Listing.{four_fields, function_line, spawn_line, joined, of_function_text, of_node_text, listing, ListingOf, accepted}

joined_same : (a b : ℕ → List ℕ) (n : ℕ) → ((i : ℕ) → i < n → a i ≡ b i) → joined a n ≡ joined b n
unfolding joined
joined_same a b zero e = refl
joined_same a b (suc n) e = ap₂ (λ (x y : List ℕ). x ++ y) (joined_same a b n (λ i h. e i (omega arith))) (e n (omega arith))

-- The four sizes that stand from place x on count, and no others.
module _ (a b : ℕ → ℕ) (x : ℕ) (e : (k : ℕ) → k ≤ 3 → a (x + k) ≡ b (x + k)) where
  four_same : four_fields (λ k. a (x + k)) ≡ four_fields (λ k. b (x + k))
  unfolding four_fields
  four_same = rw (e 0 (omega arith), e 1 (omega arith), e 2 (omega arith), e 3 (omega arith)) refl

  function_same : (f : ℕ) → function_line (λ k. a (x + k)) f ≡ function_line (λ k. b (x + k)) f
  unfolding function_line
  function_same f = rw four_same refl

  spawn_same : (v w n : ℕ) → v ≡ w → spawn_line v (λ k. a (x + k)) n ≡ spawn_line w (λ k. b (x + k)) n
  unfolding spawn_line
  spawn_same v w n d = rw (d, four_same) refl

-- only the verdicts and the sizes that there are count
pub listing_same : (g : Program) (c d a b : ℕ → ℕ) → ((n : ℕ) → n < g.nodes → c n ≡ d n) → ((x : ℕ) → x < entries g → a x ≡ b x) → listing g c a ≡ listing g d b
unfolding listing
listing_same g c d a b v e =
    ap₂ (λ (x y : List ℕ). x ++ y)
    (joined_same (of_function_text g a) (of_function_text g b) g.functions (λ f h. function_same a b (4 * f) (λ k l. e (4 * f + k) (omega arith)) f))
    (joined_same (of_node_text g c a) (of_node_text g d b) g.nodes (λ n h. ap (λ (l : List ℕ). cond (eqb (g.sort n) spawn) l []) (spawn_same a b (4 * (g.functions + n)) (λ k l. e (4 * (g.functions + n) + k) (omega arith)) (c n) (d n) n (v n h))))

-- The best-choice call, of a program: with room for the largest it refuses none,
pub none_refused : (p : CodeProgram) (v w s u : List ℕ) (r : Refused) → 512 ≤ length v → 2304 ≤ length s → result_of {X = Unit {0}} (Err r) ≡ best_result (best_call p.table.now (length v) (length s)) → LeavesBoth {X = Unit {0}} p.table.now v w s u (Err r) → ⊥
none_refused p v w s u r h k e leaves =
    let a = p.few_functions in
    let b = p.few_nodes in
    let x = one_returned {X = Unit {0}} p.table.now v w s u (Err r) p.ready.accepted_is (omega (arith, p.nodes_are)) (omega (arith, p.functions_are, p.nodes_are)) e leaves in
    let z : ◌≡◌ {A = Result (Unit {0}) Refused} (Err r) (Ok x.0.0) = x.0.1 in
    cc

-- and the lines of what it leaves are the listing.
pub listed : (c : Chosen) (v s t text : List ℕ) → LeavesBest c.program.table.now v c.verdicts.now s c.sizes.now → c.program.table.now ≡ t → length t ≤ 12800 → text ≡ text_of c → ListingOf t text
unfolding text_of
listed c v s t text leaves e short is_text =
    let g = program_of c.program.table.now in
    let x = leaves.sizes in
    let same = listing_same g (at c.verdicts.now) (at c.verdicts.now) (at c.sizes.now) x.0 (λ i h. refl) x.2.written in
    subst (λ (t : List ℕ). ListingOf t text) e (accepted (rw e short) c.program.ready.accepted_is (at c.verdicts.now) x.0 leaves.returned x.1 (is_text ∙ same))
