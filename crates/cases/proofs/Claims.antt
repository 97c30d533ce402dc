-- A test for each claim, and that a claim which passes is true.
use Prim.Native.Nat.{ℕ}
use mathlib.Core.Path.{◌≡◌, refl, sym, ap₂, subst}
use mathlib.Core.Bool.{Bool, true, false, not, ◌&&◌}
use mathlib.Core.List.{List, [], ◌∷◌}
use Rattle.std.specs.Prelude.{Option, None, Some}
use lib.Dec.{eqb, leb}
use lib.ListN.{length}
use borrow.Author.Tests.{eqb-true, leb-true, not-true}
use Rattle.table.specs.Refusal.{Refusal, refusal, refused_at}
use Rattle.table.specs.Checks.{checks, Accepted}
use Rattle.table.specs.Program.{Program, program_of}
use Rattle.table.specs.WellFormed.{WellFormed}
use Rattle.table.proofs.Booleans.{not_both, and_true_left, and_true_right}
use Rattle.table.proofs.Laws.{well_formed}
use Rattle.sync.specs.Synchronising.{Synchronising}
use Rattle.size.specs.Numbers.{at}
use Rattle.rules.specs.Choice.{ChoiceFor}
use Rattle.rules.specs.Rules.{of_function, LeastSizes}
use Rattle.safety.specs.Safety.{Safe}
use Rattle.choice.specs.Beats.{Returned}
use Rattle.choice.proofs.Laws.{returned_best}
use Rattle.text.specs.Listing.{listing, accepted}
use Rattle.cases.specs.Claims.{Claim, listed, best, sized, unsafe, not_synchronising, refused, Says, Case, AllSay, AllHold}
use Rattle.cases.proofs.Rows.{Rows, rows_of, program_from, rows_program}
use Rattle.cases.proofs.Sets.{has, set_of, sets_test, sets_found}
use Rattle.cases.proofs.Choosing.{choice_test, choice_found}
use Rattle.cases.proofs.Evidence.{Evidence, values, solved, unsafe_by, best_test, least_by, unsafe_by_lem, best_by, best_sizes}

-- ---- tests of equality

abbrev same : List ℕ → List ℕ → Bool
same [] [] = true
same [] (y ∷ m) = false
same (x ∷ l) [] = false
same (x ∷ l) (y ∷ m) = eqb x y && same l m

same_is : (l m : List ℕ) → same l m ≡ true → l ≡ m
same_is [] [] e = refl
same_is [] (y ∷ m) e = not_both false e refl
same_is (x ∷ l) [] e = not_both false e refl
same_is (x ∷ l) (y ∷ m) e = ap₂ ◌∷◌ (eqb-true x y (and_true_left (eqb x y) (same l m) e)) (same_is l m (and_true_right (eqb x y) (same l m) e))

abbrev is_accepted : Option Refusal → Bool
is_accepted None = true
is_accepted (Some r) = false

accepted_is : (o : Option Refusal) → is_accepted o ≡ true → o ≡ None
accepted_is None e = refl
accepted_is (Some r) e = not_both false e refl

abbrev is_refused : ℕ → ℕ → Option Refusal → Bool
is_refused number place None = false
is_refused number place (Some r) = eqb r.number number && eqb r.place place

refused_is : (number place : ℕ) (o : Option Refusal) → is_refused number place o ≡ true → o ≡ Some (refused_at number place)
refused_is number place None e = not_both false e refl
refused_is number place (Some r) e =
    let a = eqb-true r.number number (and_true_left _ _ e) in
    let b = eqb-true r.place place (and_true_right (eqb r.number number) _ e) in
    ap₂ (λ (n p : ℕ). Some (refused_at n p)) a b

-- ---- claims

-- the table is accepted, and its synchronising set is found
abbrev ready : List ℕ → Rows → Bool
ready t r = is_accepted (refusal checks t) && sets_test r

abbrev test : List ℕ → Rows → Claim → Evidence → Bool
test t r (listed text) x =
    ready t r
    && (leb (length t) 12800
    && (best_test r x.choice x
    && same text (listing (program_from r) (at x.choice) (at (values r (at x.choice) x.plan).sizes))))
test t r (best c) x = ready t r && best_test r c x
test t r (sized c f k size) x =
    ready t r
    && (choice_test r c
    && (solved r (at c) x.plan
    && eqb (of_function (program_from r) (at (values r (at c) x.plan).sizes) k f) size))
test t r (unsafe c) x = ready t r && (choice_test r c && unsafe_by r (at c) x.plan)
test t r (not_synchronising n) x = ready t r && not (has (set_of r) n)
test t r (refused number place) x = is_refused number place (refusal checks t)

module _ (t : List ℕ) where
  is_accepted_lem : ready t (rows_of t) ≡ true → Accepted t
  is_accepted_lem e = accepted_is (refusal checks t) (and_true_left _ _ e)

  found : ready t (rows_of t) ≡ true → sets_test (rows_of t) ≡ true
  found e = and_true_right (is_accepted (refusal checks t)) _ e

  -- what holds of the program that rows give holds of the table's
  of_table_lem : (P : Program → Type 0) → P (program_from (rows_of t)) → P (program_of t)
  of_table_lem P = subst P (rows_program t)

  formed : ready t (rows_of t) ≡ true → WellFormed (program_from (rows_of t))
  formed e = subst WellFormed (sym (rows_program t)) (well_formed t (is_accepted_lem e))

  choice_says : (c : List ℕ) → choice_test (rows_of t) c ≡ true → ChoiceFor (program_of t) (at c)
  choice_says c e = of_table_lem (λ g. ChoiceFor g (at c)) (choice_found (rows_of t) c e)

  returned_says : ready t (rows_of t) ≡ true → (c : List ℕ) (x : Evidence) → best_test (rows_of t) c x ≡ true → Returned (program_of t) (at c)
  returned_says i c x e = of_table_lem (λ g. Returned g (at c)) (best_by (rows_of t) (formed i) (found i) c x e)

  -- the sizes that a plan comes to
  sizes_by : List ℕ → Evidence → ℕ → ℕ
  sizes_by c x = at (values (rows_of t) (at c) x.plan).sizes

  says : (c : Claim) (x : Evidence) → test t (rows_of t) c x ≡ true → Says t c
  unfolding sizes_by
  says (listed text) x e =
      let i = and_true_left _ _ e in
      let short = and_true_right (ready t (rows_of t)) _ e in
      let rest = and_true_right (leb (length t) 12800) _ short in
      let b = and_true_left _ _ rest in
      let text-is = same_is text _ (and_true_right (best_test (rows_of t) x.choice x) _ rest) in
      accepted (leb-true _ _ (and_true_left _ _ short)) (is_accepted_lem i) (at x.choice) (sizes_by x.choice x)
      (returned_says i x.choice x b)
      (of_table_lem (λ g. LeastSizes g (at x.choice) (sizes_by x.choice x)) (best_sizes (rows_of t) (formed i) (found i) x.choice x b))
      (of_table_lem (λ g. text ≡ listing g (at x.choice) (sizes_by x.choice x)) text-is)
  says (best c) x e =
      let i = and_true_left _ _ e in
      let p = returned_says i c x (and_true_right (ready t (rows_of t)) _ e) in
      (is_accepted_lem i, p.choice_for, returned_best (program_of t) (at c) p)
  says (sized c f k size) x e =
      let i = and_true_left _ _ e in
      let chosen = and_true_right (ready t (rows_of t)) _ e in
      let rest = and_true_right (choice_test (rows_of t) c) _ chosen in
      let least = least_by (rows_of t) (formed i) (found i) (at c) x.plan (and_true_left _ _ rest) in
      let size_is = eqb-true _ size (and_true_right (solved (rows_of t) (at c) x.plan) _ rest) in
      (is_accepted_lem i, choice_says c (and_true_left _ _ chosen), (sizes_by c x, of_table_lem (λ g. LeastSizes g (at c) (sizes_by c x)) least, of_table_lem (λ g. of_function g (sizes_by c x) k f ≡ size) size_is))
  says (unsafe c) x e =
      let i = and_true_left _ _ e in
      let chosen = and_true_right (ready t (rows_of t)) _ e in
      let u = unsafe_by_lem (rows_of t) (formed i) (found i) (at c) x.plan (and_true_right (choice_test (rows_of t) c) _ chosen) in
      (is_accepted_lem i, choice_says c (and_true_left _ _ chosen), of_table_lem (λ g. Safe g (at c) → ⊥) u.not_safe)
  says (not_synchronising n) x e =
      let i = and_true_left _ _ e in
      let s = (sets_found (rows_of t) (formed i) (found i)).0 in
      (is_accepted_lem i, (has (set_of (rows_of t)), of_table_lem (λ g. Synchronising g (has (set_of (rows_of t)))) s, not-true _ (and_true_right (ready t (rows_of t)) _ e)))
  says (refused number place) x e = refused_is number place (refusal checks t) e

  -- all claims of a case
  abbrev claims_test : List Claim → List Evidence → Bool
  claims_test [] l = true
  claims_test (c ∷ claims) [] = false
  claims_test (c ∷ claims) (x ∷ l) = test t (rows_of t) c x && claims_test claims l

  all_say : (claims : List Claim) (l : List Evidence) → claims_test claims l ≡ true → AllSay t claims
  all_say [] l e = tt
  all_say (c ∷ claims) [] e = not_both false e refl
  all_say (c ∷ claims) (x ∷ l) e = (says c x (and_true_left _ _ e), all_say claims l (and_true_right (test t (rows_of t) c x) _ e))

-- all cases of a list
unfoldable pub cases_test : List Case → List (List Evidence) → Bool
cases_test [] l = true
cases_test (c ∷ cases) [] = false
cases_test (c ∷ cases) (x ∷ l) = claims_test c.table c.claims x && cases_test cases l

pub all_hold : (cases : List Case) (l : List (List Evidence)) → cases_test cases l ≡ true → AllHold cases
unfolding cases_test
all_hold [] l e = tt
all_hold (c ∷ cases) [] e = not_both false e refl
all_hold (c ∷ cases) (x ∷ l) e = (all_say c.table c.claims x (and_true_left _ _ e), all_hold cases l (and_true_right (claims_test c.table c.claims x) _ e))
