-- The rows as the code has them, by their causes, and what each of them is told by.
use Prim.Native.Nat.{ℕ, ◌+◌, ◌<◌, ◌≤◌}
use mathlib.Core.Path.{◌≡◌, refl, sym, ap, ◌∙◌}
use mathlib.Core.Bool.{Bool, true, false, not, ◌||◌}
use mathlib.Core.List.{List, [], ◌∷◌, map}
use lib.Dec.{eqb}
use lib.ListN.{drop, length, get_or}
use Rattle.std.proofs.Common.{add-one, drop-cons, arith, ne_eqb}
use Rattle.std.proofs.lemmas.List.{drop_all}
use Rattle.std.specs.Prelude.{Option, None, Some, is_some, ◌%◌, ◌/◌, cond}
use Rattle.std.specs.Bool.{then_some}
use Rattle.table.specs.Below.{earliest}
use Rattle.table.specs.Scan.{sought, place_for}
use Rattle.table.specs.Refusal.{Check, refusal}
use Rattle.table.specs.Record.{records, is_entry}
use Rattle.table.specs.Checks.{free_checks, broken, no_entry}
use Rattle.table.specs.Answer.{free_outcome, outcome_for, accepted, refused, number_of, CountsOf}
use Rattle.table.specs.declared.Counts.{Counts}
use Rattle.table.specs.declared.refusal.Cause.{Cause}
use Rattle.table.specs.declared.refusal.Cause.TheVariants.{Length, Unlisted, OutOfOrder, TooMany, NoEntry, Absent, Foreign, NotPlain, Choice, Verdicts, Room, Number, Line, Mentions, NotAbove}
use Rattle.table.proofs.Below.{earliest_none, any_told}
use Rattle.table.proofs.Booleans.{not_not}
use Rattle.table.proofs.Refusals.{refusal_pass, refusal_here}

-- the row for a cause
abbrev pub row : Cause → Check (List ℕ)
row cause = record { number = number_of cause; place = place_for cause }

placed : (b : Bool) (p : ℕ) → then_some b p ≡ cond b (Some p) None
placed true p = refl
placed false p = refl

pub length_told : (t : List ℕ) {found : Option ℕ} → found ≡ then_some (not (eqb (length t % 8) 0)) (length t / 8) → found ≡ place_for Length t
unfolding broken
length_told t e = e ∙ placed _ _

pub entry_told : (t : List ℕ) {of : Counts} {entry found : Option ℕ} (none : Bool) → CountsOf t of → entry ≡ earliest (is_entry t) (records t) → is_some entry ≡ not none → found ≡ then_some (eqb of.functions 0 || none) 0 → found ≡ place_for NoEntry t
unfolding no_entry
entry_told t {of} {entry} none counts e n f = rw (← counts.functions_are, any_told (is_entry t) (records t), ← e, n, not_not none) (f ∙ placed _ _)

-- where it is about records, or nothing of the table
pub record_told : (cause : Cause) (t : List ℕ) → (cause ≡ Length → ⊥) → (cause ≡ TooMany → ⊥) → (cause ≡ NoEntry → ⊥) → earliest (sought cause t) (records t) ≡ place_for cause t
record_told Length t l m e = absurd (l refl)
record_told TooMany t l m e = absurd (m refl)
record_told NoEntry t l m e = absurd (e refl)
record_told Unlisted t l m e = refl
record_told OutOfOrder t l m e = refl
record_told Absent t l m e = refl
record_told Foreign t l m e = refl
record_told NotPlain t l m e = refl
record_told NotAbove t l m e = refl
record_told Choice t l m e = earliest_none _ _ (λ k h. refl)
record_told Verdicts t l m e = earliest_none _ _ (λ k h. refl)
record_told Room t l m e = earliest_none _ _ (λ k h. refl)
record_told Number t l m e = earliest_none _ _ (λ k h. refl)
record_told Line t l m e = earliest_none _ _ (λ k h. refl)
record_told Mentions t l m e = earliest_none _ _ (λ k h. refl)

-- the first i of the rows do not apply to t, so that those after them decide
pub record Past (t : List ℕ) (rows : List Cause) (i : ℕ) : Type 0 where
  pub decided_by_rest : refusal free_checks t ≡ refusal (map row (drop i rows)) t

pub none_yet : (t : List ℕ) → Past t (Length ∷ Unlisted ∷ OutOfOrder ∷ TooMany ∷ NoEntry ∷ Absent ∷ Foreign ∷ NotPlain ∷ []) 0
unfolding free_checks
none_yet t = record { decided_by_rest = refl }

module _ (t : List ℕ) (rows : List Cause) (i : ℕ) (d : Cause) (past : Past t rows i) (h : i < length rows) where
  at_row : refusal free_checks t ≡ refusal (row (get_or rows i d) ∷ map row (drop (i + 1) rows)) t
  at_row =
      let e : drop i rows ≡ get_or rows i d ∷ drop (i + 1) rows = rw add-one (drop-cons rows i d h) in
      past.decided_by_rest ∙ ap (λ (rest : List Cause). refusal (map row rest) t) e

  pub passed : None ≡ place_for (get_or rows i d) t → Past t rows (i + 1)
  passed told = record { decided_by_rest = at_row ∙ refusal_pass _ _ _ (sym told) }

  pub stopped : (p : ℕ) → Some p ≡ place_for (get_or rows i d) t → refused (number_of (get_or rows i d)) p ≡ free_outcome t
  unfolding free_outcome outcome_for
  stopped p told = rw (at_row, refusal_here t (row (get_or rows i d)) (map row (drop (i + 1) rows)) (sym told)) refl

-- the first row, where it is told before the others are looked at
pub broken_stops : (t : List ℕ) → (length t % 8 ≡ 0 → ⊥) → refused 1 (length t / 8) ≡ free_outcome t
broken_stops t e = stopped t _ 0 Length (none_yet t) (omega arith) _ (length_told t (rw (ne_eqb (length t % 8) 0 e) refl))

refusal_nil : (t : List ℕ) → refusal {X = List ℕ} [] t ≡ None
unfolding refusal
refusal_nil t = refl

pub all_passed : {t : List ℕ} {of : Counts} {rows : List Cause} {i : ℕ} → Past t rows i → length rows ≤ i → CountsOf t of → accepted of.functions of.nodes of.edges ≡ free_outcome t
unfolding free_outcome outcome_for
all_passed {t} {of} {rows} {i} past h counts =
    let none : refusal free_checks t ≡ None = past.decided_by_rest ∙ ap (λ (rest : List Cause). refusal (map row rest) t) (drop_all i rows h) ∙ refusal_nil t in
    rw (none, counts.functions_are, counts.nodes_are, counts.edges_are) refl
