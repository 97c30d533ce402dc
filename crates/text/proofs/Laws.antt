-- What the listing's promise comes to: a table has one text.
use Prim.Native.Nat.{ℕ}
use mathlib.Core.Path.{◌≡◌, sym, ap, ◌∙◌}
use mathlib.Core.List.{List}
use native.Mathlib.Omega.{arith}
use Rattle.table.specs.Record.{functions, nodes, edges}
use Rattle.table.specs.Answer.{outcome, outcome_for}
use Rattle.table.specs.Answer.{accepted as is_accepted, refused as is_refused}
use Rattle.table.specs.Checks.{Accepted}
use Rattle.table.specs.Program.{program_of}
use Rattle.sizes.proofs.Laws.{sizes_unique, sizes_alike}
use Rattle.choice.proofs.Laws.{returned_unique}
use Rattle.text.specs.Listing.{ListingOf, too_long, refused, accepted, refusal_line}
use Rattle.text.proofs.Whole.{listing_same}

-- no accepted table is refused
not_both : (t : List ℕ) (number place : ℕ) → Accepted t → outcome t ≡ is_refused number place → ⊥
unfolding outcome outcome_for
not_both t number place a r =
    let o : outcome t ≡ is_accepted (functions t) (nodes t) (edges t) = ap (outcome_for t) a in
    let z : ◌≡◌ {A = ℕ} 0 1 = cc in
    omega arith

refusal_same : (n p m q : ℕ) → is_refused n p ≡ is_refused m q → refusal_line n p ≡ refusal_line m q
refusal_same n p m q e = cc

pub one_text : (t a b : List ℕ) → ListingOf t a → ListingOf t b → a ≡ b
one_text t a b (too_long h x) (too_long k y) = x ∙ sym y
one_text t a b (too_long h x) (refused k n p r y) = absurd (omega arith)
one_text t a b (too_long h x) (accepted k ok c s r l y) = absurd (omega arith)
one_text t a b (refused h n p r x) (too_long k y) = absurd (omega arith)
one_text t a b (refused h n p r x) (refused k m q o y) = x ∙ refusal_same n p m q (sym r ∙ o) ∙ sym y
one_text t a b (refused h n p r x) (accepted k ok c s e l y) = absurd (not_both t n p ok r)
one_text t a b (accepted h ok c s e l x) (too_long k y) = absurd (omega arith)
one_text t a b (accepted h ok c s e l x) (refused k n p r y) = absurd (not_both t n p ok r)
one_text t a b (accepted h ok c s e l x) (accepted k too d u f m y) =
    let v = returned_unique (program_of t) c d e f in
    x ∙ listing_same (program_of t) c d s u v (sizes_unique (program_of t) d s u (sizes_alike (program_of t) c d s v l) m) ∙ sym y
