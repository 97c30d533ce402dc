-- The least sizes of a choice, computed by a short plan. Whatever the plan, what it comes to is derived; a test says that no rule raises it.
use Prim.Native.Nat.{ℕ, zero, suc, ◌+◌, ◌-◌, ◌*◌, ◌<◌, ◌≤◌}
use mathlib.Core.Path.{◌≡◌, refl, subst}
use mathlib.Core.Bool.{Bool, true, false, cond, not, ◌&&◌}
use mathlib.Core.List.{List, [], ◌∷◌}
use mathlib.Core.Logic.{⊎_elim}
use native.Mathlib.Omega.{arith}
use lib.Dec.{ltb}
use lib.ListN.{replicate}
use borrow.Author.Tests.{ltb-true, ltb-false, lt-ltb, not-true}
use Rattle.table.specs.Below.{any}
use Rattle.table.specs.WellFormed.{WellFormed}
use Rattle.table.proofs.Below.{any_some}
use Rattle.table.proofs.Booleans.{either_way, not_both, and_true_left, and_true_right}
use Rattle.sync.specs.Synchronising.{Synchronising, Reached}
use Rattle.size.specs.Size.{unbounded}
use Rattle.size.specs.Numbers.{at}
use Rattle.solver.specs.System.{gives, none, rule}
use Rattle.solver.specs.Causes.{Lead}
use Rattle.solver.specs.Values.{Values}
use Rattle.solver.proofs.Rises.{In, lead_refl, lead_trans, rule_lead, pump}
use Rattle.rules.specs.System.{Entry, size, along, Form, Given, RuleOf, DerOf, takes, taken, form_of, forms_of, Solved}
use Rattle.sizes.specs.Answer.{SizesOf}
use Rattle.rules.specs.declared.sums.Sum.TheVariants.{After, Before, Through}
use Rattle.size.proofs.Maps.{at_zeros}
use Rattle.rules.proofs.Entries.{entry_same}
use Rattle.rules.proofs.Solved.{solved_least, solved_after, solved_before}
use Rattle.cases.proofs.Rows.{Rows, program_from}
use Rattle.cases.proofs.Entries.{value_at, same, same_is, among, among_in, put, entry_all, put_all}
use Rattle.cases.proofs.Numbers.{Kind, kinds, all, all_kinds, count, form, system, asked, rule_of, number_of}

-- A rule, by kind and number.
abbrev pub Name : Type 0
Name = Kind × ℕ

-- `round` goes over all rules. `leap` names a ring of rules, each with the head of the one before it in its body and the first with the head
-- of the last, by which an entry gains on itself.
pub data Move : Type 0 where
  round : Move
  leap : List Name → Move

module _ (r : Rows) (synchronising reached : ℕ → Bool) (choice : ℕ → ℕ) where
  abbrev S : Given
  S = system r synchronising reached choice

  abbrev asks : Kind → ℕ → Bool
  asks = asked r synchronising reached choice

  -- there is such a rule
  abbrev on : Kind → ℕ → Bool
  on k i = ltb i (count r k) && asks k i

  -- ---- moves

  unfoldable raises : Kind → ℕ → Values → Bool
  unfolding takes taken
  raises k i v = on k i && ltb (value_at v (form r k i).head) (gives (value_at v) (form r k i))

  unfoldable raise : Kind → ℕ → Values → Values
  unfolding raises
  raise k i v = cond (raises k i v) (put (form r k i).head (gives (value_at v) (form r k i)) v) v

  -- down from the last number and up again, since sums run along edges and against them
  unfoldable sweep : Kind → ℕ → Values → Values
  unfolding raise
  sweep k zero v = v
  sweep k (suc i) v = raise k i (sweep k i (raise k i v))

  unfoldable sweeps : List Kind → Values → Values
  unfolding sweep
  sweeps [] v = v
  sweeps (k ∷ l) v = sweeps l (sweep k (count r k) v)

  -- From y, which gains w on x, the rules lead on to x, each by what it gains on the head of the one before; and there is a gain.
  unfoldable climbs : Values → (x y : Entry) → ℕ → List Name → Bool
  unfolding takes taken
  climbs v x y w [] = same y x && ltb 0 w
  climbs v x y w ((k, i) ∷ l) = on k i && (among y (form r k i).body && climbs v x (form r k i).head (gives (value_at v) (form r k i) - value_at v y + w) l)

  -- the head of the last rule, on which the ring closes
  unfoldable last_head : Entry → List Name → Entry
  unfolding taken
  last_head x [] = x
  last_head x ((k, i) ∷ l) = last_head (form r k i).head l

  unfoldable move : Move → Values → Values
  unfolding sweeps climbs last_head
  move round v = sweeps kinds v
  move (leap l) v = let x = last_head (size 0) l in cond (climbs v x x 0 l) (put x unbounded v) v

  unfoldable moves : List Move → Values → Values
  unfolding move
  moves [] v = v
  moves (m ∷ l) v = moves l (move m v)

  abbrev zeros : Values
  zeros = let l : List ℕ = replicate r.nodes 0 in record { sizes = replicate (4 * (r.functions + r.nodes)) 0; after = l; before = l; through = l }

  -- The values that a plan comes to, from zeros.
  unfoldable pub run : List Move → Values
  unfolding moves
  run plan = moves plan zeros

  unfoldable quiet : Values → Kind → Bool
  unfolding any raises
  quiet v k = not (any (λ i. raises k i v) (count r k))

  -- No rule raises anything.
  unfoldable pub settled : Values → Bool
  unfolding quiet
  settled v = all (quiet v) kinds

  -- ---- what is derived stays so

  abbrev Kept : Values → Type 0
  Kept v = (x : Entry) → DerOf S x (value_at v x)

  kept_if : (b : Bool) (v : Values) (y : Entry) (t : ℕ) → Kept v → (b ≡ true → DerOf S y t) → Kept (cond b (put y t v) v)
  kept_if true v y t d h = put_all (DerOf S) v y t d (h refl)
  kept_if false v y t d h = d

  rule_on : (k : Kind) (i : ℕ) → on k i ≡ true → (q : RuleOf S) × (form_of q ≡ form r k i)
  rule_on k i h =
      let a = ltb i (count r k) in
      rule_of r synchronising reached choice k i (ltb-true i (count r k) (and_true_left a (asks k i) h)) (and_true_right a (asks k i) h)

  raise_kept : (k : Kind) (i : ℕ) (v : Values) → Kept v → Kept (raise k i v)
  unfolding raise
  raise_kept k i v d = kept_if (raises k i v) v (form r k i).head (gives (value_at v) (form r k i)) d given
    where
      given : raises k i v ≡ true → DerOf S (form r k i).head (gives (value_at v) (form r k i))
      given h =
          let q = rule_on k i (and_true_left (on k i) _ h) in
          subst (λ (f : Form). DerOf S f.head (gives (value_at v) f)) q.1 (rule {t = gives (value_at v) (form_of q.0)} q.0 (value_at v) refl d (omega arith))

  sweep_kept : (k : Kind) (i : ℕ) (v : Values) → Kept v → Kept (sweep k i v)
  unfolding sweep
  sweep_kept k zero v d = d
  sweep_kept k (suc i) v d = raise_kept k i (sweep k i (raise k i v)) (sweep_kept k i (raise k i v) (raise_kept k i v d))

  sweeps_kept : (l : List Kind) (v : Values) → Kept v → Kept (sweeps l v)
  unfolding sweeps
  sweeps_kept [] v d = d
  sweeps_kept (k ∷ l) v d = sweeps_kept l (sweep k (count r k) v) (sweep_kept k (count r k) v d)

  -- a rule gains on an entry of its body what it gives above it
  gains : (v : Values) → Kept v → (k : Kind) (i : ℕ) → on k i ≡ true → (y : Entry) → In y (form r k i).body → (w : ℕ) → Lead (forms_of S) (form r k i).head (gives (value_at v) (form r k i) - value_at v y + w) y w
  gains v d k i h y a w =
      let q = rule_on k i h in
      let l = subst (λ (f : Form). In y f.body → Lead (forms_of S) f.head (gives (value_at v) f) y (value_at v y)) q.1 (rule_lead (forms_of S) entry_same (value_at v) d q.0 y) a in
      record { by = l.by; fits = omega (arith, l.fits); each = l.each }

  climbs_lead : (v : Values) → Kept v → (x y : Entry) (w : ℕ) (l : List Name) → climbs v x y w l ≡ true → Lead (forms_of S) y w x 0 → DerOf S x unbounded
  unfolding climbs
  climbs_lead v d x y w [] h g =
      pump (forms_of S) x w 0 (subst (λ (i : Entry). Lead (forms_of S) i w x 0) (same_is y x (and_true_left (same y x) (ltb 0 w) h)) g) (ltb-true 0 w (and_true_right (same y x) (ltb 0 w) h))
  climbs_lead v d x y w ((k, i) ∷ l) h g =
      let f = form r k i in
      let t = gives (value_at v) f - value_at v y + w in
      let rest = climbs v x f.head t l in
      let b = and_true_right (on k i) (among y f.body && rest) h in
      let a = among_in y f.body (and_true_left (among y f.body) rest b) in
      climbs_lead v d x f.head t l (and_true_right (among y f.body) rest b) (lead_trans (forms_of S) (gains v d k i (and_true_left (on k i) _ h) y a w) g)

  move_kept : (m : Move) (v : Values) → Kept v → Kept (move m v)
  unfolding move
  move_kept round v d = sweeps_kept kinds v d
  move_kept (leap l) v d = let x = last_head (size 0) l in kept_if (climbs v x x 0 l) v x unbounded d (λ h. climbs_lead v d x x 0 l h (lead_refl (forms_of S) x 0))

  moves_kept : (l : List Move) (v : Values) → Kept v → Kept (moves l v)
  unfolding moves
  moves_kept [] v d = d
  moves_kept (m ∷ l) v d = moves_kept l (move m v) (move_kept m v d)

  zeros_kept : Kept zeros
  zeros_kept =
      let z : (n x : ℕ) (y : Entry) → DerOf S y (at (replicate n 0) x) = λ n x y. rw (at_zeros n x) none in
      entry_all (DerOf S) zeros
      (λ x. z (4 * (r.functions + r.nodes)) x (size x))
      (λ n. z r.nodes n (along After n))
      (λ n. z r.nodes n (along Before n))
      (λ n. z r.nodes n (along Through n))

  -- ---- what is settled is closed

  abbrev Holds : Values → Form → Type 0
  Holds v f = gives (value_at v) f ≤ value_at v f.head

  quiet_at : (v : Values) (k : Kind) → quiet v k ≡ true → (i : ℕ) → i < count r k → asks k i ≡ true → Holds v (form r k i)
  unfolding quiet
  quiet_at v k q i h b = ⊎_elim risen (ltb-false old new) (either_way (ltb old new))
    where
      old : ℕ
      old = value_at v (form r k i).head

      new : ℕ
      new = gives (value_at v) (form r k i)

      one : Bool
      one = any (λ i. raises k i v) (count r k)

      risen : ltb old new ≡ true → new ≤ old
      risen e = not_both one (any_some (λ i. raises k i v) (count r k) i h (rw (lt-ltb i (count r k) h, b, e) refl)) (not-true one q)

  settled_closed : (v : Values) → settled v ≡ true → (q : RuleOf S) → Holds v (form_of q)
  unfolding settled
  settled_closed v h q = let x = number_of r synchronising reached choice q in subst (Holds v) x.4 (quiet_at v x.0 (all_kinds (quiet v) h x.0) x.1 x.2 x.3)

  pub run_solved : (plan : List Move) → settled (run plan) ≡ true → Solved (program_from r) synchronising reached choice (value_at (run plan))
  unfolding run
  run_solved plan h = record { derived = moves_kept plan zeros zeros_kept; closed = settled_closed (run plan) h }

pub run_sizes : (r : Rows) → WellFormed (program_from r) → (set reached : ℕ → Bool) → Synchronising (program_from r) set → Reached (program_from r) set reached → (choice : ℕ → ℕ) (plan : List Move) → settled r set reached choice (run r set reached choice plan) ≡ true → SizesOf (program_from r) set choice (at (run r set reached choice plan).sizes) (at (run r set reached choice plan).after) (at (run r set reached choice plan).before)
run_sizes r w set reached s q choice plan h =
    let v = value_at (run r set reached choice plan) in
    let x = run_solved r set reached choice plan h in
    record {
      least = solved_least (program_from r) set reached choice w s q v x;
      after_is = solved_after (program_from r) set reached choice w s q v x;
      before_is = solved_before (program_from r) set reached choice w s q v x;
    }
