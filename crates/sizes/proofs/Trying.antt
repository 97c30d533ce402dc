-- What the crates above may use of trials: numbers that hold the sizes of a choice hold the least ones,
-- zeros will do for every choice, and what was found for a smaller choice will do for a larger one.
use Prim.Native.Nat.{ℕ, ◌<◌}
use mathlib.Core.Path.{◌≡◌, ap, ◌∙◌}
use mathlib.Core.List.{List, map}
use native.Mathlib.Omega.{arith}
use native.Mathlib.Decide.{dec_lt}
use lib.ListN.{length, replicate, length-replicate}
use Rattle.sync.specs.Words.{member}
use Rattle.sync.specs.declared.Known.{Known}
use Rattle.size.specs.Size.{value_of}
use Rattle.size.specs.Numbers.{at, Written}
use Rattle.size.proofs.Maps.{at_zeros}
use Rattle.solver.specs.Values.{starts_from}
use Rattle.solver.specs.declared.solution.Solution.{Solution}
use Rattle.solver.proofs.Values.{starts_taken, starts_zero}
use Rattle.rules.specs.Choice.{AtMost}
use Rattle.rules.specs.Rules.{entries, LeastSizes}
use Rattle.rules.specs.System.{size, DerOf, none}
use Rattle.sizes.specs.Trials.{known_program, DerivedFor, FoundFor, PreparedFor, StartsFor, Holds}
use Rattle.sizes.specs.declared.trials.Prepared.{Prepared}
use Rattle.sizes.proofs.Laws.{least_alike, derived_larger}

pub zeros_derived : (known : Known) (c s : ℕ → ℕ) → ((x : ℕ) → s x ≡ 0) → DerivedFor known c s
zeros_derived known c s z = record { each = λ x. rw (z x) none }

module _ {p : Prepared} where
  -- numbers that hold the sizes of a choice hold the least ones
  pub holds_least : {c : ℕ → ℕ} {numbers : List ℕ} → PreparedFor p → (h : Holds p c numbers) → LeastSizes (known_program p.known) c h.found.sizes
  holds_least q h = (member p.known.synchronising, q.looked.set, h.found.sizes_of.least)

  -- whatever it says of nodes that do not exist
  pub holds_alike : {c d : ℕ → ℕ} {numbers : List ℕ} → ((n : ℕ) → n < (known_program p.known).nodes → c n ≡ d n) → Holds p c numbers → Holds p d numbers
  holds_alike {c} {d} e h = record {
    long = h.long;
    solution = h.solution;
    found = record {
      sizes = h.found.sizes;
      sizes_of = record { least = least_alike (known_program p.known) (member p.known.synchronising) c d h.found.sizes e h.found.sizes_of.least; after_is = h.found.sizes_of.after_is; before_is = h.found.sizes_of.before_is };
      derived = derived_larger (known_program p.known) (member p.known.synchronising) (member p.known.reached) c d h.found.sizes (λ n l. omega (arith, e n l)) h.found.derived;
      sizes_are = h.found.sizes_are;
    };
    written = h.written;
  }

  -- what was found is held by the numbers that it is written to
  pub found_held : {c : ℕ → ℕ} {f : Solution} {old new : List ℕ} → FoundFor p.known c f → length old ≡ 2304 → Written (entries (known_program p.known)) (at (map value_of f.sizes)) old new → Holds p c new
  found_held {f = f} found l w = record {
    long = w.long ∙ l;
    solution = f;
    found = found;
    written = λ x h. w.written x h ∙ found.sizes_are x h;
  }

  -- zeros will do for every choice
  pub zeros_start : {c : ℕ → ℕ} {numbers : List ℕ} → numbers ≡ replicate 2304 0 → StartsFor p c numbers
  zeros_start {c} {numbers} e = record { long = ap length e ∙ length-replicate {A = ℕ} 2304 0; derived = zeros_derived p.known c _ zero }
    where
      zero : (x : ℕ) → starts_from (entries (known_program p.known)) numbers x ≡ 0
      zero x = go (dec_lt x (entries (known_program p.known)))
        where
          go : Dec (x < entries (known_program p.known)) → starts_from (entries (known_program p.known)) numbers x ≡ 0
          go (yes h) = starts_taken (entries (known_program p.known)) numbers x h ∙ ap (λ (m : List ℕ). at m x) e ∙ at_zeros 2304 x
          go (no h) = starts_zero (entries (known_program p.known)) numbers x (omega arith)

  -- what was found for a smaller choice will do for a larger one
  pub holds_start : {c d : ℕ → ℕ} {numbers : List ℕ} → AtMost (known_program p.known) c d → Holds p c numbers → StartsFor p d numbers
  holds_start {c} {d} {numbers} b h = record { long = h.long; derived = derived_larger (known_program p.known) (member p.known.synchronising) (member p.known.reached) c d _ b (record { each = λ x. each x }) }
    where
      each : (x : ℕ) → DerOf (record { program = known_program p.known; synchronising = member p.known.synchronising; reached = member p.known.reached; choice = c }) (size x) (starts_from (entries (known_program p.known)) numbers x)
      each x = go (dec_lt x (entries (known_program p.known)))
        where
          go : Dec (x < entries (known_program p.known)) → DerOf (record { program = known_program p.known; synchronising = member p.known.synchronising; reached = member p.known.reached; choice = c }) (size x) (starts_from (entries (known_program p.known)) numbers x)
          go (yes l) = rw (starts_taken (entries (known_program p.known)) numbers x l, h.written x l) (h.found.derived.each x)
          go (no l) = rw (starts_zero (entries (known_program p.known)) numbers x (omega arith)) none
