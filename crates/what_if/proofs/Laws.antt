-- A list and the call for one choice: what is said of each choice of a list is what the call for that choice says, and a list is refused
-- for a byte exactly when that call is for one of its parts.
use Prim.Native.Nat.{ℕ, ◌+◌, ◌*◌, ◌/◌, ◌%◌, ◌<◌, ◌≤◌}
use mathlib.Core.Path.{◌≡◌, refl, sym, ap, ◌∙◌}
use mathlib.Core.Bool.{Bool, true, false, true≢false}
use mathlib.Core.List.{List}
use native.Mathlib.Nat.{mul-add-mod_self_left, mod-eq_of_lt, mod-lt, div-add-mod, div-lt_iff_lt-mul, mul_comm, zero-mul}
use native.Mathlib.Decide.{dec_lt}
use native.Mathlib.Omega.{arith}
use lib.Dec.{ltb}
use lib.ListN.{length}
use Rattle.std.specs.Prelude.{cond, Option, None, Some, Ok, Err}
use Rattle.std.specs.Prelude.{Result as CodeResult}
use Rattle.table.specs.Below.{earliest}
use Rattle.table.specs.Checks.{Accepted}
use Rattle.table.specs.Program.{program_of}
use Rattle.table.specs.declared.refusal.Refused.{Refused}
use Rattle.table.proofs.Booleans.{same_test, not_both}
use Rattle.table.proofs.Below.{earliest_none, earliest_some, earliest_found, earliest_passed, earliest_before}
use Rattle.size.specs.Numbers.{at}
use Rattle.sync.specs.Words.{bit}
use Rattle.table.specs.Result.{Result, done, refused, room_result}
use Rattle.sizes.specs.Call.{Call, call, choice_of, outside, call_result, LeavesFor}
use Rattle.table.proofs.Results.{is_done}
use Rattle.table.proofs.Results.{long_enough}
use Rattle.sizes.proofs.Calls.{byte_refused, sizes_decide}
use Rattle.sizes.proofs.Laws.{sizes_unique}
use Rattle.safety.specs.Call.{Answers as SafetyAnswers}
use Rattle.what_if.specs.Call.{ListCall, nodes_of, entries_of, part, wrong_number, wanted, outside_list, needed, what_if_result, Safeties, Answers, LeavesSets}
use Rattle.what_if.proofs.Calls as list
use Rattle.what_if.proofs.Parts.{part_within, part_long, part_at}

-- the call for choice i of a list
abbrev pub single : ListCall → (i buffer : ℕ) → Call
single x i buffer = call x.table (part (nodes_of x.table) i x.choices) buffer

-- the byte of a choice stands in the list, and is outside in the one where it is in the other
pub outside_part : (t choices : List ℕ) (i n : ℕ) → n < nodes_of t → outside t n (choice_of (part (nodes_of t) i choices) n) ≡ outside_list t choices (nodes_of t * i + n)
unfolding outside_list
outside_part t choices i n h = rw (mul-add-mod_self_left (nodes_of t) i n, mod-eq_of_lt h, part_at (nodes_of t) i n choices h) refl

-- ---- what is answered

module _ (x : ListCall) (valid : list.Valid x) (i : ℕ) (h : i < x.number) where
  single_long : length (part (nodes_of x.table) i x.choices) ≡ nodes_of x.table
  single_long = part_long (nodes_of x.table) i x.choices (omega (arith, valid.long, part_within (nodes_of x.table) h))

  none_here : (n : ℕ) → n < nodes_of x.table → outside x.table n (choice_of (part (nodes_of x.table) i x.choices) n) ≡ false
  none_here n l =
      outside_part x.table x.choices i n l
      ∙ valid.none_outside (nodes_of x.table * i + n) (omega (arith, l, valid.long, part_within (nodes_of x.table) h))

  single_done : (buffer : ℕ) → entries_of x.table ≤ buffer → done ≡ call_result (single x i buffer)
  single_done buffer b = long_enough _ buffer b ∙ sizes_decide (single x i buffer) valid.accepted_is single_long refl (earliest_none _ _ none_here) (entries_of x.table) refl

  single_safe : {bits buffer : ℕ} → Safeties x.table x.choices x.number bits → entries_of x.table ≤ buffer → (answer : CodeResult Bool Refused) → SafetyAnswers (single x i buffer) answer → answer ≡ Ok (bit bits i)
  single_safe {bits} {buffer} s b (Err r) a = absurd (true≢false (ap is_done (single_done buffer b ∙ sym a)))
  single_safe {bits} s b (Ok safe) a = ap Ok (same_test safe (bit bits i) (λ e. (s.safe_is i h).1 (a.1.0 e)) (λ f. a.1.1 ((s.safe_is i h).0 f)))

  single_leaves : {old new mine yours : List ℕ} → LeavesSets x.table x.choices x.number old new → LeavesFor x.table (part (nodes_of x.table) i x.choices) mine done yours → (y : ℕ) → y < entries_of x.table → at yours y ≡ at (part (entries_of x.table) i new) y
  single_leaves {old} {new} sets one y l =
      let many = sets.set i h in
      one.2.written y l ∙ sizes_unique (program_of x.table) (choice_of (part (nodes_of x.table) i x.choices)) one.0 many.0 one.1 many.1 y l ∙ sym (many.2.written y l)

-- So, in so many words: the call for choice i, with the same table, part i of the list and a buffer that is long enough,
pub record AsSingle (x : ListCall) (bits : ℕ) (new : List ℕ) (i buffer : ℕ) : Type 0 where
  -- is not refused,
  pub not_refused : done ≡ call_result (single x i buffer)
  -- says safe exactly when bit i is 1,
  pub says : (answer : CodeResult Bool Refused) → SafetyAnswers (single x i buffer) answer → answer ≡ Ok (bit bits i)
  -- and leaves the sizes that stand in the list's set i.
  pub leaves : {mine yours : List ℕ} → LeavesFor x.table (part (nodes_of x.table) i x.choices) mine done yours → (y : ℕ) → y < entries_of x.table → at yours y ≡ at (part (entries_of x.table) i new) y

pub each_as_single : (x : ListCall) {bits : ℕ} {old new : List ℕ} → Answers x (Ok bits) → LeavesSets x.table x.choices x.number old new → (i buffer : ℕ) → i < x.number → entries_of x.table ≤ buffer → AsSingle x bits new i buffer
each_as_single x answers sets i buffer h b =
    let valid = list.done_valid x answers.0 in
    record {
      not_refused = single_done x valid i h buffer b;
      says = single_safe x valid i h answers.1 b;
      leaves = single_leaves x valid i h sets;
    }

-- ---- what is refused

abbrev number_in : Result → ℕ
number_in done = 0
number_in (refused n p) = n

abbrev place_in : Result → ℕ
place_in done = 0
place_in (refused n p) = p

le_or : (p at : ℕ) → (at < p → ⊥) → p ≤ at
le_or p at h = go (dec_lt at p)
  where
    go : Dec (at < p) → p ≤ at
    go (yes l) = absurd (h l)
    go (no n) = omega (arith, n)

-- where a call comes to a refusal under 9, the byte that it looks for is there: else it would come to another refusal or to none
byte_told : (o : Option ℕ) {r : Result} (m needed buffer : ℕ) → refused 9 m ≡ r → ((q : ℕ) → o ≡ Some q → refused 9 q ≡ r) → (o ≡ None → room_result needed buffer ≡ r) → o ≡ Some m
byte_told (Some q) m needed buffer e found none = ap Some (ap place_in (found q refl ∙ sym e))
byte_told None m needed buffer e found none = absurd (other (ltb buffer needed) (e ∙ sym (none refl)))
  where
    other : (b : Bool) → refused 9 m ≡ cond b (refused 11 needed) done → ⊥
    other true q = omega (arith, ap number_in q)
    other false q = true≢false (sym (ap is_done q))

byte_of : (y : Call) → Accepted y.table → length y.choice ≡ (program_of y.table).nodes → (m : ℕ) → refused 9 m ≡ call_result y → earliest (λ n. outside y.table n (choice_of y.choice n)) (program_of y.table).nodes ≡ Some m
byte_of y a l m e = byte_told _ m (entries_of y.table) y.buffer e (byte_refused y a l refl) (λ n. sizes_decide y a l refl n (entries_of y.table) refl)

module _ (x : ListCall) (a : Accepted x.table) (few : wrong_number x ≡ false) (long : length x.choices ≡ wanted x) where
  byte_of_list : (p : ℕ) → refused 9 p ≡ what_if_result x → earliest (outside_list x.table x.choices) (length x.choices) ≡ Some p
  byte_of_list p e = byte_told _ p (needed x) x.buffer e (list.byte_refused x a few long refl) (λ n. list.sizes_decide x a few long refl n (needed x) refl)

  -- the part that position p lies in
  module _ (i : ℕ) (h : i < x.number) where
    part_size : length (part (nodes_of x.table) i x.choices) ≡ nodes_of x.table
    part_size = part_long (nodes_of x.table) i x.choices (omega (arith, long, part_within (nodes_of x.table) h))

    -- The list is refused for a byte if the call for one of its parts is, at that place carried over or before it.
    pub refused_if : (m buffer : ℕ) → refused 9 m ≡ call_result (single x i buffer) → (p : ℕ) × (p ≤ nodes_of x.table * i + m) × (refused 9 p ≡ what_if_result x)
    refused_if m buffer e =
        let bad = earliest_found _ _ m (byte_of (single x i buffer) a part_size m e) in
        let within : nodes_of x.table * i + m < length x.choices = omega (arith, bad.0, long, part_within (nodes_of x.table) h) in
        first (earliest (outside_list x.table x.choices) (length x.choices)) refl (nodes_of x.table * i + m) within (sym (outside_part x.table x.choices i m bad.0) ∙ bad.1)
      where
        first : (o : Option ℕ) → earliest (outside_list x.table x.choices) (length x.choices) ≡ o → (q : ℕ) → q < length x.choices → outside_list x.table x.choices q ≡ true → (p : ℕ) × (p ≤ q) × (refused 9 p ≡ what_if_result x)
        first None f q within bad = absurd (not_both _ bad (earliest_passed _ _ f q within))
        first (Some p) f q within bad = (p, le_or p q (λ l. not_both _ bad (earliest_before _ _ p f q l)), list.byte_refused x a few long refl p f)

  -- And if it is, at position p, then the call for the part that p lies in is, at the place within it.
  pub refused_only : (p buffer : ℕ) → refused 9 p ≡ what_if_result x → (p / nodes_of x.table < x.number) × (refused 9 (p % nodes_of x.table) ≡ call_result (single x (p / nodes_of x.table) buffer))
  refused_only p buffer e =
      let first = byte_of_list p e in
      let bad = earliest_found _ _ p first in
      let nodes = nodes_of x.table in
      let i = p / nodes in
      let m = p % nodes in
      let some : 0 < nodes = some_node (omega (arith, bad.0, long)) in
      let h : i < x.number = (div-lt_iff_lt-mul {k = nodes} {x = p} {y = x.number} some).1 (omega (arith, bad.0, long, mul_comm nodes x.number)) in
      let inside : m < nodes = mod-lt p some in
      let at : nodes * i + m ≡ p = div-add-mod p nodes in
      let before : (n : ℕ) → n < m → outside x.table n (choice_of (part nodes i x.choices) n) ≡ false =
      λ n l. outside_part x.table x.choices i n (omega (arith, l, inside)) ∙ earliest_before _ _ p first (nodes * i + n) (omega (arith, at, l))
      in
      (h, byte_refused (single x i buffer) a (part_size i h) refl m (earliest_some _ nodes m inside before (outside_part x.table x.choices i m inside ∙ ap (outside_list x.table x.choices) at ∙ bad.1)))
    where
      -- a list of no bytes has none outside
      some_node : p < nodes_of x.table * x.number → 0 < nodes_of x.table
      some_node l = go (dec_lt 0 (nodes_of x.table))
        where
          go : Dec (0 < nodes_of x.table) → 0 < nodes_of x.table
          go (yes h) = h
          go (no n) =
              let none : nodes_of x.table ≡ 0 = omega (arith, n) in
              absurd (omega (arith, l, ap (λ (k : ℕ). k * x.number) none, zero-mul x.number))
