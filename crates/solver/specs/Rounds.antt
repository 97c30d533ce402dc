-- A turn over the rules, rule by rule. Helps proofs only.
use Rattle.std.specs.Prelude.{ℕ, zero, suc, ◌+◌, ◌-◌, ◌<◌, ◌≤◌, min, ◌≡◌, Bool, true, false, List, [], ◌∷◌, ◌⊎◌, Option, Some, None, unwrap_or, length, get_or}
use Rattle.size.specs.Size.{unbounded}
use Rattle.size.specs.Numbers.{at}
use Rattle.solver.specs.System.{Form, gives}
use Rattle.solver.specs.Words.{entry_count, head_of, word_form, item_form}
use Rattle.solver.specs.Causes.{Ok, uncaused, Put, Risen}
use Rattle.solver.specs.declared.causes.Causes.{Causes}
use Rattle.solver.specs.declared.causes.Rise.{Rise}
use Rattle.solver.specs.declared.rule.Rule.{Rule}

-- What a rule of the code says: the same as its word.
abbrev pub others_of : Option ℕ → List ℕ
others_of (Some z) = z ∷ []
others_of None = []

abbrev pub rule_form : Rule → Form ℕ
rule_form r = record { head = r.head; base = r.base; body = r.part ∷ others_of r.other }

-- the other entry is a size
abbrev pub AmongSizes : Option ℕ → Type 0
AmongSizes (Some z) = z < 2304
AmongSizes None = Unit {0}

-- what is said of an entry that never rose
abbrev pub never : Rise
never = record { cause = None; stamp = 0 }

abbrev pub cause_of : Rise → ℕ
cause_of r = unwrap_or r.cause uncaused

-- the cause of each entry
abbrev pub cause_at : Causes → ℕ → ℕ
cause_at c x = cause_of (get_or c.rises x never)

-- the second entry of a rule's body, or the first again
abbrev pub second_of : Rule → ℕ
second_of r = unwrap_or r.other r.part

-- What a rule does to the values and the causes, and whether its head rises: it does if the rule asks for more than there is.
pub data Applied (r : Rule) (v : ℕ → ℕ) (k : ℕ → ℕ) (w : ℕ → ℕ) (l : ℕ → ℕ) : Bool → Type 0 where
  held : gives v (rule_form r) ≤ v r.head → w ≡ v → l ≡ k → Applied r v k w l false
  rose : (t : ℕ) → v r.head < gives v (rule_form r) → Risen k r.head r.part (second_of r) (gives v (rule_form r)) l t → Put v r.head t w → Applied r v k w l true

-- what is left to rise in the first n entries
unfoldable pub room : ℕ → (ℕ → ℕ) → ℕ
room zero v = 0
room (suc n) v = room n v + (unbounded - v n)

-- The j-th rule holds.
abbrev pub Held : List ℕ → (ℕ → ℕ) → ℕ → Type 0
Held rules v j = gives v (word_form (at rules j)) ≤ v (head_of (at rules j))

-- A turn over the rules has come to rule i, from values v with causes k to w and l: none has fallen. The rules looked at since the last rise
-- hold, and those from `end` on; `last` is the place behind that rise, or 0. At the end of a turn i and `end` are the number of rules.
pub record Turn (rules : List ℕ) (v : ℕ → ℕ) (k : ℕ → ℕ) (w : ℕ → ℕ) (l : ℕ → ℕ) (i end last : ℕ) : Type 0 where
  pub places : i ≤ end
  pub ends : end ≤ length rules
  pub lasts : last ≤ i
  pub ok : (from : ℕ → ℕ) → Ok (item_form rules (length rules) from) v k → Ok (item_form rules (length rules) from) w l
  pub up : (x : ℕ) → v x ≤ w x
  pub falls : room entry_count w + min 1 last ≤ room entry_count v
  pub held : (j : ℕ) → last ≤ j → j < length rules → (j < i) ⊎ (end ≤ j) → Held rules w j

-- that turn is over
abbrev pub Turned : List ℕ → (ℕ → ℕ) → (ℕ → ℕ) → (ℕ → ℕ) → (ℕ → ℕ) → ℕ → Type 0
Turned rules v k w l last = Turn rules v k w l (length rules) (length rules) last

-- the rules from a place on hold
abbrev pub HeldFrom : List ℕ → (ℕ → ℕ) → ℕ → Type 0
HeldFrom rules v i = (j : ℕ) → i ≤ j → j < length rules → Held rules v j

-- After some turns: values and causes keep the invariant, nothing is below what it started from, the rules from `stop` on hold, and the
-- turns that are counted are few.
pub record Settling (rules : List ℕ) (from v : ℕ → ℕ) (k : ℕ → ℕ) (stop turns : ℕ) : Type 0 where
  pub ok : Ok (item_form rules (length rules) from) v k
  pub above : (x : ℕ) → from x ≤ v x
  pub stops : stop ≤ length rules
  pub held : HeldFrom rules v stop
  pub few : turns + room entry_count v ≤ 251658240
