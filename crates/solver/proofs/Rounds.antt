-- What one rise does to the values, and to a turn over the rules.
use Prim.Native.Nat.{ℕ, zero, suc, ◌+◌, ◌-◌, ◌*◌, ◌<◌, ◌≤◌}
use mathlib.Core.Path.{◌≡◌, refl, sym, ap, subst}
use mathlib.Core.Bool.{true, false}
use mathlib.Core.List.{List, ◌∷◌}
use mathlib.Core.Logic.{◌⊎◌, inl, inr, ⊎_elim}
use native.Mathlib.Omega.{arith}
use native.Mathlib.Decide.{ℕ_discrete, dec_lt}
use lib.ListN.{length}
use Rattle.std.specs.Prelude.{Option, Some, None, unwrap_or}
use Rattle.size.specs.Size.{unbounded}
use Rattle.size.specs.Numbers.{at}
use Rattle.solver.specs.System.{Form, gives, Derives, none, rule, Solves}
use Rattle.solver.specs.Words.{entry_count, word_form, Named, Item, word, start, item_form}
use Rattle.solver.specs.Causes.{uncaused, Put, Risen, rises, leaps}
use Rattle.solver.specs.Rounds.{others_of, rule_form, second_of, Applied, held, rose, room, Held, HeldFrom, Turn, Turned, Settling}
use Rattle.solver.specs.declared.rule.Rule.{Rule}
use Rattle.solver.proofs.Rises.{In, here, there, put_below, uncaused_ok, rise_ok}

-- ---- what is left to rise

room_same : (n : ℕ) {v w : ℕ → ℕ} {x t : ℕ} → Put v x t w → n ≤ x → room n w ≡ room n v
unfolding room
room_same zero p h = refl
room_same (suc n) p h = omega (arith, room_same n p (omega arith), p.other n (λ e. absurd (omega arith)))

-- it falls with each rise
room_less : (n : ℕ) {v w : ℕ → ℕ} {x t : ℕ} → Put v x t w → x < n → v x < t → t ≤ unbounded → room n w < room n v
unfolding room
room_less zero p h m b = absurd (omega arith)
room_less (suc n) {v} {w} {x} {t} p h m b = go (ℕ_discrete x n) (λ l. room_less n p l m b)
  where
    go : Dec (x ≡ n) → (x < n → room n w < room n v) → room n w + (unbounded - w n) < room n v + (unbounded - v n)
    go (yes e) f = omega (arith, room_same n p (omega arith), ap w e, ap v e, p.there)
    go (no e) f = omega (arith, f (omega (arith, e)), p.other n (λ q. e (sym q)))

pub room_le : (n : ℕ) (v : ℕ → ℕ) → room n v ≤ 65536 * n
unfolding room
room_le zero v = omega arith
room_le (suc n) v = omega (arith, room_le n v)

-- ---- a rule that is looked at

second_in : (r : Rule) → In (second_of r) (rule_form r).body
second_in r = go r.other
  where
    go : (o : Option ℕ) → In (unwrap_or o r.part) (r.part ∷ others_of o)
    go (Some z) = there here
    go None = here

pub head_low : {rules : List ℕ} {i : ℕ} (r : Rule) → Named rules (length rules) → i < length rules → rule_form r ≡ word_form (at rules i) → r.head < entry_count
head_low {rules} {i} r named h is = subst (λ (x : ℕ). x < entry_count) (sym (ap (λ (f : Form ℕ). f.head) is)) (named.heads i h)

pub turn_start : {rules : List ℕ} {v : ℕ → ℕ} {k : ℕ → ℕ} {stop : ℕ} → stop ≤ length rules → HeldFrom rules v stop → Turn rules v k v k 0 stop 0
turn_start h f = record {
  places = omega arith;
  ends = h;
  lasts = omega arith;
  ok = λ from o. o;
  up = λ x. omega arith;
  falls = omega arith;
  held = λ j a b c. ⊎_elim (λ d. absurd (omega arith)) (λ d. f j d b) c;
}

module _ {rules : List ℕ} {v₀ : ℕ → ℕ} {k₀ : ℕ → ℕ} {v : ℕ → ℕ} {k : ℕ → ℕ} {i end last : ℕ} (turn : Turn rules v₀ k₀ v k i end last) (more : i < end) (r : Rule) (is : rule_form r ≡ word_form (at rules i)) where
  i_low : i < length rules
  i_low = omega (arith, turn.ends)

  -- the rule asks for no more than there is: it holds
  pub turn_held : {w l : ℕ → ℕ} {end' last' : ℕ} → Applied r v k w l false → end' ≡ end → last' ≡ last → Turn rules v₀ k₀ w l (i + 1) end' last'
  turn_held (held h e f) p q = rw (e, f, p, q) kept
    where
      here_held : Held rules v i
      here_held = subst (λ (f : Form ℕ). gives v f ≤ v f.head) is h

      go : (j : ℕ) → j < i + 1 → Dec (j ≡ i) → (j < i → Held rules v j) → Held rules v j
      go j b (yes s) g = rw s here_held
      go j b (no s) g = g (omega (arith, s))

      kept : Turn rules v₀ k₀ v k (i + 1) end last
      kept = record {
        places = omega arith;
        ends = turn.ends;
        lasts = omega (arith, turn.lasts);
        ok = turn.ok;
        up = turn.up;
        falls = turn.falls;
        held = λ j a b c. ⊎_elim (λ d. go j d (ℕ_discrete j i) (λ q. turn.held j a b (inl q))) (λ d. turn.held j a b (inr d)) c;
      }

  -- it asks for more: what rose is derived, and the turn goes on to its end
  pub turn_rose : {w l : ℕ → ℕ} {end' last' : ℕ} → r.head < entry_count → Applied r v k w l true → end' ≡ length rules → last' ≡ i + 1 → Turn rules v₀ k₀ w l (i + 1) end' last'
  turn_rose {w} {l} {end'} {last'} low (rose t m risen p) at_end at_last = record {
    places = omega (arith, i_low);
    ends = omega arith;
    lasts = omega arith;
    ok = λ from o. rise_ok (item_form rules (length rules) from) (turn.ok from o) (word i i_low) (rule_form r) r.part (second_of r) is here (second_in r) m risen p;
    up = λ x. omega (arith, turn.up x, put_below p up x);
    falls = omega (arith, turn.falls, room_less entry_count p low (rise risen) (fits risen));
    held = λ j a b c. ⊎_elim (λ d. absurd (omega arith)) (λ d. absurd (omega arith)) c;
  }
    where
      rise : Risen k r.head r.part (second_of r) (gives v (rule_form r)) l t → v r.head < t
      rise (rises c n q f) = omega arith
      rise (leaps c q f) = omega arith

      fits : Risen k r.head r.part (second_of r) (gives v (rule_form r)) l t → t ≤ unbounded
      fits (rises c n q f) = omega arith
      fits (leaps c q f) = omega arith

      up : v r.head ≤ t
      up = omega (arith, rise risen)

-- no rule is left in the turn
pub turn_over : {rules : List ℕ} {v₀ v : ℕ → ℕ} {k₀ k : ℕ → ℕ} {i end last given : ℕ} → Turn rules v₀ k₀ v k i end last → (length rules ≤ i) ⊎ (i ≡ end) → given ≡ last → Turned rules v₀ k₀ v k given
turn_over {rules} {v₀} {v} {k₀} {k} {i} {end} {last} turn q is = rw is record {
  places = omega arith;
  ends = omega arith;
  lasts = omega (arith, turn.places, turn.ends, turn.lasts);
  ok = turn.ok;
  up = turn.up;
  falls = turn.falls;
  held = λ j a b c. turn.held j a b (⊎_elim (λ d. inl (omega arith)) (λ d. where_is j d (dec_lt j i)) q);
}
  where
    where_is : (j : ℕ) → i ≡ end → Dec (j < i) → (j < i) ⊎ (end ≤ j)
    where_is j e (yes h) = inl h
    where_is j e (no h) = inr (omega arith)

-- ---- turn by turn

pub settling_start : {rules : List ℕ} {v k : ℕ → ℕ} → ((x : ℕ) → v x ≤ unbounded) → ((x : ℕ) → x < entry_count → k x ≡ uncaused) → Settling rules v v k (length rules) 0
settling_start {rules} {v} {k} sized none_is = record {
  ok = uncaused_ok (item_form rules (length rules) v) v k derived (λ x h. omega (arith, none_is x h));
  above = λ x. omega arith;
  stops = omega arith;
  held = λ j a b. absurd (omega arith);
  few = omega (arith, room_le entry_count v);
}
  where
    derived : (x : ℕ) → Derives (item_form rules (length rules) v) x (v x)
    derived x = rule {t = v x} (start x) (λ y. 0) refl (λ y. none) (omega (arith, sized x))

module _ {rules : List ℕ} {from : ℕ → ℕ} {v : ℕ → ℕ} {k : ℕ → ℕ} where
  module _ {w : ℕ → ℕ} {l : ℕ → ℕ} {stop turns last : ℕ} (s : Settling rules from v k stop turns) (turn : Turned rules v k w l last) where
    -- something has risen: once more
    pub settling_on : 0 < last → Settling rules from w l last (turns + 1)
    settling_on n = record {
      ok = turn.ok from s.ok;
      above = λ x. omega (arith, s.above x, turn.up x);
      stops = turn.lasts;
      held = λ j a b. turn.held j a b (inl b);
      few = omega (arith, s.few, turn.falls);
    }

    -- nothing has risen: all rules hold
    pub settled : last ≡ 0 → Solves (item_form rules (length rules) from) w
    settled e = record { derived = (turn.ok from s.ok).sound; closed = closed }
      where
        closed : (r : Item (length rules)) → gives w (item_form rules (length rules) from r) ≤ w (item_form rules (length rules) from r).head
        closed (word j h) = turn.held j (omega arith) h (inl h)
        closed (start x) = omega (arith, s.above x, turn.up x)
