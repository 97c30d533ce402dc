-- What rules derive and what gains on what; the invariant of values with causes, and what keeps it.
use Prim.Native.Nat.{ℕ, zero, suc, ◌+◌, ◌<◌, ◌≤◌, max}
use mathlib.Core.Path.{◌≡◌, refl, sym, ap, ◌∙◌, subst}
use mathlib.Core.List.{List, [], ◌∷◌}
use mathlib.Core.Logic.{inl, inr}
use lib.ListN.{length, get_or, set}
use lib.Seq.{get_or-set_same, get_or-set_other}
use native.Mathlib.Omega.{arith}
use native.Mathlib.Decide.{ℕ_discrete, dec_le}
use Rattle.size.specs.Size.{unbounded, cap}
use Rattle.solver.specs.System.{Form, sum_of, gives, Derives, none, rule}
use Rattle.solver.specs.Words.{entry_count}
use Rattle.solver.specs.Causes.{Lead, Ok, Chain, met, via, uncaused, Put, Risen, rises, leaps}

-- ---- sums of values

pub data In {E : Type 0} (y : E) : List E → Type 0 where
  here : {l : List E} → In y (y ∷ l)
  there : {z : E} {l : List E} → In y l → In y (z ∷ l)

abbrev pub Below : {E : Type 0} → (E → ℕ) → (E → ℕ) → Type 0
Below {E} u v = (x : E) → u x ≤ v x

module _ {E : Type 0} where
  sum_mono : (u v : E → ℕ) → Below u v → (l : List E) → sum_of u l ≤ sum_of v l
  sum_mono u v b [] = omega arith
  sum_mono u v b (x ∷ l) = omega (arith, b x, sum_mono u v b l)

  -- the sum without one entry, which does not fall where values rise
  split_in : (v : E → ℕ) {y : E} {l : List E} → In y l → (rest : ℕ) × (sum_of v l ≡ rest + v y) × ((u : E → ℕ) → Below v u → rest + u y ≤ sum_of u l)
  split_in v (here {l}) = (sum_of v l, omega arith, λ u b. omega (arith, sum_mono v u b l))
  split_in v (there {z} {l} i) = let p = split_in v i in (v z + p.0, omega (arith, p.1), λ u b. omega (arith, p.2 u b, b z))

-- ---- what is derived, and what gains on what

module _ {E R : Type 0} (form : R → Form E) where
  pub der_le : {x : E} {t : ℕ} → Derives form x t → t ≤ unbounded
  der_le none = omega arith
  der_le (rule r v e d h) = omega arith

  pub der_less : {x : E} {t : ℕ} (u : ℕ) → u ≤ t → Derives form x t → Derives form x u
  der_less {x} u h none = let e : u ≡ 0 = omega arith in rw e none
  der_less u h (rule r v e d k) = rule {t = u} r v e d (omega arith)

  pub lead_more : {x y : E} {t u : ℕ} (v : ℕ) → u ≤ v → Lead form x t y u → Lead form x t y v
  lead_more v h l = record { by = l.by; fits = omega (arith, l.fits); each = l.each }

  pub lead_trans : {x y z : E} {t u w : ℕ} → Lead form x t y u → Lead form y u z w → Lead form x t z w
  lead_trans {x} a b = record {
    by = a.by + b.by;
    fits = omega (arith, a.fits, b.fits);
    each = λ w p. der_less (cap (a.by + b.by + w)) (omega arith) (a.each (cap (b.by + w)) (b.each w p));
  }

  pub lead_refl : (x : E) (t : ℕ) → Lead form x t x t
  lead_refl x t = record { by = 0; fits = omega arith; each = λ w p. der_less (cap (0 + w)) (omega arith) p }

  -- what gains on itself reaches every size
  pub pump : (x : E) (t u : ℕ) → Lead form x t x u → u < t → Derives form x unbounded
  pump x t u g h = iter unbounded
    where
      iter : (i : ℕ) → Derives form x (cap i)
      iter zero = der_less (cap zero) (omega arith) none
      iter (suc i) = der_less (cap (suc i)) (omega (arith, g.fits)) (g.each (cap i) (iter i))

  module _ (same : (x y : E) → Dec (x ≡ y)) where
    -- v with t at y
    with_der : (v : E → ℕ) → ((z : E) → Derives form z (v z)) → (y : E) (t : ℕ) → Derives form y t → (u : E → ℕ) × Below v u × (t ≤ u y) × ((z : E) → Derives form z (u z))
    with_der v p y t q = (λ z. max (v z) (new z (same z y)), λ z. omega arith, top (same y y), λ z. fits z (same z y))
      where
        new : (z : E) → Dec (z ≡ y) → ℕ
        new z (yes e) = t
        new z (no e) = 0

        top : (d : Dec (y ≡ y)) → t ≤ max (v y) (new y d)
        top (yes e) = omega arith
        top (no e) = absurd (e refl)

        more : (z : E) → Derives form z t → Dec (v z ≤ t) → Derives form z (max (v z) t)
        more z i (yes h) = der_less (max (v z) t) (omega arith) i
        more z i (no h) = der_less (max (v z) t) (omega arith) (p z)

        fits : (z : E) (d : Dec (z ≡ y)) → Derives form z (max (v z) (new z d))
        fits z (yes e) = more z (subst (λ (i : E). Derives form i t) (sym e) q) (dec_le (v z) t)
        fits z (no e) = der_less (max (v z) 0) (omega arith) (p z)

    -- what a rule asks for gains on each entry of its body
    pub rule_lead : (v : E → ℕ) → ((z : E) → Derives form z (v z)) → (r : R) (y : E) → In y (form r).body → Lead form (form r).head (gives v (form r)) y (v y)
    rule_lead v d r y i =
        let p = split_in v i in
        record {
          by = (form r).base + p.0;
          fits = omega (arith, p.1);
          each = λ w q.
              let m = with_der v d y w q in
              rule {t = cap ((form r).base + p.0 + w)} r m.0 refl m.3 (omega (arith, p.2 m.0 m.1, m.2));
        }

-- ---- chains of causes

pub chain_met : (k : ℕ → ℕ) (z x : ℕ) → x ≡ z → x < entry_count → Chain k z x
chain_met k z x e h = subst (Chain k z) (sym e) (met (omega arith))

pub chain_via : (k : ℕ → ℕ) (z x y : ℕ) → y ≡ k x → x < entry_count → Chain k z y → Chain k z x
chain_via k z x y e h c = via h (subst (Chain k z) e c)

chain_low : {k : ℕ → ℕ} {z x : ℕ} → Chain k z x → x < entry_count
chain_low (met h) = h
chain_low (via h c) = h

-- ---- values and causes, changed at one entry

pub put_set : {A : Type 0} (f : A → ℕ) (d : A) (l : List A) (x : ℕ) (a : A) → x < length l → Put (λ y. f (get_or l y d)) x (f a) (λ y. f (get_or (set l x a) y d))
put_set f d l x a h = record { there = ap f (get_or-set_same l x a d h); other = λ y n. ap f (get_or-set_other l x y a d n) }

pub put_below : {v w : ℕ → ℕ} {x t : ℕ} → Put v x t w → v x ≤ t → Below v w
put_below {v} {w} {x} {t} p h y = go (ℕ_discrete y x)
  where
    go : Dec (y ≡ x) → v y ≤ w y
    go (yes e) = omega (arith, ap v e, ap w e, p.there)
    go (no e) = omega (arith, p.other y e)

module _ {R : Type 0} (form : R → Form ℕ) where
  chain_lead : {v k : ℕ → ℕ} {z x : ℕ} → Ok form v k → Chain k z x → Lead form x (v x) z (v z)
  chain_lead {v} {k} {z} o (met h) = lead_refl form z (v z)
  chain_lead {v} {k} {z} o (via {x} h c) = lead_trans form (o.leads x h (chain_low c)) (chain_lead o c)

  -- an entry may rise to what it derives, with a cause on which it gains, or with none
  put_ok : {v w k l : ℕ → ℕ} (x t c : ℕ) → Ok form v k → v x ≤ t → Derives form x t → (c < entry_count → Lead form x t c (v c)) → Put v x t w → Put k x c l → Ok form w l
  put_ok {v} {w} {k} {l} x t c o h d g p q = record { sound = λ y. sd y (ℕ_discrete y x); leads = λ y i j. ld y i j (ℕ_discrete y x) }
    where
      up : Below v w
      up = put_below p h

      sd : (y : ℕ) → Dec (y ≡ x) → Derives form y (w y)
      sd y (yes e) = subst (λ (i : ℕ). Derives form i (w i)) (sym e) (rw p.there d)
      sd y (no e) = rw (p.other y e) (o.sound y)

      ld : (y : ℕ) → y < entry_count → l y < entry_count → Dec (y ≡ x) → Lead form y (w y) (l y) (w (l y))
      ld y i j (yes e) =
          let f : l y ≡ c = ap l e ∙ q.there in
          let a : w y ≡ t = ap w e ∙ p.there in
          rw (a, f, e) (lead_more form (w c) (up c) (g (omega (arith, f))))
      ld y i j (no e) =
          let f : l y ≡ k y = q.other y e in
          rw (p.other y e, f) (lead_more form (w (k y)) (up (k y)) (o.leads y i (omega (arith, f))))

  pub uncaused_ok : (v k : ℕ → ℕ) → ((x : ℕ) → Derives form x (v x)) → ((x : ℕ) → x < entry_count → entry_count ≤ k x) → Ok form v k
  uncaused_ok v k d c = record { sound = d; leads = λ x h i. absurd (omega (arith, c x h)) }

  module _ {v k : ℕ → ℕ} (o : Ok form v k) (r : R) where
    abbrev x : ℕ
    x = (form r).head

    lead_by : (y : ℕ) → In y (form r).body → Lead form x (gives v (form r)) y (v y)
    lead_by y i = rule_lead form ℕ_discrete v o.sound r y i

    -- a plain rise
    risen_ok : {w l : ℕ → ℕ} (c : ℕ) → v x ≤ gives v (form r) → In c (form r).body → Put v x (gives v (form r)) w → Put k x c l → Ok form w l
    risen_ok c h i p q = put_ok x (gives v (form r)) c o h (rule {t = gives v (form r)} r v refl o.sound (omega arith)) (λ j. lead_by c i) p q

    -- a rise of what caused itself
    leapt_ok : {w l : ℕ → ℕ} (y c : ℕ) → v x < gives v (form r) → In y (form r).body → Chain k x y → entry_count ≤ c → Put v x unbounded w → Put k x c l → Ok form w l
    leapt_ok y c h i b e p q =
        put_ok x unbounded c o (der_le form (o.sound x))
        (pump form x (gives v (form r)) (v x) (lead_trans form (lead_by y i) (chain_lead o b)) h)
        (λ j. absurd (omega arith)) p q

  -- what a rule does that asks for more than there is
  module _ {v w k l : ℕ → ℕ} {t : ℕ} (o : Ok form v k) (r : R) where
    leap_ok : (y : ℕ) → In y (form r).body → v (form r).head < gives v (form r) → Chain k (form r).head y → Put k (form r).head uncaused l → t ≡ unbounded → Put v (form r).head t w → Ok form w l
    leap_ok y i m c q e p = leapt_ok o r y uncaused m i c (omega arith) (rw e at p) q

    rise_here : (y z : ℕ) → In y (form r).body → In z (form r).body → v (form r).head < gives v (form r) → Risen k (form r).head y z (gives v (form r)) l t → Put v (form r).head t w → Ok form w l
    rise_here y z i j m (rises c (inl e) q f) p = risen_ok o r c (omega arith) (rw e i) (rw f at p) q
    rise_here y z i j m (rises c (inr e) q f) p = risen_ok o r c (omega arith) (rw e j) (rw f at p) q
    rise_here y z i j m (leaps (inl c) q f) p = leap_ok y i m c q f p
    rise_here y z i j m (leaps (inr c) q f) p = leap_ok z j m c q f p

    pub rise_ok : (f : Form ℕ) (y z : ℕ) → f ≡ form r → In y f.body → In z f.body → v f.head < gives v f → Risen k f.head y z (gives v f) l t → Put v f.head t w → Ok form w l
    rise_ok f y z e = subst (λ (g : Form ℕ). In y g.body → In z g.body → v g.head < gives v g → Risen k g.head y z (gives v g) l t → Put v g.head t w → Ok form w l) (sym e) (rise_here y z)
