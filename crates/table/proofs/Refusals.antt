-- Laws of a list of checks: one that does not apply is passed over, the first that does refuses, and nothing refuses what each passes.
use mathlib.Core.Path.{◌≡◌, refl, sym, ap, ◌∙◌}
use mathlib.Core.Bool.{Bool, true, false, cond}
use mathlib.Core.List.Memᴰ
use mathlib.Core.List.{List, [], ◌∷◌, ◌++◌, map, Memᴰ}
use Rattle.std.specs.Prelude.{Option, None, Some, option_map}
use Rattle.std.specs.Option.{option_or}
use Rattle.table.proofs.Booleans.{some_not_none}
use mathlib.Core.Logic.{⊎_elim}
use Prim.Native.Nat.{ℕ, ◌<◌}
use Rattle.table.specs.Refusal.{Check, Refusal, of_whole, of_each, over, refused_at, refusal}
use Rattle.table.proofs.Below.{earliest_passed}

pub not_applied : (b : Bool) (p : ℕ) → cond b (Some p) None ≡ None → b ≡ false
not_applied true p e = absurd (some_not_none p e)
not_applied false p e = refl

module _ {X : Type 0} (x : X) where
  pub refusal_pass : (c : Check X) (cs : List (Check X)) → c.place x ≡ None → refusal (c ∷ cs) x ≡ refusal cs x
  unfolding refusal
  refusal_pass c cs h = rw h refl

  pub refusal_here : (c : Check X) (cs : List (Check X)) {p : ℕ} → c.place x ≡ Some p → refusal (c ∷ cs) x ≡ Some (refused_at c.number p)
  unfolding refusal
  refusal_here c cs h = rw h refl

  -- what nothing refuses, each check passes
  pub refusal_none : (cs : List (Check X)) → refusal cs x ≡ None → (c : Check X) → Memᴰ c cs → c.place x ≡ None
  refusal_none [] e c m = absurd (Memᴰ.not-nil m)
  refusal_none (d ∷ ds) e c m = go (d.place x) refl (λ r. refusal_none ds r c)
    where
      go : (o : Option ℕ) → d.place x ≡ o → (refusal ds x ≡ None → Memᴰ c ds → c.place x ≡ None) → c.place x ≡ None
      go None h later =
          ⊎_elim
          (λ (i : c ≡ d). ap (λ (b : Check X). b.place x) i ∙ h)
          (λ (n : Memᴰ c ds). later (sym (refusal_pass d ds h) ∙ e) n)
          (Memᴰ.cases_cons m)
      go (Some p) h later = absurd (some_not_none (refused_at d.number p) (sym (refusal_here d ds h) ∙ e))

-- a row about the whole: it refuses where its condition holds, is passed over where it does not, and what nothing refuses it does not hold of
module _ {X : Type 0} (x : X) (n : ℕ) (condition : X → Bool) (place : X → ℕ) (cs : List (Check X)) where
  pub whole_here : condition x ≡ true → refusal (record { number = n; place = of_whole condition place } ∷ cs) x ≡ Some (refused_at n (place x))
  whole_here e = refusal_here x (record { number = n; place = of_whole condition place }) cs (rw e refl)

  pub whole_pass : condition x ≡ false → refusal (record { number = n; place = of_whole condition place } ∷ cs) x ≡ refusal cs x
  whole_pass e = refusal_pass x (record { number = n; place = of_whole condition place }) cs (rw e refl)

  pub whole_passes : refusal cs x ≡ None → Memᴰ (record { number = n; place = of_whole condition place }) cs → condition x ≡ false
  whole_passes e m = not_applied (condition x) (place x) (refusal_none x cs e _ m)

-- a row about each of its records, nodes or bytes
pub each_passes : {X : Type 0} (x : X) (n : ℕ) (condition : X → ℕ → Bool) (count : X → ℕ) (cs : List (Check X)) → refusal cs x ≡ None → Memᴰ (record { number = n; place = of_each condition count }) cs → (r : ℕ) → r < count x → condition x r ≡ false
each_passes x n condition count cs e m = earliest_passed (condition x) (count x) (refusal_none x cs e _ m)

-- rows before others: what they say decides, and if they say nothing, the others do
module _ {X : Type 0} (ds : List (Check X)) (x : X) where
  pub refusal_before_none : (cs : List (Check X)) → refusal cs x ≡ None → refusal (cs ++ ds) x ≡ refusal ds x
  refusal_before_none [] e = refl
  refusal_before_none (c ∷ cs) e = go (c.place x) refl (refusal_before_none cs)
    where
      go : (o : Option ℕ) → c.place x ≡ o → (refusal cs x ≡ None → refusal (cs ++ ds) x ≡ refusal ds x) → refusal (c ∷ cs ++ ds) x ≡ refusal ds x
      go None h later = refusal_pass x c (cs ++ ds) h ∙ later (sym (refusal_pass x c cs h) ∙ e)
      go (Some p) h later = absurd (some_not_none (refused_at c.number p) (sym (refusal_here x c cs h) ∙ e))

  pub refusal_before_some : (cs : List (Check X)) {r : Refusal} → refusal cs x ≡ Some r → refusal (cs ++ ds) x ≡ Some r
  unfolding refusal
  refusal_before_some [] {r} e = absurd (some_not_none r (sym e))
  refusal_before_some (c ∷ cs) {r} e = go (c.place x) refl (refusal_before_some cs)
    where
      go : (o : Option ℕ) → c.place x ≡ o → (refusal cs x ≡ Some r → refusal (cs ++ ds) x ≡ Some r) → refusal (c ∷ cs ++ ds) x ≡ Some r
      go None h later = refusal_pass x c (cs ++ ds) h ∙ later (sym (refusal_pass x c cs h) ∙ e)
      go (Some p) h later = refusal_here x c (cs ++ ds) h ∙ sym (refusal_here x c cs h) ∙ e

  -- so where all say nothing, those before say nothing
  pub none_before : (cs : List (Check X)) → refusal (cs ++ ds) x ≡ None → refusal cs x ≡ None
  none_before cs e = go (refusal cs x) refl
    where
      go : (o : Option Refusal) → refusal cs x ≡ o → refusal cs x ≡ None
      go None h = h
      go (Some r) h = absurd (some_not_none r (sym (refusal_before_some cs h) ∙ e))

-- rows about a part say what they say of the part
pub refusal_over : {X Y : Type 0} (part : X → Y) (x : X) (cs : List (Check Y)) → refusal (map (over part) cs) x ≡ refusal cs (part x)
unfolding refusal
refusal_over part x [] = refl
refusal_over part x (c ∷ cs) = ap (option_or (option_map (refused_at c.number) (c.place (part x)))) (refusal_over part x cs)

-- and if these come before others
module _ {X Y : Type 0} (part : X → Y) (ds : List (Check X)) (x : X) (cs : List (Check Y)) where
  pub refusal_over_none : refusal cs (part x) ≡ None → refusal (map (over part) cs ++ ds) x ≡ refusal ds x
  refusal_over_none e = refusal_before_none ds x (map (over part) cs) (refusal_over part x cs ∙ e)

  pub refusal_over_some : {r : Refusal} → refusal cs (part x) ≡ Some r → refusal (map (over part) cs ++ ds) x ≡ Some r
  refusal_over_some e = refusal_before_some ds x (map (over part) cs) (refusal_over part x cs ∙ e)
