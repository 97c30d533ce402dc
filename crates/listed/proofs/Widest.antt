-- The rules of a choice are those of the widest one that are in force.
use Prim.Native.Nat.{ℕ, ◌+◌, ◌-◌, ◌*◌, ◌/◌, ◌%◌, ◌<◌, ◌≤◌}
use mathlib.Core.Path.{◌≡◌, refl, sym, ap, ap₂, ◌∙◌, subst}
use mathlib.Core.Bool.{Bool, true, false}
use mathlib.Core.List.{List, [], ◌∷◌, ◌++◌}
use native.Mathlib.Omega.{arith}
use native.Mathlib.Decide.{ℕ_discrete}
use lib.ListN.{length, get_or-append, get_or-replicate}
use lib.Seq.{get_or-append_seam}
use Rattle.std.proofs.lemmas.List.{length-append}
use borrow.Author.Tests.{lt-ltb, le-ltb}
use Rattle.table.specs.Program.{Program, program_of}
use Rattle.program.specs.declared.Program.{Program as Read}
use Rattle.table.proofs.Booleans.{not_both}
use Rattle.table.proofs.Laws.{well_formed}
use Rattle.size.specs.Numbers.{at}
use Rattle.rules.specs.Choice.{unguarded}
use Rattle.rules.specs.Rules.{total, through}
use Rattle.rules.specs.System.{Form, RuleOf, kind_for, to, takes, target_form, form_of, start, step_on, end, total_node, total_edge, target_of}
use Rattle.rules.specs.Entries.{offset}
use Rattle.listed.specs.Listed.{given, everywhere, in_force, Says, RulesFor, Widest}
use Rattle.solver.specs.Words.{head_of}
use Rattle.sync.specs.declared.Known.{Known}
use Rattle.rules.specs.declared.sums.Sum.{Sum}
use Rattle.rules.specs.declared.sums.Sum.TheVariants.{After, Before, Through}
use Rattle.rules.proofs.Bounds.{kind_low}
use Rattle.rules.proofs.Entries.{place, place_entry}
use Rattle.rules.proofs.Taking.{Takes, of_call, of_unguarded, of_merged, takes_which, takes_call, takes_unguarded}

-- ---- words by their heads

head_is_at : (w : ℕ) {f : Form} → Says w f → head_of w ≡ place f.head
head_is_at w s = sym (place_entry (head_of w)) ∙ ap place (sym s.head_is)

module _ (choice : List ℕ) (p : Read) (w : ℕ) where
  pub force_function : head_of w < 4 * p.of.functions → in_force choice p w ≡ true
  unfolding in_force
  force_function h = rw (lt-ltb (head_of w) (4 * p.of.functions) h) refl

  force_node : 4 * p.of.functions ≤ head_of w → head_of w < 4 * (p.of.functions + p.of.nodes) → in_force choice p w ≡ takes (program_of p.table.now) (at choice) (head_of w / 4 - p.of.functions) (head_of w % 4)
  unfolding in_force
  force_node l h = rw (le-ltb (head_of w) (4 * p.of.functions) l, lt-ltb (head_of w) (4 * (p.of.functions + p.of.nodes)) h) refl

  pub force_sum : 4 * (p.of.functions + p.of.nodes) ≤ head_of w → in_force choice p w ≡ true
  unfolding in_force
  force_sum h =
      let l : 4 * p.of.functions ≤ head_of w = omega arith in
      rw (le-ltb (head_of w) (4 * p.of.functions) l, le-ltb (head_of w) (4 * (p.of.functions + p.of.nodes)) h) refl

  pub force_size : (n k : ℕ) → n < p.of.nodes → k ≤ through → head_of w ≡ 4 * (p.of.functions + n) + k → in_force choice p w ≡ takes (program_of p.table.now) (at choice) n k
  force_size n k h l e =
      let a : head_of w / 4 - p.of.functions ≡ n = omega arith in
      let b : head_of w % 4 ≡ k = omega arith in
      force_node (omega arith) (omega arith) ∙ ap₂ (takes (program_of p.table.now) (at choice)) a b

-- ---- the rules of a choice and of the widest one

sums_high : (s : Sum) → 2304 ≤ offset s
sums_high After = omega arith
sums_high Before = omega arith
sums_high Through = omega arith

takes_everywhere : (g : Program) (choice : ℕ → ℕ) (n k : ℕ) → n < 512 → takes g choice n k ≡ true → takes g (at everywhere) n k ≡ true
takes_everywhere g choice n k h b = go (takes_which g choice n k b)
  where
    high : unguarded ≤ at everywhere n
    high = omega (arith, get_or-replicate 512 n unguarded 0 h)

    go : Takes g choice n k → takes g (at everywhere) n k ≡ true
    go (of_call s e) = takes_call g (at everywhere) n k s
    go (of_unguarded s m e) = takes_unguarded g (at everywhere) n k s high
    go (of_merged s m l e) = takes_unguarded g (at everywhere) n k s high

module _ (choice : List ℕ) (known : Known) where
  abbrev g : Program
  g = program_of known.program.table.now

  abbrev Own : Type 0
  Own = RuleOf (given choice known)

  abbrev Wide : Type 0
  Wide = RuleOf (given everywhere known)

  -- whether a size of a node is in force
  of_node : (n k w : ℕ) → n < g.nodes → k ≤ through → Says w (target_form g n k) → in_force choice known.program w ≡ takes g (at choice) n k
  of_node n k w h l m =
      force_size choice known.program w n k (omega arith) l (omega (arith, head_is_at w m))

  -- a rule of the widest choice that is in force is one of the choice
  own : (r : Wide) (w : ℕ) → Says w (form_of r) → in_force choice known.program w ≡ true → (q : Own) × Says w (form_of q)
  own (start s n h b) w m f = (start s n h b, m)
  own (step_on s p n e b) w m f = (step_on s p n e b, m)
  own (end s x h b) w m f = (end s x h b, m)
  own (total_node n h) w m f = (total_node n h, m)
  own (total_edge p n e) w m f = (total_edge p n e, m)
  own (target_of n k h l b) w m f = (target_of n k h l (sym (of_node n k w h l m) ∙ f), m)

  -- each rule of the choice is one of the widest,
  widened : (r : Own) → (q : Wide) × (form_of q ≡ form_of r)
  widened (start s n h b) = (start s n h b, refl)
  widened (step_on s p n e b) = (step_on s p n e b, refl)
  widened (end s x h b) = (end s x h b, refl)
  widened (total_node n h) = (total_node n h, refl)
  widened (total_edge p n e) = (total_edge p n e, refl)
  widened (target_of n k h l b) =
      let low : n < 512 = omega arith in
      (target_of n k h l (takes_everywhere g (at choice) n k low b), refl)

  -- and is in force: its head is a sum, a size of a function, or one of a node that rests on its target
  of_sum : (s : Sum) (n w : ℕ) → head_of w ≡ offset s + n → in_force choice known.program w ≡ true
  of_sum s n w e = force_sum choice known.program w (omega (arith, sums_high s))

  of_function : (f k w : ℕ) → f < g.functions → k ≤ through → head_of w ≡ 4 * f + k → in_force choice known.program w ≡ true
  of_function f k w h l e = force_function choice known.program w (omega arith)

  in_force_lem : (r : Own) (w : ℕ) → Says w (form_of r) → in_force choice known.program w ≡ true
  in_force_lem (start s n h b) w m = of_sum s n w (head_is_at w m)
  in_force_lem (step_on s p n e b) w m = of_sum s (to s p n) w (head_is_at w m)
  in_force_lem (end s f h b) w m = of_function f (kind_for s) w h (kind_low s) (head_is_at w m)
  in_force_lem (total_node n h) w m = of_function (g.owner n) total w ((well_formed known.program.table.now known.program.ready.accepted_is).owner_exists n h) (omega arith) (head_is_at w m)
  in_force_lem (total_edge p n e) w m =
      let f = well_formed known.program.table.now known.program.ready.accepted_is in
      of_function (g.owner n) total w (f.owner_exists n (f.edge_together p n e).to_exists) (omega arith) (head_is_at w m)
  in_force_lem (target_of n k h l b) w m = of_node n k w h l m ∙ b

-- ---- the words of a list that pass a test, one after another

-- the words are those of the first i that pass
pub record Kept (test : ℕ → Bool) (all : List ℕ) (i : ℕ) (rules : List ℕ) : Type 0 where
  pub few : length rules ≤ i
  pub each : (m : ℕ) → m < length rules → (j : ℕ) × (j < i) × (test (at all j) ≡ true) × (at rules m ≡ at all j)
  pub every : (j : ℕ) → j < i → test (at all j) ≡ true → (m : ℕ) × (m < length rules) × (at rules m ≡ at all j)

pub kept_none : (test : ℕ → Bool) (all : List ℕ) {rules : List ℕ} → rules ≡ [] → Kept test all 0 rules
kept_none test all {rules} e = record { few = omega (arith, ap length e); each = λ m h. absurd (omega (arith, ap length e)); every = λ j h b. absurd (omega arith) }

module _ {test : ℕ → Bool} {all : List ℕ} {i : ℕ} {rules : List ℕ} (d : Kept test all i rules) where
  pub kept_skip : test (at all i) ≡ false → Kept test all (i + 1) rules
  kept_skip off = record {
    few = omega (arith, d.few);
    each = λ m h. let q = d.each m h in (q.0, omega (arith, q.1), q.2, q.3);
    every = λ j h b. go j h b (ℕ_discrete j i);
  }
    where
      go : (j : ℕ) → j < i + 1 → test (at all j) ≡ true → Dec (j ≡ i) → (m : ℕ) × (m < length rules) × (at rules m ≡ at all j)
      go j h b (yes e) = not_both _ b (rw e off)
      go j h b (no n) = d.every j (omega (arith, n)) b

  module _ (on : test (at all i) ≡ true) where
    abbrev more : List ℕ
    more = rules ++ at all i ∷ []

    long : length more ≡ length rules + 1
    long = length-append rules (at all i ∷ [])

    new_at : at more (length rules) ≡ at all i
    new_at = get_or-append_seam rules (at all i) [] 0

    old_at : (m : ℕ) → m < length rules → at more m ≡ at rules m
    old_at m h = get_or-append rules (at all i ∷ []) 0 m h

    pub kept_add : Kept test all (i + 1) more
    kept_add = record {
      few = omega (arith, d.few, long);
      each = λ m h. each m (omega (arith, h, long)) (ℕ_discrete m (length rules));
      every = λ j h b. every j h b (ℕ_discrete j i);
    }
      where
        each : (m : ℕ) → m < length rules + 1 → Dec (m ≡ length rules) → (j : ℕ) × (j < i + 1) × (test (at all j) ≡ true) × (at more m ≡ at all j)
        each m h (yes e) = (i, omega arith, on, ap (at more) e ∙ new_at)
        each m h (no n) =
            let l : m < length rules = omega (arith, n) in
            let q = d.each m l in
            (q.0, omega (arith, q.1), q.2, old_at m l ∙ q.3)

        every : (j : ℕ) → j < i + 1 → test (at all j) ≡ true → Dec (j ≡ i) → (m : ℕ) × (m < length more) × (at more m ≡ at all j)
        every j h b (yes e) = (length rules, omega (arith, long), new_at ∙ ap (at all) (sym e))
        every j h b (no n) =
            let q = d.every j (omega (arith, n)) b in
            (q.0, omega (arith, q.1, long), old_at q.0 q.1 ∙ q.2)

pub kept_lists : {choice : List ℕ} {known : Known} {all rules : List ℕ} → Widest known all → Kept (in_force choice known.program) all (length all) rules → RulesFor choice known (length all) rules
kept_lists {choice} {known} {all} {rules} l d = record {
  few = omega (arith, d.few);
  lists = record {
    each = λ m h.
        let q = d.each m h in
        let r = l.lists.each q.0 q.1 in
        let o = own choice known r.0 (at all q.0) r.1 q.2 in
        (o.0, rw q.3 o.1);
    all = λ r.
        let v = widened choice known r in
        let j = l.lists.all v.0 in
        let s : Says (at all j.0) (form_of r) = subst (Says (at all j.0)) v.1 j.2 in
        let m = d.every j.0 j.1 (in_force_lem choice known r (at all j.0) s) in
        (m.0, m.1, rw m.2 s);
  };
}
