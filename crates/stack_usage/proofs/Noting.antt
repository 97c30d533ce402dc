-- A line of the report, noted at one function after another.
use Prim.Native.Nat.{ℕ, ◌+◌, ◌<◌}
use mathlib.Core.Path.{◌≡◌, ap, ◌∙◌}
use mathlib.Core.Bool.{true, false}
use mathlib.Core.List.{List}
use mathlib.Core.Logic.{⊎_elim}
use native.Mathlib.Omega.{arith}
use lib.ListN.{get_or, length, set}
use Rattle.std.specs.Borrow.{Bor}
use Rattle.std.specs.Prelude.{bytes_eq}
use Rattle.std.proofs.lemmas.List.{get_or-set_same, get_or-set_other, length-set, get_or_default}
use Rattle.table.proofs.Below.{last_or_before}
use Rattle.usage_line.specs.declared.answer.Usage.{Usage}
use Rattle.stack_usage.specs.declared.mention.Mention.{Mention}
use Rattle.stack_usage.specs.declared.mention.Mention.TheVariants.{Never}
use Rattle.stack_usage.specs.declared.names.Names.{Names}
use Rattle.stack_usage.specs.Mention.{more}
use Rattle.stack_usage.specs.Report.{Noted}

module _ (names : Names) (usage : Usage) {f : ℕ} {old now : List Mention} (n : Noted names usage f old now) (many : length names.of ≡ 64) (long : length now ≡ 64) (few : f < 64) (e : Bor (List ℕ)) where
  -- the name of function f, whatever stands past the list
  same_name : (d : Bor (List ℕ)) → bytes_eq (get_or names.of f d).now usage.name.now ≡ bytes_eq (get_or names.of f e).now usage.name.now
  same_name d = ap (λ (b : Bor (List ℕ)). bytes_eq b.now usage.name.now) (get_or_default names.of f d e (omega (arith, many, few)))

  pub hit : bytes_eq (get_or names.of f e).now usage.name.now ≡ true → Noted names usage (f + 1) old (set now f (more (get_or now f Never) usage.count))
  hit t = record {
    long = length-set now f _ ∙ n.long;
    noted = λ g d h.
        ⊎_elim
        (λ (i : g ≡ f). rw (i, same_name d, t) (get_or-set_same now f _ Never (omega (arith, long, few)) ∙ ap (λ m. more m usage.count) (n.others f (omega arith))))
        (λ (l : g < f). get_or-set_other now f g _ Never (λ i. omega (arith, i, l)) ∙ n.noted g d l)
        (last_or_before g f (omega arith));
    others = λ g h. get_or-set_other now f g _ Never (λ i. omega (arith, i, h)) ∙ n.others g (omega arith);
  }

  pub miss : bytes_eq (get_or names.of f e).now usage.name.now ≡ false → Noted names usage (f + 1) old now
  miss t = record {
    long = n.long;
    noted = λ g d h. ⊎_elim (λ (i : g ≡ f). rw (i, same_name d, t) (n.others f (omega arith))) (λ (l : g < f). n.noted g d l) (last_or_before g f (omega arith));
    others = λ g h. n.others g (omega arith);
  }
