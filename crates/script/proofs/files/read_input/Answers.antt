-- Where fewer are taken than may be taken, it is all.
use Rattle.std.proofs.Common.{rules, ◌≡◌, ℕ, ◌+◌, ◌<◌, ◌≤◌, List, Option, Some, None, IfSome, length, take, ap, ◌∙◌, arith, ⊎_elim}
use Rattle.std.specs.Option.{option_map}
use Rattle.std.proofs.lemmas.Bool.{cases_lt}
use Rattle.std.proofs.lemmas.List.{take_all, length-take-le}
use Rattle.script.proofs.files.read_input.Goals as goal

-- so much of an input is taken, and as many bytes come of it
module _ (most : ℕ) (items : List ℕ) (few : length items ≤ most) where
  taken_all : (all : List ℕ) → items ≡ take (most + 1) all → items ≡ all
  taken_all all e =
      ⊎_elim
      (λ (l : length all < most + 1). e ∙ take_all (most + 1) all (omega arith))
      (λ (r : most + 1 ≤ length all). absurd (omega (arith, few, ap length e, length-take-le (most + 1) all r)))
      (cases_lt (length all) (most + 1))

  whole : (all : Option (List ℕ)) → IfSome (option_map (take (most + 1)) all) (λ xs. items ≡ xs) → IfSome all (λ xs. items ≡ xs)
  whole None h = h
  whole (Some all) h = taken_all all h

pub returns-in-Ok-clause-whole : goal.returns-in-Ok-clause-whole
returns-in-Ok-clause-whole g c =
    let few : length c.read_to_end.new.buf.items ≤ c.args.most = search rules in
    whole c.args.most c.read_to_end.new.buf.items few (g.R.Read.remaining c.args.input)
    (rw (c.take.ensures.limit, c.take.ensures.inner, c.new-bytes.ensures.items, c.from.ensures) at c.in-Ok.ensures.bytes)
