use Rattle.std.proofs.Common.{◌&&◌, refl, arith, rules, tests}
use Rattle.std.specs.Str.{all_ascii_digits}
use Rattle.std.specs.Char.{is_ascii_digit}
use Rattle.std.specs.List.{list_all}
use Rattle.std.proofs.lemmas.Grind.{common_steps}
use Rattle.std.proofs.lemmas.Iterator.{YieldsList-from_slice}
use Rattle.std.proofs.lemmas.Iterator.Search.{all_from_yields_List}
use Rattle.std.proofs.lemmas.List.Recursion.{same_from_clauses}
use Rattle.std.proofs.lemmas.Bool.Decides.{nat_tests}
use Rattle.usage_line.specs.Bytes.{is_count}
use Rattle.usage_line.proofs.bytes.is_count.Goals as goal

pub returns-then-not-is_empty : goal.returns-then-not-is_empty
unfolding is_count
returns-then-not-is_empty c =
    let bytes = c.args.bytes.now in
    let all = all_from_yields_List is_ascii_digit _ _ c.all.result c.all.ensures.ran (YieldsList-from_slice bytes cc) (λ x b q k. search (rules, tests)) in
    let digits = same_from_clauses (list_all is_ascii_digit) all_ascii_digits (λ b rest. is_ascii_digit b && rest) refl (λ _ _. refl) (λ _ _. refl) bytes in
    grind (arith, common_steps, nat_tests)

pub returns-else-not-is_empty : goal.returns-else-not-is_empty
unfolding is_count
returns-else-not-is_empty c = grind (arith, common_steps, nat_tests)
