use mathlib.Core.Path.{◌≡◌, refl}
use native.Mathlib.Omega.{arith}
use Rattle.std.proofs.Common.{rules}
use Rattle.std.proofs.lemmas.List.{length-set}
use Rattle.stack_usage.proofs.Listing.{none_read, one_more, stops, surplus, all_names}
use Rattle.stack_usage.proofs.names.read_names.Goals as goal

pub loop-f-init : goal.loop-f-init
loop-f-init c = (search rules, none_read _)

pub returns-in_default-clause-refused : goal.returns-in_default-clause-refused
returns-in_default-clause-refused c = (refl, stops _ c.loop-f.invariant.1 _ c.loop-f-test.true c.in_default.ensures)

pub loop-f-preserved : goal.loop-f-preserved
loop-f-preserved c =
    let before = c.loop-f.invariant in
    (simp length-set before.0, one_more _ before.1 c.in-Some.listed.name _ before.0 (omega (arith, c.loop-f-test.true, c.requires)) c.in-Some.ensures)

pub returns-in-Some-next_line-clause-refused : goal.returns-in-Some-next_line-clause-refused
returns-in-Some-next_line-clause-refused c =
    let more = c.in-Some-next_line.ensures in
    (refl, surplus _ c.loop-f.invariant.1 _ (omega (arith, c.loop-f.auto.f-end, c.loop-f-test.false)) _ _ more.1)

pub returns-in-None-clause-named : goal.returns-in-None-clause-named
returns-in-None-clause-named c =
    let read = c.loop-f.invariant.1 in
    let all : c.loop-f.f ≡ c.args.functions = omega (arith, c.loop-f.auto.f-end, c.loop-f-test.false) in
    record {
      functions_are = refl;
      names_are = λ f d h. read.name_is f d (omega (arith, all, h));
      none_wrong = all_names _ read _ all c.in-None.ensures;
    }
