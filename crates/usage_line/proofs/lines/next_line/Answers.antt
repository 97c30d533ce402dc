use Rattle.std.proofs.Common.{List, ℕ, ◌+◌, ◌<◌, true, false, length, take, drop, ◌∙◌, ap, sym, subst, add-one, arith}
use Rattle.std.proofs.lemmas.Bool.{eqb-true, eqb-false, false_from_ne_true}
use Rattle.std.proofs.lemmas.List.{take_rest, drop_all}
use Rattle.usage_line.specs.Cut.{IsCut}
use Rattle.usage_line.proofs.Pieces.{pieces_none, cut_at, cut_whole}
use Rattle.usage_line.proofs.lines.next_line.Goals as goal
use Rattle.usage_line.proofs.lines.next_line.Goals.{in-Some, in-None}

pub returns-then-is_empty : goal.returns-then-is_empty
returns-then-is_empty c = pieces_none c.args.file.now (eqb-true _ 0 cc)

pub returns : goal.returns
returns c =
    let file = c.args.file.now in
    elim c.match-memchr.branch [
      | in-Some w ↦
          let end = w.in-Some.end in
          let found = w.in-Some.ensures in
          rw w.result-is (subst (λ (behind : List ℕ). IsCut file (take end file) true behind) (ap (λ (m : ℕ). drop m file) (sym (add-one end)) ∙ sym (take_rest file (end + 1))) (cut_at file end found.0.high (λ j l. false_from_ne_true _ (found.0.before j (omega arith) l)) found.1))
      | in-None w ↦
          let none = w.in-None.ensures in
          let some : 0 < length file = omega (arith, eqb-false (length file) 0 cc) in
          rw w.result-is (subst (λ (behind : List ℕ). IsCut file file false behind) (sym (take_rest file (length file) ∙ drop_all (length file) file (omega arith))) (cut_whole file some (λ j l. false_from_ne_true _ (none j (omega arith) l))))
    ]
