-- A report, read line by line.
use Prim.Native.Nat.{ℕ, ◌+◌, ◌<◌}
use mathlib.Core.Path.{◌≡◌, refl, sym, ap, subst, ◌∙◌}
use mathlib.Core.Bool.{true, false, ◌&&◌}
use mathlib.Core.List.{List, []}
use mathlib.Core.Logic.{⊎_elim}
use native.Mathlib.Omega.{arith}
use lib.ListN.{drop, get_or}
use Rattle.std.specs.Prelude.{None, Some, bytes_eq}
use Rattle.table.specs.Below.{earliest}
use Rattle.table.proofs.Below.{earliest_none, earliest_some, passed_more}
use Rattle.table.proofs.Booleans.{either_way}
use Rattle.usage_line.specs.Line.{count_in, is_usage}
use Rattle.usage_line.specs.Lines.{pieces, piece_at, body, line, lines, is_line}
use Rattle.usage_line.specs.Cut.{IsCut}
use Rattle.usage_line.specs.declared.answer.Usage.{Usage}
use Rattle.usage_line.specs.declared.lines.Cut.{Cut}
use Rattle.usage_line.proofs.Laws.{pieces_drop, pieces_end}
use Rattle.stack_usage.specs.declared.mention.Mention.{Mention}
use Rattle.stack_usage.specs.declared.mention.Mention.TheVariants.{Never}
use Rattle.stack_usage.specs.declared.names.Names.{Names}
use Rattle.stack_usage.specs.Call.{about, wrong_usage}
use Rattle.stack_usage.specs.Mention.{Says, SaysOfEach}
use Rattle.stack_usage.specs.Names.{NamesOf}
use Rattle.stack_usage.specs.Report.{Noted, Reads, ReportRead}
use Rattle.stack_usage.proofs.Mentions.{says_none, says_same, says_more}

pub report_start : (report : List ℕ) (names : Names) (mentions : List Mention) → ((f : ℕ) → f < names.functions → get_or mentions f Never ≡ Never) → ReportRead report names 0 mentions report
report_start report names mentions never = record {
  said = λ file of f h. rw (never f h) (says_none file report f);
  each_right = λ k h. absurd (omega arith);
  within = omega arith;
  left = refl;
}

module _ {report : List ℕ} {names : Names} {j : ℕ} {old : List Mention} {rest : List ℕ} (read : ReportRead report names j old rest) where
  module _ (cut : Cut) (is : IsCut rest cut.line.now cut.ended cut.behind.now) where
    -- it is line j
    line_is : (j < lines report) × (piece_at report j ≡ is.0) × (drop (j + 1) (pieces report) ≡ pieces cut.behind.now)
    line_is = pieces_drop report j is.0 (pieces cut.behind.now) (read.left ∙ is.1)

    form_is : (cut.ended && is_usage cut.line.now) ≡ is_line is_usage (piece_at report j)
    form_is = rw (line_is.1, is.2, is.3) refl

    text_is : line report j ≡ cut.line.now
    text_is = ap body line_is.1 ∙ sym is.3

    pub report_stops : (cut.ended && is_usage cut.line.now) ≡ false → earliest (wrong_usage report) (lines report) ≡ Some j
    unfolding wrong_usage
    report_stops wrong = earliest_some (wrong_usage report) (lines report) j line_is.0 read.each_right (rw (sym form_is ∙ wrong) refl)

    module _ {usage : Usage} (reads : Reads cut usage) where
      -- what is noted of a function is what line j says of it
      module _ {new : List Mention} (noted : Noted names usage names.functions old new) (file : List ℕ) (of : NamesOf file names) (f : ℕ) (h : f < names.functions) where
        same_test : bytes_eq (get_or names.of f usage.name).now usage.name.now ≡ about file report f j
        unfolding about
        same_test = rw (of f usage.name h, reads.1, text_is) refl

        count_is : usage.count ≡ count_in (line report j)
        count_is = reads.2 ∙ ap count_in (sym text_is)

        said_more : Says file report f (j + 1) (get_or new f Never)
        said_more =
            rw (noted.noted f usage.name h, same_test)
            (⊎_elim
            (λ (t : about file report f j ≡ true). rw t (says_more file report f j usage.count (get_or old f Never) t count_is (read.said file of f h)))
            (λ (t : about file report f j ≡ false). rw t (says_same file report f j (get_or old f Never) t (read.said file of f h)))
            (either_way (about file report f j)))

      pub report_more : {new : List Mention} → Noted names usage names.functions old new → ReportRead report names (j + 1) new cut.behind.now
      unfolding wrong_usage
      report_more noted = record {
        said = said_more noted;
        each_right = passed_more (wrong_usage report) j read.each_right (rw (sym form_is ∙ reads.0) refl);
        within = omega (arith, line_is.0);
        left = line_is.2;
      }

  -- behind the last line
  pub report_end : pieces rest ≡ [] → earliest (wrong_usage report) (lines report) ≡ None
  report_end e =
      let all = pieces_end report j (read.left ∙ e) in
      earliest_none (wrong_usage report) (lines report) (λ k h. read.each_right k (omega (arith, all, h)))

  pub report_said : pieces rest ≡ [] → (file : List ℕ) → NamesOf file names → SaysOfEach file report names.functions (lines report) old
  report_said e =
      let all = pieces_end report j (read.left ∙ e) in
      let same : j ≡ lines report = omega (arith, all, read.within) in
      subst (λ (k : ℕ). (file : List ℕ) → NamesOf file names → SaysOfEach file report names.functions k old) same read.said
