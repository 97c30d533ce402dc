-- A list of names, read line by line.
use Prim.Native.Nat.{ℕ, ◌+◌, ◌<◌, ◌≤◌}
use mathlib.Core.Path.{◌≡◌, refl, sym, ap, ◌∙◌}
use mathlib.Core.Bool.{false}
use mathlib.Core.List.{List, [], ◌∷◌}
use mathlib.Core.Logic.{⊎_elim}
use native.Mathlib.Omega.{arith}
use lib.ListN.{get_or, length, set}
use borrow.Author.Tests.{lt-ltb, le-ltb}
use Rattle.std.specs.Borrow.{Bor}
use Rattle.std.specs.Prelude.{None, Some}
use Rattle.std.proofs.lemmas.List.{get_or-drop, get_or-set_same, get_or-set_other}
use Rattle.table.specs.Below.{earliest}
use Rattle.table.proofs.Below.{earliest_none, earliest_some, last_or_before}
use Rattle.usage_line.specs.Bytes.{is_name}
use Rattle.usage_line.specs.Lines.{pieces, piece_at, body, lines, is_line}
use Rattle.usage_line.proofs.Laws.{pieces_drop, pieces_end}
use Rattle.stack_usage.specs.Call.{wrong_name}
use Rattle.stack_usage.specs.Names.{NamesRead, TakesName, NoName}

pub none_read : (file : List ℕ) {of : List (Bor (List ℕ))} → NamesRead file 0 of file
none_read file = record { name_is = λ f d h. absurd (omega arith); each_name = λ f h. absurd (omega arith); left = refl }

module _ (file : List ℕ) {f : ℕ} {of : List (Bor (List ℕ))} {rest : List ℕ} (read : NamesRead file f of rest) where
  pub one_more : (name : Bor (List ℕ)) (behind : List ℕ) → length of ≡ 64 → f < 64 → TakesName rest name.now behind → NamesRead file (f + 1) (set of f name) behind
  one_more name behind long few takes =
      let at = pieces_drop file f takes.0 (pieces behind) (read.left ∙ takes.1) in
      record {
        name_is = λ g d h.
            ⊎_elim
            (λ (e : g ≡ f). rw e (ap (λ (b : Bor (List ℕ)). b.now) (get_or-set_same of f name d (omega (arith, long, few))) ∙ takes.3 ∙ ap body (sym at.1)))
            (λ (l : g < f). ap (λ (b : Bor (List ℕ)). b.now) (get_or-set_other of f g name d (λ e. omega (arith, e, l))) ∙ read.name_is g d l)
            (last_or_before g f (omega arith));
        each_name = λ g h. ⊎_elim (λ (e : g ≡ f). rw (e, at.1) takes.2) (λ (l : g < f). read.each_name g l) (last_or_before g f (omega arith));
        left = at.2;
      }

  module _ (functions : ℕ) where
    early : (k : ℕ) → k < f → f ≤ functions → wrong_name file functions k ≡ false
    unfolding wrong_name
    early k l within = rw (lt-ltb k functions (omega arith), read.each_name k l) refl

    -- where the next line is no name
    pub stops : f < functions → NoName rest → earliest (wrong_name file functions) (functions + 1) ≡ Some f
    unfolding wrong_name
    stops h none =
        let same : f ≡ f + 0 = omega arith in
        let next : piece_at file f ≡ get_or (pieces rest) 0 [] = ap (piece_at file) same ∙ sym (get_or-drop f (pieces file) 0 []) ∙ ap (λ ps. get_or ps 0 []) read.left in
        let here : is_line is_name (piece_at file f) ≡ false = ap (is_line is_name) next ∙ none in
        earliest_some (wrong_name file functions) (functions + 1) f (omega arith) (λ k l. early k l (omega arith)) (rw (lt-ltb f functions h, here) refl)

    module _ (all : f ≡ functions) where
      -- where there is a line besides
      pub surplus : (piece behind : List ℕ) → pieces rest ≡ piece ∷ pieces behind → earliest (wrong_name file functions) (functions + 1) ≡ Some functions
      unfolding wrong_name
      surplus piece behind e =
          let more = pieces_drop file f piece (pieces behind) (read.left ∙ e) in
          earliest_some (wrong_name file functions) (functions + 1) functions (omega arith) (λ k l. early k (omega (arith, all)) (omega (arith, all)))
          (rw (le-ltb functions functions (omega arith), lt-ltb functions (lines file) (omega (arith, all, more.0))) refl)

      pub all_names : pieces rest ≡ [] → earliest (wrong_name file functions) (functions + 1) ≡ None
      unfolding wrong_name
      all_names e =
          let few = pieces_end file f (read.left ∙ e) in
          earliest_none (wrong_name file functions) (functions + 1)
          (λ k l.
          ⊎_elim
          (λ (i : k ≡ functions). rw (i, le-ltb functions functions (omega arith), le-ltb functions (lines file) (omega (arith, all, few))) refl)
          (λ (m : k < functions). early k (omega (arith, all)) (omega (arith, all)))
          (last_or_before k functions (omega arith)))
