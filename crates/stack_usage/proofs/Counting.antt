-- What is counted for the functions, from what the whole report says of each.
use Prim.Native.Nat.{ℕ, ◌<◌}
use mathlib.Core.Path.{◌≡◌, refl}
use mathlib.Core.Bool.{true, false}
use mathlib.Core.List.{List}
use native.Mathlib.Omega.{arith}
use lib.ListN.{get_or}
use Rattle.std.specs.Prelude.{None, Some}
use Rattle.table.specs.Below.{earliest}
use Rattle.table.proofs.Below.{earliest_none, earliest_some}
use Rattle.usage_line.specs.Lines.{lines}
use Rattle.stack_usage.specs.declared.mention.Mention.{Mention}
use Rattle.stack_usage.specs.declared.mention.Mention.TheVariants.{Never, Once, More}
use Rattle.stack_usage.specs.declared.names.Names.{Names}
use Rattle.stack_usage.specs.Call.{not_once, counted}
use Rattle.stack_usage.specs.Names.{NamesFor, NamesOf}
use Rattle.stack_usage.specs.Mention.{Says, SaysOfEach}
use Rattle.stack_usage.specs.Counted.{EachOnce, FirstOdd}
use Rattle.stack_usage.proofs.Mentions.{once_counted, never_once, more_once}

-- of the functions that the list names
pub said_named : (names report : List ℕ) {functions : ℕ} {list : Names} (mentions : List Mention) → NamesFor names functions list → ((file : List ℕ) → NamesOf file list → SaysOfEach file report list.functions (lines report) mentions) → SaysOfEach names report functions (lines report) mentions
said_named names report mentions named said f h =
    said names named.names_are f (omega (arith, h, named.functions_are))

module _ (names report : List ℕ) (functions : ℕ) (mentions : List Mention) (said : SaysOfEach names report functions (lines report) mentions) where
  -- a function with one line, and the count of that
  is_once : (f c : ℕ) → f < functions → get_or mentions f Never ≡ Once c → (not_once names report f ≡ false) × (c ≡ counted names report f)
  is_once f c h e = once_counted names report f c (rw e at (said f h))

  is_odd : (m : Mention) (f : ℕ) → ((c : ℕ) → m ≡ Once c → ⊥) → Says names report f (lines report) m → not_once names report f ≡ true
  is_odd Never f o s = never_once names report f s
  is_odd (Once c) f o s = absurd (o c refl)
  is_odd More f o s = more_once names report f s

  pub first_odd : {p : ℕ} → FirstOdd mentions functions p → earliest (not_once names report) functions ≡ Some p
  first_odd {p} o =
      earliest_some (not_once names report) functions p o.within
      (λ f l. let w = o.before f l in (is_once f w.0 (omega (arith, l, o.within)) w.1).0)
      (is_odd (get_or mentions p Never) p o.odd (said p o.within))

  module _ (counts : List ℕ) (once : EachOnce mentions functions counts) where
    pub none_odd : earliest (not_once names report) functions ≡ None
    none_odd = earliest_none (not_once names report) functions (λ f h. (is_once f (get_or counts f 0) h (once.1 f h)).0)

    pub counts_are : (f : ℕ) → f < functions → get_or counts f 0 ≡ counted names report f
    counts_are f h = (is_once f (get_or counts f 0) h (once.1 f h)).1
