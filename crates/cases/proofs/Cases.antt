-- Cases A to J hold: what each of their claims is shown by.
use Prim.Native.Nat.{ℕ}
use mathlib.Core.Path.{refl}
use mathlib.Core.List.{List, [], ◌∷◌}
use Rattle.table.specs.Below.{earliest, any, count}
use Rattle.table.specs.Refusal.{refusal}
use Rattle.table.specs.Record.{kind_of, sort_of, field_a, field_b, field_c, functions, nodes, edges}
use Rattle.table.specs.Checks.{free_checks, order_checks, checks, broken, unlisted, out_of_order, too_many, no_entry, absent, foreign, not_plain, not_above}
use Rattle.size.specs.Size.{aligned}
use Rattle.program.specs.Frame.{frame_of}
use Rattle.rules.specs.Choice.{unguarded}
use Rattle.rules.specs.declared.sums.Sum.TheVariants.{After, Before, Through}
use Rattle.text.specs.Listing.{digits, decimal, size_text, size_field, four_fields, verdict_word, function_line, spawn_line, joined, listing}
use Rattle.cases.specs.Cases.{cases, CasesHold}
use Rattle.cases.proofs.Rows.{row, rows_of}
use Rattle.cases.proofs.Every.{every}
use Rattle.cases.proofs.Sets.{bits, grown, set_of, reach_of, sets_test}
use Rattle.cases.proofs.Numbers.{stepping, of_node, of_target}
use Rattle.cases.proofs.Solving.{Move, round, leap, run, settled}
use Rattle.cases.proofs.Safety.{safe_test}
use Rattle.cases.proofs.Order.{order_test}
use Rattle.cases.proofs.Choosing.{choice_test, obstacle}
use Rattle.cases.proofs.Evidence.{Evidence, best_test}
use Rattle.cases.proofs.Claims.{cases_test, all_hold}

-- ---- plans

abbrev twice : List Move
twice = round ∷ round ∷ []

-- B: Total of function 1 gains its frame on itself, by way of spawn 4
abbrev recursive : List Move
recursive = leap ((of_target, 16) ∷ (of_node, 4) ∷ []) ∷ twice

-- C: the three sums of node 1 gain its Through on themselves, along the loop
abbrev looping : List Move
looping = round ∷ round ∷ leap ((stepping After, 1) ∷ []) ∷ leap ((stepping Before, 1) ∷ []) ∷ leap ((stepping Through, 1) ∷ []) ∷ round ∷ []

-- ---- evidence

-- of sizes: the plan
abbrev by : List Move → Evidence
by plan = record { choice = []; plan = plan; depths = []; order = []; merging = []; more = [] }

-- of a refusal, or of a node: nothing more
abbrev nothing : Evidence
nothing = by []

-- of the best choice
abbrev walks : (depths order : List ℕ) → List Move → (more : List (List Move)) → Evidence
walks depths order plan more = record { choice = []; plan = plan; depths = depths; order = order; merging = plan; more = more }

-- of the listing of A
abbrev listed_a : Evidence
listed_a = record {
  choice = 0 ∷ unguarded ∷ 0 ∷ unguarded ∷ 0 ∷ 0 ∷ 0 ∷ [];
  plan = twice;
  depths = 0 ∷ 1 ∷ 1 ∷ [];
  order = 3 ∷ 1 ∷ [];
  merging = twice;
  more = [];
}

abbrev evidence : List (List Evidence)
evidence =
    (listed_a ∷ [])
    ∷ (walks (0 ∷ 1 ∷ []) (4 ∷ 5 ∷ []) recursive ([] ∷ recursive ∷ []) ∷ by recursive ∷ by recursive ∷ by recursive ∷ by recursive ∷ [])
    ∷ (walks (0 ∷ 1 ∷ []) (1 ∷ []) twice (looping ∷ []) ∷ by twice ∷ by twice ∷ by twice ∷ by twice ∷ [])
    ∷ (walks (0 ∷ 1 ∷ []) (1 ∷ []) twice [] ∷ by twice ∷ [])
    ∷ (walks (0 ∷ 1 ∷ 2 ∷ []) (4 ∷ 1 ∷ []) twice (twice ∷ []) ∷ by twice ∷ [])
    ∷ (nothing ∷ [])
    ∷ (by recursive ∷ [])
    ∷ (by twice ∷ [])
    ∷ (by twice ∷ [])
    ∷ (nothing ∷ [])
    ∷ (nothing ∷ [])
    ∷ []

pub cases_hold : CasesHold
unfolding refusal free_checks order_checks checks earliest broken unlisted out_of_order too_many no_entry absent foreign not_plain not_above any count kind_of sort_of field_a field_b field_c functions nodes edges aligned frame_of row rows_of every bits grown set_of reach_of sets_test run settled safe_test order_test choice_test obstacle best_test cases_test digits decimal size_text size_field four_fields verdict_word function_line spawn_line joined listing
cases_hold frame a b c d e f g = all_hold (cases frame a b c d e f g) evidence refl
