-- The program of a table in free order is well formed: what each of checks 1 to 8 sees to, one check after the other.
use Prim.Native.Nat.{ℕ, ◌+◌, ◌*◌, ◌%◌, ◌<◌, ◌≤◌}
use mathlib.Core.Path.{◌≡◌, sym, ◌∙◌, subst}
use mathlib.Core.List.{List}
use mathlib.Core.Bool.{true, false, not, ◌&&◌, ◌||◌}
use mathlib.Core.Logic.{⊎_elim}
use native.Mathlib.Omega.{arith}
use lib.Dec.{eqb, leb}
use lib.ListN.{length}
use borrow.Author.Tests.{eqb-true, leb-true, leb-false, not-false}
use Rattle.table.specs.Below.{any}
use Rattle.table.specs.Record.{records, sort_of, field_a, field_b, field_c, is_function, is_node, is_edge, functions, nodes, edges, node_record, edge_record, node_sort, node_owner, node_target, edge_from, edge_to, is_entry, plain, sync, has_target}
use Rattle.table.specs.Checks.{FreeOrder, broken, unlisted, too_many, no_entry, absent, foreign, not_plain}
use Rattle.table.specs.Program.{program_of}
use Rattle.table.specs.WellFormed.{WellFormed, PlainOwn, Together}
use Rattle.table.specs.Scan.{surplus_of}
use Rattle.table.proofs.Booleans.{either_way, or_true_right, neither, none_of_three, both, and_true_left, and_true_right, and_false_right, all_three, or_false}
use Rattle.table.proofs.Below.{count_limit, any_which}
use Rattle.table.proofs.Rows
use Rattle.table.proofs.Fields.{entry_read, first_read, exit_read, nodes_read, sort_read, owner_read, target_read, edge_which}

module _ (t : List ℕ) (ok : FreeOrder t) where
  -- the bytes are its records: functions, then nodes, then edges
  pub records_are : functions t + nodes t + edges t ≡ records t
  records_are = Rows.records_are t ok

  -- check 1: there is nothing besides
  pub whole : length t ≡ records t * 8
  unfolding broken
  whole = omega (arith, eqb-true _ _ (not-false (eqb (length t % 8) 0) (Rows.not_broken t ok)))

  within_limits : (r : ℕ) → r < records t → (surplus_of t 1 64 r ≡ false) × (surplus_of t 2 512 r ≡ false) × (surplus_of t 3 1024 r ≡ false)
  unfolding too_many
  within_limits r h = none_of_three (surplus_of t 1 64 r) (surplus_of t 2 512 r) (surplus_of t 3 1024 r) (Rows.none_too_many t ok r h)

  few_functions : functions t ≤ 64
  unfolding functions
  few_functions = count_limit (is_function t) 64 (records t) (λ r h. (within_limits r h).0)

  few_nodes : nodes t ≤ 512
  unfolding nodes
  few_nodes = count_limit (is_node t) 512 (records t) (λ r h. (within_limits r h).1)

  -- "At most [..] 1,024 edges."
  pub few_edges : edges t ≤ 1024
  unfolding edges
  few_edges = count_limit (is_edge t) 1024 (records t) (λ r h. (within_limits r h).2)

  function_record : (f : ℕ) → f < functions t → f < records t
  function_record f h = omega (arith, records_are)

  node_record_lem : (n : ℕ) → n < nodes t → node_record t n < records t
  node_record_lem n h = omega (arith, records_are)

  edge_record_lem : (e : ℕ) → e < edges t → edge_record t e < records t
  edge_record_lem e h = omega (arith, records_are)

  -- check 5: an entry
  some_entry : (f : ℕ) × (f < functions t) × ((program_of t).entry f ≡ true)
  unfolding no_entry
  some_entry =
      let n = neither (eqb (functions t) 0) (not (any (is_entry t) (records t))) (Rows.has_entry t ok) in
      let w = any_which (is_entry t) (records t) (not-false _ n.1) in
      let f = w.0 in
      let k = and_true_left (is_function t f) (eqb (sort_of t f) 1) w.2 in
      let l = Rows.function_first t ok f w.1 (eqb-true _ _ k) in
      (f, l, entry_read t f l ∙ and_true_right (is_function t f) (eqb (sort_of t f) 1) w.2)

  -- checks 6, 7 and 8 of a function: both its nodes exist, are its own and are plain
  ends_exist : (f : ℕ) → f < functions t → (field_a t f < nodes t) × (field_b t f < nodes t)
  unfolding absent
  ends_exist f h =
      let a = leb (nodes t) (field_a t f) in
      let b = leb (nodes t) (field_b t f) in
      let e : ((a || b) || false || false) ≡ false = rw (Rows.function_kind_lem t ok f h) at (Rows.none_absent t ok f (function_record f h)) in
      let w = neither a b (none_of_three (a || b) false false e).0 in
      (leb-false _ _ w.0, leb-false _ _ w.1)

  ends_own : (f : ℕ) → f < functions t → (node_owner t (field_a t f) ≡ f) × (node_owner t (field_b t f) ≡ f)
  unfolding foreign
  ends_own f h =
      let a = eqb (node_owner t (field_a t f)) f in
      let b = eqb (node_owner t (field_b t f)) f in
      let e : (not (a && b) || false) ≡ false = rw (Rows.function_kind_lem t ok f h) at (Rows.none_foreign t ok f (function_record f h)) in
      let w = both a b (neither (not (a && b)) false e).0 in
      (eqb-true _ _ w.0, eqb-true _ _ w.1)

  ends_plain : (f : ℕ) → f < functions t → (node_sort t (field_a t f) ≡ plain) × (node_sort t (field_b t f) ≡ plain)
  unfolding not_plain
  ends_plain f h =
      let a = eqb (node_sort t (field_a t f)) plain in
      let b = eqb (node_sort t (field_b t f)) plain in
      let e : not (a && b) ≡ false = rw (Rows.function_kind_lem t ok f h) at (Rows.all_plain t ok f (function_record f h)) in
      let w = both a b e in
      (eqb-true _ _ w.0, eqb-true _ _ w.1)

  plain_own : (f n : ℕ) → n < nodes t → node_sort t n ≡ plain → node_owner t n ≡ f → PlainOwn (program_of t) f n
  plain_own f n h p o = record {
    exists = rw nodes_read h;
    plain_is = sort_read t n h ∙ p;
    owner_is = owner_read t n h ∙ o;
  }

  first_own : (f : ℕ) → f < functions t → PlainOwn (program_of t) f ((program_of t).first f)
  first_own f h = rw (first_read t f h) (plain_own f (field_a t f) (ends_exist f h).0 (ends_plain f h).0 (ends_own f h).0)

  exit_own : (f : ℕ) → f < functions t → PlainOwn (program_of t) f ((program_of t).exit f)
  exit_own f h = rw (exit_read t f h) (plain_own f (field_b t f) (ends_exist f h).1 (ends_plain f h).1 (ends_own f h).1)

  -- checks 2 and 6 of a node: its sort is listed, its owner exists, and so does the target of a call or spawn; else that is 0
  node_listed : (n : ℕ) → n < nodes t → (leb (node_sort t n) sync ≡ true) × ((has_target (node_sort t n) || eqb (node_target t n) 0) ≡ true) × (eqb (field_c t (node_record t n)) 0 ≡ true)
  unfolding unlisted
  node_listed n h =
      let r = node_record t n in
      let s = leb (sort_of t r) sync in
      let b = has_target (sort_of t r) || eqb (field_b t r) 0 in
      let c = eqb (field_c t r) 0 in
      let e : not (s && b && c || false) ≡ false = rw (Rows.node_kind_lem t ok n h) at (Rows.all_listed t ok r (node_record_lem n h)) in
      all_three s b c (sym (or_false (s && b && c)) ∙ not-false _ e)

  pub node_rest : (n : ℕ) → n < nodes t → field_c t (node_record t n) ≡ 0
  node_rest n h = eqb-true _ _ (node_listed n h).2

  -- and of a function and an edge
  pub entry_listed : (f : ℕ) → f < functions t → sort_of t f ≤ 1
  unfolding unlisted
  entry_listed f h =
      let s = leb (sort_of t f) 1 in
      let e : not (s || false || false) ≡ false = rw (Rows.function_kind_lem t ok f h) at (Rows.all_listed t ok f (function_record f h)) in
      leb-true _ _ (sym (or_false s) ∙ sym (or_false (s || false)) ∙ not-false _ e)

  edge_listed : (e : ℕ) → e < edges t → (eqb (sort_of t (edge_record t e)) 0 && eqb (field_c t (edge_record t e)) 0) ≡ true
  unfolding unlisted
  edge_listed e h = not-false _ (rw (Rows.edge_kind_lem t ok e h) at (Rows.all_listed t ok (edge_record t e) (edge_record_lem e h)))

  pub edge_rest : (e : ℕ) → e < edges t → (sort_of t (edge_record t e) ≡ 0) × (field_c t (edge_record t e) ≡ 0)
  edge_rest e h = let w = edge_listed e h in (eqb-true _ _ (and_true_left _ (eqb (field_c t (edge_record t e)) 0) w), eqb-true _ _ (and_true_right (eqb (sort_of t (edge_record t e)) 0) _ w))

  sort_listed : (n : ℕ) → n < nodes t → node_sort t n ≤ sync
  sort_listed n h = leb-true _ _ (node_listed n h).0

  target_none : (n : ℕ) → n < nodes t → has_target (node_sort t n) ≡ false → node_target t n ≡ 0
  target_none n h s = eqb-true _ _ (or_true_right (has_target (node_sort t n)) _ (node_listed n h).1 s)

  numbers_exist : (n : ℕ) → n < nodes t → (leb (functions t) (node_owner t n) ≡ false) × ((has_target (node_sort t n) && leb (functions t) (node_target t n)) ≡ false)
  unfolding absent
  numbers_exist n h =
      let a = leb (functions t) (node_owner t n) in
      let b = has_target (node_sort t n) && leb (functions t) (node_target t n) in
      let e : (false || (a || b) || false) ≡ false = rw (Rows.node_kind_lem t ok n h) at (Rows.none_absent t ok (node_record t n) (node_record_lem n h)) in
      neither a b (none_of_three false (a || b) false e).1

  owner_exists : (n : ℕ) → n < nodes t → node_owner t n < functions t
  owner_exists n h = leb-false _ _ (numbers_exist n h).0

  target_exists : (n : ℕ) → n < nodes t → node_target t n < functions t
  target_exists n h =
      ⊎_elim
      (λ (s : has_target (node_sort t n) ≡ true). leb-false _ _ (and_false_right (has_target (node_sort t n)) _ (numbers_exist n h).1 s))
      (λ (s : has_target (node_sort t n) ≡ false). omega (arith, target_none n h s, some_entry.1))
      (either_way (has_target (node_sort t n)))

  -- checks 6 and 7 of an edge: both its ends exist and have one owner
  ends_there : (e : ℕ) → e < edges t → (edge_from t e < nodes t) × (edge_to t e < nodes t)
  unfolding absent
  ends_there e h =
      let a = leb (nodes t) (edge_from t e) in
      let b = leb (nodes t) (edge_to t e) in
      let k : (false || false || (a || b)) ≡ false = rw (Rows.edge_kind_lem t ok e h) at (Rows.none_absent t ok (edge_record t e) (edge_record_lem e h)) in
      let w = neither a b k in
      (leb-false _ _ w.0, leb-false _ _ w.1)

  one_owner : (e : ℕ) → e < edges t → node_owner t (edge_from t e) ≡ node_owner t (edge_to t e)
  unfolding foreign
  one_owner e h =
      let k : not (eqb (node_owner t (edge_from t e)) (node_owner t (edge_to t e))) ≡ false = rw (Rows.edge_kind_lem t ok e h) at (Rows.none_foreign t ok (edge_record t e) (edge_record_lem e h)) in
      eqb-true _ _ (not-false _ k)

  together : (e : ℕ) → e < edges t → Together (program_of t) (edge_from t e) (edge_to t e)
  together e h =
      let x = ends_there e h in
      let y = one_owner e h in
      record {
        from_exists = rw nodes_read x.0;
        to_exists = rw nodes_read x.1;
        owner_same = owner_read t (edge_from t e) x.0 ∙ y ∙ sym (owner_read t (edge_to t e) x.1);
      }

  edge_together : (a b : ℕ) → (program_of t).edge a b ≡ true → Together (program_of t) a b
  edge_together a b h =
      let w = edge_which t a b h in
      subst (λ (x : ℕ). Together (program_of t) x b) w.2 (subst (λ (y : ℕ). Together (program_of t) (edge_from t w.0) y) w.3 (together w.0 w.1))

  -- what the crates above know of the program
  pub well_formed : WellFormed (program_of t)
  unfolding program_of
  well_formed = record {
    few_functions = few_functions;
    few_nodes = few_nodes;
    some_entry = some_entry;
    first_own = first_own;
    exit_own = exit_own;
    sort_listed = λ n h. rw (sort_read t n h) (sort_listed n h);
    owner_exists = λ n h. rw (owner_read t n h) (owner_exists n h);
    target_exists = λ n h. rw (target_read t n h) (target_exists n h);
    target_none = λ n h s. target_read t n h ∙ target_none n h (rw (sort_read t n h) at s);
    edge_together = edge_together;
  }
