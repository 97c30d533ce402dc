-- No check of a table applies to the bytes of a program that is well formed and can be described.
use Prim.Native.Nat.{ℕ, zero, suc, ◌+◌, ◌-◌, ◌/◌, ◌%◌, ◌<◌, ◌≤◌}
use mathlib.Core.Path.{◌≡◌, refl, sym, ◌∙◌, subst}
use mathlib.Core.Bool.{Bool, true, false, cond, ◌&&◌, ◌||◌}
use mathlib.Core.Logic.{inl, inr, ⊎_elim}
use native.Mathlib.Omega.{arith}
use lib.Dec.{eqb, leb}
use lib.ListN.{length}
use Rattle.std.proofs.lemmas.Bool.{cases_lt, and_right, le-leb, lt-leb, le-ltb, eq-eqb, ne_eqb}
use Rattle.table.specs.Below.{count}
use Rattle.table.specs.Record.{records, kind_of, functions, nodes, edges, node_owner, node_sort, is_function, is_node, is_edge, is_entry, plain, sync, has_target}
use Rattle.table.specs.Refusal.{refusal}
use Rattle.table.specs.Checks.{Accepted, above, broken, unlisted, out_of_order, too_many, no_entry, absent, foreign, not_plain, not_above, checks, free_checks, order_checks}
use Rattle.table.specs.Program.{Program}
use Rattle.table.specs.WellFormed.{WellFormed}
use Rattle.table.proofs.Below.{any_some, earliest_none}
use Rattle.table.proofs.Ascending.{cases_above}
use Rattle.table.proofs.Booleans.{either_way}
use Rattle.program_bytes.specs.Bytes.{bytes, bytes_of, Describable}
use Rattle.program_bytes.proofs.Each.{at_most_one, count_rises, count_grows}
use Rattle.program_bytes.specs.Pairs.{is_pair}
use Rattle.program_bytes.proofs.Reading.{bytes_long}
use Rattle.program_bytes.proofs.Parts.{all_records, function_at, node_at, pair_at, each_record, records_are, functions_are, nodes_are, edges_are, node_reads}

-- where no more than the limit pass, none has as many as the limit before it
none_over : (test : ℕ → Bool) (limit n : ℕ) → count test n ≤ limit → (i : ℕ) → i < n → (test i && leb limit (count test i)) ≡ false
none_over test limit n few i h =
    ⊎_elim
    (λ (t : test i ≡ true). rw (t, lt-leb limit (count test i) (omega (arith, count_rises test n i h t))) refl)
    (λ (f : test i ≡ false). rw f refl)
    (either_way (test i))

-- "8-byte records"
not_broken : (g : Program) → broken (bytes_of g) ≡ false
unfolding broken bytes_of
not_broken g = let whole : length (bytes (all_records g)) % 8 ≡ 0 = omega (arith, bytes_long (all_records g)) in rw (eq-eqb _ 0 whole) refl

module _ (g : Program) (w : WellFormed g) where
  -- a call or spawn has a target, and of other nodes it is 0
  target_listed : (n : ℕ) → n < g.nodes → (has_target (g.sort n) || eqb (g.target n) 0) ≡ true
  target_listed n h =
      ⊎_elim
      (λ (t : has_target (g.sort n) ≡ true). rw t refl)
      (λ (f : has_target (g.sort n) ≡ false). rw (f, eq-eqb _ 0 (w.target_none n h f)) refl)
      (either_way (has_target (g.sort n)))

  all_listed : (r : ℕ) → r < records (bytes_of g) → unlisted (bytes_of g) r ≡ false
  unfolding unlisted
  all_listed =
      each_record g w (λ r. unlisted (bytes_of g) r ≡ false)
      (λ f h x. rw (x.kind_is, x.sort_is, le-leb (cond (g.entry f) 1 0) 1 (at_most_one (g.entry f))) refl)
      (λ n h x. rw (x.kind_is, x.sort_is, x.b_is, x.c_is, le-leb (g.sort n) sync (w.sort_listed n h), target_listed n h) refl)
      (λ p t x. rw (x.kind_is, x.sort_is, x.c_is) refl)

  kind_high : (r : ℕ) → r < records (bytes_of g) → kind_of (bytes_of g) r ≤ 3
  kind_high =
      each_record g w (λ r. kind_of (bytes_of g) r ≤ 3)
      (λ f h x. omega (arith, x.kind_is))
      (λ n h x. omega (arith, x.kind_is))
      (λ p t x. omega (arith, x.kind_is))

  -- before the edges there are functions and nodes only
  kind_low : (r : ℕ) → r < g.functions + g.nodes → kind_of (bytes_of g) r ≤ 2
  kind_low r h =
      ⊎_elim
      (λ (l : r < g.functions). omega (arith, (function_at g r l).kind_is))
      (λ (m : g.functions ≤ r).
      let there : g.functions + (r - g.functions) ≡ r = omega arith in
      subst (λ (k : ℕ). kind_of (bytes_of g) k ≤ 2) there (omega (arith, (node_at g (r - g.functions) (omega arith)).kind_is)))
      (cases_lt r g.functions)

  kinds_rise : (q : ℕ) → q < records (bytes_of g) → (r : ℕ) → r < q → r < records (bytes_of g) → kind_of (bytes_of g) r ≤ kind_of (bytes_of g) q
  kinds_rise =
      each_record g w (λ q. (r : ℕ) → r < q → r < records (bytes_of g) → kind_of (bytes_of g) r ≤ kind_of (bytes_of g) q)
      (λ f h x r l b. omega (arith, x.kind_is, (function_at g r (omega arith)).kind_is))
      (λ n h x r l b. omega (arith, x.kind_is, kind_low r (omega arith)))
      (λ p t x r l b. omega (arith, x.kind_is, kind_high r b))

  all_in_order : (r : ℕ) → r < records (bytes_of g) → out_of_order (bytes_of g) r ≡ false
  unfolding out_of_order
  all_in_order zero h = refl
  all_in_order (suc r) h = le-ltb _ _ (kinds_rise (suc r) h r (omega arith) (omega arith))

  has_entry : no_entry (bytes_of g) ≡ false
  unfolding no_entry
  has_entry =
      let f = w.some_entry.0 in
      let x = function_at g f w.some_entry.1 in
      let low : f < records (bytes_of g) = omega (arith, w.some_entry.1, records_are g) in
      let there = any_some (is_entry (bytes_of g)) (records (bytes_of g)) f low (rw (x.kind_is, x.sort_is, w.some_entry.2) refl) in
      rw (ne_eqb (functions (bytes_of g)) 0 (λ e. omega (arith, e, functions_are g w, w.some_entry.1)), there) refl

  none_absent : (r : ℕ) → r < records (bytes_of g) → absent (bytes_of g) r ≡ false
  unfolding absent
  none_absent =
      each_record g w (λ r. absent (bytes_of g) r ≡ false)
      (λ f h x. rw (x.kind_is, x.a_is, x.b_is, nodes_are g w, lt-leb g.nodes _ (w.first_own f h).exists, lt-leb g.nodes _ (w.exit_own f h).exists) refl)
      (λ n h x.
      let target_there = and_right (has_target (g.sort n)) _ (lt-leb g.functions _ (w.target_exists n h)) in
      rw (x.kind_is, x.sort_is, x.a_is, x.b_is, functions_are g w, lt-leb g.functions _ (w.owner_exists n h), target_there) refl)
      (λ p t x.
      let e = w.edge_together _ _ t in
      rw (x.kind_is, x.a_is, x.b_is, nodes_are g w, lt-leb g.nodes _ e.from_exists, lt-leb g.nodes _ e.to_exists) refl)

  node_owner_is : (n : ℕ) → n < g.nodes → node_owner (bytes_of g) n ≡ g.owner n
  node_owner_is n h = (node_reads g w n h).a_is

  node_sort_is : (n : ℕ) → n < g.nodes → node_sort (bytes_of g) n ≡ g.sort n
  node_sort_is n h = (node_reads g w n h).sort_is

  none_foreign : (r : ℕ) → r < records (bytes_of g) → foreign (bytes_of g) r ≡ false
  unfolding foreign
  none_foreign =
      each_record g w (λ r. foreign (bytes_of g) r ≡ false)
      (λ f h x.
      let a = w.first_own f h in
      let b = w.exit_own f h in
      let first_is = eq-eqb _ f (node_owner_is _ a.exists ∙ a.owner_is) in
      let exit_is = eq-eqb _ f (node_owner_is _ b.exists ∙ b.owner_is) in
      rw (x.kind_is, x.a_is, x.b_is, first_is, exit_is) refl)
      (λ n h x. rw x.kind_is refl)
      (λ p t x.
      let e = w.edge_together _ _ t in
      let same = eq-eqb _ _ (node_owner_is _ e.from_exists ∙ e.owner_same ∙ sym (node_owner_is _ e.to_exists)) in
      rw (x.kind_is, x.a_is, x.b_is, same) refl)

  all_plain : (r : ℕ) → r < records (bytes_of g) → not_plain (bytes_of g) r ≡ false
  unfolding not_plain
  all_plain =
      each_record g w (λ r. not_plain (bytes_of g) r ≡ false)
      (λ f h x.
      let a = w.first_own f h in
      let b = w.exit_own f h in
      let first_is = eq-eqb _ plain (node_sort_is _ a.exists ∙ a.plain_is) in
      let exit_is = eq-eqb _ plain (node_sort_is _ b.exists ∙ b.plain_is) in
      rw (x.kind_is, x.a_is, x.b_is, first_is, exit_is) refl)
      (λ n h x. rw x.kind_is refl)
      (λ p t x. rw x.kind_is refl)

  -- a pair that more pairs with an edge stand before comes later
  later_pair : (p q : ℕ) → count (is_pair g) p < count (is_pair g) q → p < q
  later_pair p q h = ⊎_elim (λ (l : p < q). l) (λ (m : q ≤ p). absurd (omega (arith, count_grows (is_pair g) q p m))) (cases_lt p q)

  -- and its edge is above
  later_above : (p q : ℕ) → p < q → above (q / 512) (q % 512) (p / 512) (p % 512) ≡ true
  later_above p q h =
      cases_above (q / 512) (q % 512) (p / 512) (p % 512)
      (⊎_elim (λ (l : p / 512 < q / 512). inl l) (λ (m : q / 512 ≤ p / 512). inr (omega arith, omega arith)) (cases_lt (p / 512) (q / 512)))

  all_above : (r : ℕ) → r < records (bytes_of g) → not_above (bytes_of g) r ≡ false
  unfolding not_above
  all_above zero h = refl
  all_above (suc r) h =
      ⊎_elim
      (λ (l : r < g.functions + g.nodes). rw (ne_eqb (kind_of (bytes_of g) r) 3 (λ e. omega (arith, e, kind_low r l))) refl)
      (λ (m : g.functions + g.nodes ≤ r).
      let v = pair_at g w r m (omega arith) in
      let n = pair_at g w (suc r) (omega arith) h in
      let x = v.3 in
      let y = n.3 in
      rw (x.kind_is, y.kind_is, x.a_is, x.b_is, y.a_is, y.b_is, later_above v.0 n.0 (later_pair v.0 n.0 (omega (arith, v.2, n.2)))) refl)
      (cases_lt r (g.functions + g.nodes))

module _ (g : Program) (w : WellFormed g) (d : Describable g) where
  none_too_many : (r : ℕ) → r < records (bytes_of g) → too_many (bytes_of g) r ≡ false
  unfolding too_many functions nodes edges
  none_too_many r h =
      let few_functions = none_over (is_function (bytes_of g)) 64 (records (bytes_of g)) (omega (arith, functions_are g w, w.few_functions)) r h in
      let few_nodes = none_over (is_node (bytes_of g)) 512 (records (bytes_of g)) (omega (arith, nodes_are g w, w.few_nodes)) r h in
      let few_edges = none_over (is_edge (bytes_of g)) 1024 (records (bytes_of g)) (omega (arith, edges_are g w, d.few_edges)) r h in
      rw (few_functions, few_nodes, few_edges) refl

  pub bytes_accepted : Accepted (bytes_of g)
  unfolding checks free_checks order_checks refusal
  bytes_accepted =
      let n = records (bytes_of g) in
      rw (
        not_broken g,
        earliest_none _ n (all_listed g w),
        earliest_none _ n (all_in_order g w),
        earliest_none _ n none_too_many,
        has_entry g w,
        earliest_none _ n (none_absent g w),
        earliest_none _ n (none_foreign g w),
        earliest_none _ n (all_plain g w),
        earliest_none _ n (all_above g w),
      )
      refl
