-- Tables that differ in the order and the repetition of their edges only have one program.
use Prim.Native.Nat.{ℕ, ◌+◌, ◌*◌, ◌<◌, ◌≤◌}
use mathlib.Core.Path.{◌≡◌, refl, sym, ap, ◌∙◌, subst, fun_ext}
use mathlib.Core.List.{List}
use mathlib.Core.Bool.{true, false, ◌&&◌}
use mathlib.Core.Logic.{⊎_elim}
use native.Mathlib.Omega.{arith}
use lib.Dec.{eqb, ltb}
use lib.ListN.{get_or}
use lib.Seq.{get_or-take}
use borrow.Author.Tests.{ltb-true, ltb-false}
use Rattle.table.specs.Record.{byte_of, number_of, sort_of, field_a, field_b, field_c, functions, nodes, edges, node_record, edge_from, edge_to}
use Rattle.table.specs.Program.{program_of, within}
use Rattle.table.specs.SameButEdges.{SameButEdges, HasEdge}
use Rattle.table.proofs.Booleans.{either_way, same_test}
use Rattle.table.proofs.Fields.{within_out, edge_read, edge_which}

same_within : (n m i x y : ℕ) → n ≡ m → (i < n → x ≡ y) → within n i x ≡ within m i y
same_within n m i x y e h =
    ⊎_elim
    (λ (l : ltb i n ≡ true). ap (within n i) (h (ltb-true i n l)) ∙ ap (λ (k : ℕ). within k i y) e)
    (λ (g : ltb i n ≡ false). within_out n i x (ltb-false i n g) ∙ sym (within_out m i y (subst (λ (k : ℕ). k ≤ i) e (ltb-false i n g))))
    (either_way (ltb i n))

module _ (t u : List ℕ) (s : SameButEdges t u) where
  byte_same : (r k : ℕ) → r < functions t + nodes t → k < 8 → byte_of t r k ≡ byte_of u r k
  byte_same r k h l =
      let at = r * 8 + k in
      sym (get_or-take ((functions t + nodes t) * 8) t at 0 (omega arith))
      ∙ ap (λ (b : List ℕ). get_or b at 0) s.front_same
      ∙ get_or-take ((functions u + nodes u) * 8) u at 0 (omega (arith, s.functions_same, s.nodes_same))

  number_same : (r k : ℕ) → r < functions t + nodes t → k < 7 → number_of t r k ≡ number_of u r k
  number_same r k h l = rw (byte_same r k h (omega arith), byte_same r (k + 1) h (omega arith)) refl

  module _ (r : ℕ) (h : r < functions t + nodes t) where
    sort_same : sort_of t r ≡ sort_of u r
    unfolding sort_of
    sort_same = byte_same r 1 h (omega arith)

    a_same : field_a t r ≡ field_a u r
    unfolding field_a
    a_same = number_same r 2 h (omega arith)

    b_same : field_b t r ≡ field_b u r
    unfolding field_b
    b_same = number_same r 4 h (omega arith)

    c_same : field_c t r ≡ field_c u r
    unfolding field_c
    c_same = number_same r 6 h (omega arith)

  -- a field of a function, and one of a node
  of_function : (field : List ℕ → ℕ → ℕ) → ((r : ℕ) → r < functions t + nodes t → field t r ≡ field u r) → (f : ℕ) → within (functions t) f (field t f) ≡ within (functions u) f (field u f)
  of_function field e f = same_within _ _ _ _ _ s.functions_same (λ h. e f (omega arith))

  of_node : (field : List ℕ → ℕ → ℕ) → ((r : ℕ) → r < functions t + nodes t → field t r ≡ field u r) → (n : ℕ) → within (nodes t) n (field t (node_record t n)) ≡ within (nodes u) n (field u (node_record u n))
  of_node field e n =
      same_within _ _ _ _ _ s.nodes_same (λ h. e (node_record t n) (omega arith) ∙ ap (λ (m : ℕ). field u (m + n)) s.functions_same)

  entry_same : (f : ℕ) → (ltb f (functions t) && eqb (sort_of t f) 1) ≡ (ltb f (functions u) && eqb (sort_of u f) 1)
  entry_same f =
      ⊎_elim
      (λ (l : ltb f (functions t) ≡ true). rw (← s.functions_same, sort_same f (omega (arith, ltb-true f (functions t) l))) refl)
      (λ (g : ltb f (functions t) ≡ false). rw (← s.functions_same, g) refl)
      (either_way (ltb f (functions t)))

  edge_same : (program_of t).edge ≡ (program_of u).edge
  edge_same = fun_ext (λ a. fun_ext (λ b. same_test _ _ (over t u s.there a b) (over u t s.back a b)))
    where
      over : (x y : List ℕ) → ((e : ℕ) → e < edges x → HasEdge y (edge_from x e) (edge_to x e)) → (a b : ℕ) → (program_of x).edge a b ≡ true → (program_of y).edge a b ≡ true
      over x y f a b h =
          let w = edge_which x a b h in
          let v = f w.0 w.1 in
          edge_read y a b (v.0, v.1, v.2 ∙ w.2, v.3 ∙ w.3)

  pub same_program : program_of t ≡ program_of u
  unfolding program_of
  same_program = λ i. record {
    functions = s.functions_same i;
    nodes = s.nodes_same i;
    entry = λ f. entry_same f i;
    first = λ f. of_function field_a a_same f i;
    exit = λ f. of_function field_b b_same f i;
    frame = λ f. of_function field_c c_same f i;
    sort = λ n. of_node sort_of sort_same n i;
    owner = λ n. of_node field_a a_same n i;
    target = λ n. of_node field_b b_same n i;
    edge = edge_same i;
  }
