-- Laws of the call order, from its definition alone.
use Prim.Native.Nat.{ℕ, zero, suc, ◌<◌, ◌≤◌}
use mathlib.Core.Path.{◌≡◌, sym, ◌∙◌, subst}
use mathlib.Core.Logic.{⊎_elim}
use native.Mathlib.Omega.{arith}
use native.Mathlib.Decide.{dec_lt}
use Rattle.table.specs.Program.{Program}
use Rattle.table.proofs.Below.{last_or_before}
use Rattle.call_order.specs.Calls.{Calls, NoneReachesItself}
use Rattle.call_order.specs.CallOrder.{Stands, Next, CallOrder}
use Rattle.call_order.proofs.Counting.{count_full}
use Rattle.call_order.proofs.Reaching.{reaches_first}
use Rattle.call_order.proofs.Standing.{standing_told, standing_count, next_same, next_one}

module _ (g : Program) (order : ℕ → ℕ) (o : CallOrder g order) where
  -- "it holds each function once"
  pub each_once : (f : ℕ) → f < g.functions → (i : ℕ) × (i < g.functions) × (order i ≡ f) × ((j : ℕ) → j < g.functions → order j ≡ f → j ≡ i)
  each_once f h =
      let w = standing_told order g.functions f (count_full _ g.functions (standing_count g order g.functions (omega arith) o.each) f h) in
      (w.0, w.1, w.2, λ j l e. same j w.0 l w.1 (e ∙ sym w.2) (dec_lt j w.0) (dec_lt w.0 j))
    where
      same : (j i : ℕ) → j < g.functions → i < g.functions → order j ≡ order i → Dec (j < i) → Dec (i < j) → j ≡ i
      same j i h k e (yes l) _ = absurd ((o.each i k).left (j, l, e))
      same j i h k e (no _) (yes l) = absurd ((o.each j h).left (i, l, sym e))
      same j i h k e (no p) (no q) = omega (arith, p, q)

  -- Where no function reaches itself, what is called stands earlier.
  pub called_first : NoneReachesItself g → (i : ℕ) → i < g.functions → (h : ℕ) → Calls g (order i) h → Stands order i h
  called_first none i l h c = ⊎_elim (λ s. s) (λ r. absurd (none (order i) (reaches_first g c r))) ((o.each i l).may h c)

-- a program has one call order
pub one_order : (g : Program) (o p : ℕ → ℕ) → CallOrder g o → CallOrder g p → (i : ℕ) → i < g.functions → o i ≡ p i
one_order g o p a b i h = below g.functions (omega arith) i h
  where
    below : (n : ℕ) → n ≤ g.functions → (i : ℕ) → i < n → o i ≡ p i
    below zero l i h = absurd (omega arith)
    below (suc n) l i h =
        let before = below n (omega arith) in
        ⊎_elim
        (λ (e : i ≡ n). subst (λ (k : ℕ). o k ≡ p k) (sym e) (next_one g o n (o n) (p n) (a.each n (omega arith)) (next_same g p o n (p n) (λ j k. sym (before j k)) (b.each n (omega arith)))))
        (λ (k : i < n). before i k)
        (last_or_before i n h)

-- and where as many places have the same functions, they are in the call order too
pub same_order : (g : Program) (o p : ℕ → ℕ) → ((i : ℕ) → i < g.functions → o i ≡ p i) → CallOrder g o → CallOrder g p
same_order g o p same c = record {
  each = λ i h. subst (λ (f : ℕ). Next g p i f) (same i h) (next_same g o p i (o i) (λ j k. same j (omega arith)) (c.each i h));
}
