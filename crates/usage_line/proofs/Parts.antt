-- What the searches for bytes say of a place, a name and where it stands.
use Rattle.std.proofs.Common.{◌≡◌, ℕ, zero, suc, ◌+◌, ◌-◌, ◌<◌, ◌≤◌, Bool, true, false, not, cond, eqb, List, length, get_or, take, Option, None, Some, refl, sym, ap, ◌∙◌, subst, ⊎_elim, arith}
use Rattle.std.specs.List.{list_all}
use Rattle.std.specs.Option.{is_none, unwrap_or}
use Rattle.std.proofs.lemmas.List.{get_or-take, get_or_default, length-take, length-take-le}
use Rattle.std.proofs.lemmas.List.Sums.{AllPass-from_list_all, list_all-from_AllPass}
use Rattle.std.proofs.lemmas.Bool.{not-true, both_ways, false_from_ne_true, not_from_false, and_left, lt-leb, cond_both}
use Rattle.memchr.specs.Find.{IsFirstByte, IsLastByte, is_byte}
use Rattle.table.proofs.Below.{earliest_none, earliest_some, earliest_found, last_or_before}
use Rattle.table.specs.Below.{earliest}
use Rattle.usage_line.specs.Bytes.{tab, colon, is_count}
use Rattle.usage_line.specs.Line.{behind_last, stands, name_end, count_part}

-- a search that finds nothing
pub none_passes : (test : ℕ → Bool) (bytes : List ℕ) (found : Option ℕ) → IsFirstByte test bytes found → is_none found ≡ list_all (λ b. not (test b)) bytes
none_passes test bytes None none = sym (list_all-from_AllPass (λ b. not (test b)) bytes (λ k d b. not_from_false _ (subst (λ (x : ℕ). test x ≡ false) (get_or_default bytes k 0 d b) (false_from_ne_true _ (none k (omega arith) b)))))
none_passes test bytes (Some k) w = sym (false_from_ne_true _ (λ all. both_ways (test (get_or bytes k 0)) (not-true _ (AllPass-from_list_all (λ b. not (test b)) bytes all k 0 w.0.high)) w.1))

pub name_end_by : (line : List ℕ) (found : Option ℕ) → IsFirstByte (is_byte tab) line found → unwrap_or found (length line) ≡ name_end line
unfolding name_end
name_end_by line None none = sym (ap (λ o. unwrap_or o (length line)) (earliest_none (stands tab line) (length line) (λ k b. false_from_ne_true _ (none k (omega arith) b))))
name_end_by line (Some k) w = sym (ap (λ o. unwrap_or o (length line)) (earliest_some (stands tab line) (length line) k w.0.high (λ j b. false_from_ne_true _ (w.0.before j (omega arith) b)) w.1))

-- the first tab, or the length
pub name_end_is : (line : List ℕ) (end : ℕ) → end < length line → ((k : ℕ) → k < end → stands tab line k ≡ false) → stands tab line end ≡ true → name_end line ≡ end
unfolding name_end
name_end_is line end within before here = ap (λ o. unwrap_or o (length line)) (earliest_some (stands tab line) (length line) end within before here)

pub name_end_tab : (line : List ℕ) → name_end line < length line → stands tab line (name_end line) ≡ true
unfolding name_end
name_end_tab line = go (earliest (stands tab line) (length line)) refl
  where
    go : (o : Option ℕ) → earliest (stands tab line) (length line) ≡ o → unwrap_or o (length line) < length line → stands tab line (unwrap_or o (length line)) ≡ true
    go None e l = absurd (omega arith)
    go (Some r) e l = (earliest_found (stands tab line) (length line) r e).1

-- the least number at or above which nothing below n passes, if what stands before it does
pub behind_last_is : (test : ℕ → Bool) (n r : ℕ) → r ≤ n → (0 < r → test (r - 1) ≡ true) → ((k : ℕ) → r ≤ k → k < n → test k ≡ false) → behind_last test n ≡ r
unfolding behind_last
behind_last_is test zero r le there none = omega arith
behind_last_is test (suc n) r le there none =
    ⊎_elim
    (λ (e : r ≡ suc n). ap (λ b. cond b (suc n) (behind_last test n)) (subst (λ (m : ℕ). test m ≡ true) (omega arith) (there (omega arith))) ∙ sym e)
    (λ (l : r < suc n). ap (λ b. cond b (suc n) (behind_last test n)) (none n (omega arith) (omega arith)) ∙ behind_last_is test n r (omega arith) there (λ k a b. none k a (omega arith)))
    (last_or_before r (suc n) (omega arith))

pub behind_last_le : (test : ℕ → Bool) (n : ℕ) → behind_last test n ≤ n
unfolding behind_last
behind_last_le test zero = omega arith
behind_last_le test (suc n) = cond_both (test n) (suc n) (behind_last test n) (λ m. m ≤ suc n) (λ e. omega arith) (λ e. omega (arith, behind_last_le test n))

-- the same by a search from the end
module _ (line : List ℕ) (end : ℕ) (le : end ≤ length line) where
  at : (k : ℕ) → k < end → (b : Bool) → is_byte colon (get_or (take end line) k 0) ≡ b → stands colon line k ≡ b
  at k l b e = ap (λ (x : ℕ). eqb x colon) (sym (get_or-take end line k 0 l)) ∙ e

  pub behind_last_none : IsLastByte (is_byte colon) (take end line) None → behind_last (stands colon line) end ≡ 0
  behind_last_none none = behind_last_is _ end 0 (omega arith) (λ l. absurd (omega arith)) (λ k a l. at k l false (false_from_ne_true _ (none k a (omega (arith, length-take-le end line le)))))

  pub behind_last_some : (r : ℕ) → IsLastByte (is_byte colon) (take end line) (Some r) → behind_last (stands colon line) end ≡ r + 1
  behind_last_some r w =
      let high : r < end = omega (arith, w.0.high, length-take-le end line le) in
      behind_last_is _ end (r + 1) (omega arith) (λ l. at (r + 1 - 1) (omega arith) true (subst (λ (m : ℕ). is_byte colon (get_or (take end line) m 0) ≡ true) (omega arith) w.1))
      (λ k a l. at k l false (false_from_ne_true _ (w.0.after k a (omega (arith, length-take-le end line le)))))

-- no room between the name's end and the qualifier
pub no_count : (line : List ℕ) → length line < name_end line + 8 → is_count (count_part line) ≡ false
unfolding is_count
no_count line short = and_left _ _ (lt-leb 1 (length (count_part line)) (simp length-take (omega arith)))
