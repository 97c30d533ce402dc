-- How depths are found: level by level from the entries. Helps proofs only.
use Rattle.std.specs.Prelude.{ℕ, suc, ◌+◌, ◌<◌, ◌≤◌, ◌≡◌, Bool, true, false, cond, ◌&&◌, ◌⊎◌, eqb, List, Option, None, Some, get_or}
use Rattle.std.specs.Option.{is_none}
use Rattle.table.specs.Below.{count}
use Rattle.table.specs.Record.{has_target}
use Rattle.table.specs.Program.{Program}
use Rattle.preference.specs.Depth.{Away, Fewest}

-- the depth of each function, as far as it is found
abbrev pub found_in : List (Option ℕ) → ℕ → Option ℕ
found_in depth f = get_or depth f None

-- the depths up to the level are found
pub record Levels (g : Program) (level : ℕ) (depth : ℕ → Option ℕ) : Type 0 where
  pub found : (f d : ℕ) → f < g.functions → depth f ≡ Some d → (d ≤ level) × Away g f d
  pub complete : (f k : ℕ) → f < g.functions → k ≤ level → Away g f k → (d : ℕ) × (depth f ≡ Some d) × (d ≤ k)

-- how many functions have none yet
abbrev pub unfound : Program → (ℕ → Option ℕ) → ℕ
unfound g depth = count (λ f. is_none (depth f)) g.functions

-- a depth is that of the level
abbrev pub is_level : ℕ → Option ℕ → Bool
is_level level None = false
is_level level (Some d) = eqb d level

-- node n leads from a function of the level to one that has no depth yet
abbrev pub leads_down : Program → ℕ → (ℕ → Option ℕ) → ℕ → Bool
leads_down g level depth n = has_target (g.sort n) && is_level level (depth (g.owner n)) && is_none (depth (g.target n))

-- what the nodes below n have made of the depths, for one level more
pub record Deepening (g : Program) (level n : ℕ) (old new : ℕ → Option ℕ) (grew : Bool) : Type 0 where
  pub moved : (f : ℕ) → f < g.functions → (new f ≡ old f) ⊎ ((old f ≡ None) × (new f ≡ Some (level + 1)) × Away g f (suc level))
  pub passed : (m : ℕ) → m < n → has_target (g.sort m) ≡ true → old (g.owner m) ≡ Some level → new (g.target m) ≡ None → ⊥
  pub quiet : grew ≡ false → (f : ℕ) → f < g.functions → new f ≡ old f
  pub falls : unfound g new + cond grew 1 0 ≤ unfound g old

-- what all nodes give: nothing where none leads down, and else a depth for more functions
abbrev pub Deepened : Program → ℕ → (ℕ → Option ℕ) → Option (List (Option ℕ)) → Type 0
Deepened g level old None = (n : ℕ) → n < g.nodes → leads_down g level old n ≡ false
Deepened g level old (Some new) = Deepening g level g.nodes old (found_in new) true

-- all depths are found
pub record Sounded (g : Program) (depth : ℕ → Option ℕ) : Type 0 where
  pub unreached : (f : ℕ) → f < g.functions → depth f ≡ None → (k : ℕ) → Away g f k → ⊥
  pub reached : (f d : ℕ) → f < g.functions → depth f ≡ Some d → Fewest g f d
