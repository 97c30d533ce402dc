-- "Function, kind 1." "Node, kind 2." "Edge, kind 3." No other kind is listed.
use Rattle.std.specs.Prelude.{ℕ, ◌≡◌, ◌≢◌, Option, None, Some}
use Rattle.table.specs.declared.kinds.Kind.{Kind}
use Rattle.table.specs.declared.kinds.Kind.TheVariants.{Function, Node, Edge}

abbrev pub number_of_kind : Kind → ℕ
number_of_kind Function = 1
number_of_kind Node = 2
number_of_kind Edge = 3

abbrev pub IsListed : Option Kind → ℕ → Type 0
IsListed (Some kind) number = number ≡ number_of_kind kind
IsListed None number = (number ≢ 1) × (number ≢ 2) × (number ≢ 3)
