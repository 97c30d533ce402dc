-- What is known of a table. Helps proofs only.
use Rattle.std.specs.Prelude.{ℕ, ◌≡◌, List}
use Rattle.sync.specs.Found.{Looked}
use Rattle.sync.specs.declared.Known.{Known}

-- What is known is known of this table.
pub record KnownFor (t : List ℕ) (known : Known) : Type 0 where
  pub table_is : known.program.table.now ≡ t
  pub looked : Looked known
