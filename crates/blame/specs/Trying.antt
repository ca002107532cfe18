-- What the parts of the search for the only suspect come to.
use Rattle.std.specs.Prelude.{◌≡◌, Bool, List, [], ◌∷◌, ℕ, ◌+◌, ◌-◌, ◌<◌, ◌≤◌}
use Rattle.std.proofs.Math.Option.{Option, none, some}
use Rattle.std.specs.declared.option.Option.{Option as Found}
use Rattle.std.specs.declared.option.Option.TheVariants.{None, Some}
use Rattle.lists.specs.Lists.{from, filter}
use Rattle.table.specs.Packets.{bytes_at}
use Rattle.table.specs.Table.{at_size}

-- the table with packets of one byte, and one byte position of the block
pub record Narrow (t : List ℕ) (n s : ℕ) (b small column : List ℕ) : Type 0 where
  pub byte : ℕ
  pub below : byte < s
  pub table_is : small ≡ at_size 1 t
  pub column-is : column ≡ bytes_at s n byte b

-- r is the first number from i on, and below n, that passes f; n if none does
pub record Next (f : ℕ → Bool) (i n r : ℕ) : Type 0 where
  pub most : r ≤ n
  pub none_left : r ≡ n → filter f (from i (n - i)) ≡ []
  pub rest : r < n → filter f (from i (n - i)) ≡ r ∷ filter f (from (r + 1) (n - (r + 1)))

-- the place that the code tells
abbrev pub place_of : Found ℕ → Option ℕ
place_of None = none
place_of (Some p) = some p
