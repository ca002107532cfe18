-- Rows of bits for a table's places and for its checks.
use Rattle.std.specs.Prelude.{◌≡◌, List, [], ℕ, length, get_or}
use Rattle.lists.specs.Lists.{bxor, has, par, filter, from}
use Rattle.gf2.specs.Gf2.{bit}
use Rattle.table.specs.Table.{checks}
use Rattle.bits.specs.Row.{row, places_in, rows_in}

-- e is w with bit j flipped in the rows of the places ps
pub record Flipped (j : ℕ) (ps w e : List ℕ) : Type 0 where
  pub len : length e ≡ length w
  pub here : (c : ℕ) → bit j (row e c) ≡ bxor (par c ps) (bit j (row w c))
  pub rest : (c q : ℕ) → (q ≡ j → ⊥) → bit q (row e c) ≡ bit q (row w c)

-- the rows of the places have the numbers of the checks with them, those of the m checks their places
pub record Loaded (t : List ℕ) (m : ℕ) (columns rows : List ℕ) : Type 0 where
  pub column : (c : ℕ) → places_in (row columns c) ≡ filter (λ r. has c (get_or (checks t) r [])) (from 0 (length (checks t)))
  pub listed : rows_in rows m ≡ checks t
