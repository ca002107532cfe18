-- Rows of a work buffer by their highest places: owner has, for each place, the number of the row that leads it plus 1, 0 for none.
use Rattle.std.specs.Prelude.{◌≡◌, cond, List, ℕ, ◌+◌, ◌-◌, ◌*◌, ◌<◌, ◌≤◌, eqb, length, get_or}
use Rattle.gf2.specs.Gf2.{Short, Bits, down, path}
use Rattle.bits.specs.Row.{row, RowPut}

-- the row whose highest place is p, 0 for none
unfoldable pub leads : List ℕ → List ℕ → ℕ → ℕ
leads w owner p = cond (eqb (get_or owner p 0) 0) 0 (row w (get_or owner p 0 - 1))

-- owner names rows of w by their highest places, none of them row k
pub record Owners (w owner : List ℕ) (k : ℕ) : Type 0 where
  pub room : (p : ℕ) → get_or owner p 0 * 16 ≤ length w
  pub apart : (p : ℕ) → get_or owner p 0 ≡ k + 1 → ⊥
  pub lead : (p : ℕ) → 0 < get_or owner p 0 → Bits (row w (get_or owner p 0 - 1)) (p + 1)

-- row k of w, which has no place from n on, can be reduced by the rows that owner names
pub record Reducible (w owner : List ℕ) (k n : ℕ) : Type 0 where
  pub inside : k * 16 + 16 ≤ length w
  pub most : n ≤ 1024
  pub places : n ≤ length owner
  pub owners : Owners w owner k
  pub short : Short n (row w k)

-- e is w with row k, at first x, reduced; r is one more than its highest place, 0 if it is zero, and no row leads that place
pub record Lowered (w owner : List ℕ) (k n x : ℕ) (e : List ℕ) (r : ℕ) : Type 0 where
  pub put : RowPut w k (down (leads w owner) n x) e
  pub bits : Bits (down (leads w owner) n x) r
  pub most : r ≤ n
  pub free : 0 < r → get_or owner (r - 1) 0 ≡ 0

-- the places that lead the rows added to row k
abbrev pub path_of : List ℕ → List ℕ → ℕ → ℕ → List ℕ
path_of w owner k n = path (leads w owner) n (row w k)
