-- Worked fills, by computing: their rows, and their draws counted.
use Rattle.std.specs.Prelude.{◌≡◌, refl, List, [], ◌∷◌, map, ℕ, suc}
use Rattle.std.proofs.Math.Option.{Option, none, some}
use Rattle.lists.specs.Lists.{from}
use Rattle.fill.specs.Fill.{State, fill}

-- the rows, if the draws were enough; the last one put first
abbrev rows_of : Option State → List (List ℕ)
rows_of none = []
rows_of (some s) = s.rows

-- 3 sources, 4 checks, 3 ones in a column, seed 1: a one by rows
pub rows-filled : rows_of (fill 3 4 3 1 65536) ≡ (2 ∷ 0 ∷ []) ∷ (2 ∷ 1 ∷ []) ∷ (2 ∷ 1 ∷ 0 ∷ []) ∷ (1 ∷ 0 ∷ []) ∷ []
unfolding from
rows-filled = refl

-- ---- 4 sources, 13 checks, 3 ones in a column, seed 1
-- the draws left, and one more; 0 if there were too few
abbrev draws_left : Option State → ℕ
draws_left none = 0
draws_left (some s) = suc s.left

-- it takes 30 draws: no draw more than that is asked for ..
pub draws-counted : map (λ d. draws_left (fill 4 13 3 1 d)) (30 ∷ 31 ∷ 65536 ∷ []) ≡ 1 ∷ 2 ∷ 65507 ∷ []
unfolding from
draws-counted = refl

-- .. and one less is too few
pub draws-spent : draws_left (fill 4 13 3 1 29) ≡ 0
unfolding from
draws-spent = refl
