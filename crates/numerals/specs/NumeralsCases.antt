-- Worked texts, by computing.
use Rattle.std.specs.Prelude.{Some, None, ◌≡◌, refl, List, [], ◌∷◌, ◌++◌, ℕ}
use Rattle.numerals.specs.Numerals.{number_of}

-- the digits of 1844674407370955161
abbrev most : List ℕ
most = 49 ∷ 56 ∷ 52 ∷ 52 ∷ 54 ∷ 55 ∷ 52 ∷ 52 ∷ 48 ∷ 55 ∷ 51 ∷ 55 ∷ 48 ∷ 57 ∷ 53 ∷ 53 ∷ 49 ∷ 54 ∷ 49 ∷ []

-- "0", "0042"; the greatest, 18446744073709551615
pub numbers : number_of (48 ∷ []) ∷ number_of (48 ∷ 48 ∷ 52 ∷ 50 ∷ []) ∷ number_of (most ++ (53 ∷ [])) ∷ [] ≡ Some 0 ∷ Some 42 ∷ Some 18446744073709551615 ∷ []
unfolding number_of
numbers = refl

-- "", "-1", "4 ", and one more than the greatest
pub no-numbers : number_of [] ∷ number_of (45 ∷ 49 ∷ []) ∷ number_of (52 ∷ 32 ∷ []) ∷ number_of (most ++ (54 ∷ [])) ∷ [] ≡ None ∷ None ∷ None ∷ None ∷ []
unfolding number_of
no-numbers = refl
