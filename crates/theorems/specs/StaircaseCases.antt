-- Worked tables of the maker, and its refusals in their order, by computing.
use Rattle.std.specs.Prelude.{◌≡◌, refl, [], ◌∷◌, ℕ}
use Rattle.lists.specs.Lists.{from}
use Rattle.staircase.specs.Staircase.{staircase_refusal_at, staircase_table}

-- ---- tables
-- k 4, n 8, N1 3, seed 1: every one by the list u, no extra ones
pub small-table : staircase_table 4 8 3 1 1
    ≡ 2 ∷ 8 ∷ 1 ∷ 4 ∷ 4 ∷ 5 ∷ 5 ∷ 5 ∷ 19 ∷ 0 ∷ 1 ∷ 3 ∷ 4 ∷ 0 ∷ 2 ∷ 3 ∷ 4 ∷ 5 ∷ 0 ∷ 1 ∷ 2 ∷ 5 ∷ 6 ∷ 1 ∷ 2 ∷ 3 ∷ 6 ∷ 7 ∷ []
unfolding staircase_table from
small-table = refl

-- k 3, n 7, N1 3, seed 1: a one by rows
pub table-by-rows : staircase_table 3 7 3 1 1
    ≡ 2 ∷ 7 ∷ 1 ∷ 4 ∷ 3 ∷ 4 ∷ 5 ∷ 4 ∷ 16 ∷ 0 ∷ 2 ∷ 3 ∷ 1 ∷ 2 ∷ 3 ∷ 4 ∷ 0 ∷ 1 ∷ 2 ∷ 4 ∷ 5 ∷ 0 ∷ 1 ∷ 5 ∷ 6 ∷ []
unfolding staircase_table from
table-by-rows = refl

-- k 4, n 17, N1 3, seed 1: extra ones, in an empty row too
pub table-with-extras : staircase_table 4 17 3 1 1
    ≡ 2 ∷ 17 ∷ 1 ∷ 13 ∷ 3 ∷ 4 ∷ 4 ∷ 4 ∷ 4 ∷ 4 ∷ 4 ∷ 4 ∷ 4 ∷ 4 ∷ 4 ∷ 4 ∷ 4 ∷ 51 ∷ 0 ∷ 3 ∷ 4 ∷ 0 ∷ 3 ∷ 4 ∷ 5 ∷ 0 ∷ 2 ∷ 5 ∷ 6 ∷ 0 ∷ 2 ∷ 6 ∷ 7 ∷ 1 ∷ 3 ∷
    7 ∷ 8 ∷ 0 ∷ 2 ∷ 8 ∷ 9 ∷ 1 ∷ 2 ∷ 9 ∷ 10 ∷ 1 ∷ 2 ∷ 10 ∷ 11 ∷ 1 ∷ 3 ∷ 11 ∷ 12 ∷ 0 ∷ 3 ∷ 12 ∷ 13 ∷ 0 ∷ 2 ∷ 13 ∷ 14 ∷ 2 ∷ 3 ∷ 14 ∷ 15 ∷ 1 ∷ 2 ∷
    15 ∷ 16 ∷ []
unfolding staircase_table from
table-with-extras = refl

-- k 16, n 28, N1 5, the greatest seed, 1,024 bytes
pub larger-table : staircase_table 16 28 5 2147483646 1024
    ≡ 2 ∷ 28 ∷ 1024 ∷ 12 ∷ 8 ∷ 9 ∷ 9 ∷ 9 ∷ 9 ∷ 9 ∷ 9 ∷ 9 ∷ 8 ∷ 8 ∷ 8 ∷ 8 ∷ 103 ∷ 1 ∷ 2 ∷ 3 ∷ 4 ∷ 9 ∷ 12 ∷ 14 ∷ 16 ∷ 8 ∷ 9 ∷ 10 ∷ 11 ∷ 13 ∷ 14 ∷ 15 ∷
    16 ∷ 17 ∷ 0 ∷ 4 ∷ 6 ∷ 7 ∷ 12 ∷ 13 ∷ 14 ∷ 17 ∷ 18 ∷ 0 ∷ 3 ∷ 5 ∷ 8 ∷ 9 ∷ 11 ∷ 15 ∷ 18 ∷ 19 ∷ 1 ∷ 4 ∷ 5 ∷ 7 ∷ 10 ∷ 11 ∷ 15 ∷ 19 ∷ 20 ∷ 1 ∷ 2 ∷
    3 ∷ 7 ∷ 10 ∷ 12 ∷ 15 ∷ 20 ∷ 21 ∷ 1 ∷ 2 ∷ 4 ∷ 5 ∷ 6 ∷ 9 ∷ 10 ∷ 21 ∷ 22 ∷ 0 ∷ 1 ∷ 7 ∷ 11 ∷ 13 ∷ 14 ∷ 15 ∷ 22 ∷ 23 ∷ 0 ∷ 4 ∷ 5 ∷ 6 ∷ 7 ∷ 12 ∷
    23 ∷ 24 ∷ 0 ∷ 2 ∷ 3 ∷ 6 ∷ 8 ∷ 11 ∷ 24 ∷ 25 ∷ 2 ∷ 6 ∷ 8 ∷ 9 ∷ 12 ∷ 13 ∷ 25 ∷ 26 ∷ 3 ∷ 5 ∷ 8 ∷ 10 ∷ 13 ∷ 14 ∷ 26 ∷ 27 ∷ []
unfolding staircase_table from
larger-table = refl

-- ---- refusals: each before those after it
abbrev refuses : ℕ → ℕ → ℕ → ℕ → ℕ → ℕ → ℕ
refuses k n ones seed s buffer = staircase_refusal_at k n ones seed s buffer

-- 11 before 2 and 5: no source, no packet above it, ones outside 3 to 10 or above the checks, seeds 0 and 2^31 − 1
pub parameters-first : refuses 0 5 3 1 0 9 ∷ refuses 5 5 3 1 0 9 ∷ refuses 2 8 2 1 0 9 ∷ refuses 2 14 11 1 0 9 ∷ refuses 2 5 4 1 0 9 ∷ refuses 2 8 3 0 0 9
    ∷ refuses 2 8 3 2147483647 0 9 ∷ [] ≡ 11 ∷ 11 ∷ 11 ∷ 11 ∷ 11 ∷ 11 ∷ 11 ∷ []
unfolding staircase_refusal_at from
parameters-first = refl

-- 2 before 5: packets of 0 and 1,025 bytes, 1,025 packets, 513 checks
pub limits-second : refuses 2 8 3 1 0 9 ∷ refuses 2 8 3 1 1025 9 ∷ refuses 1000 1025 3 1 1 9 ∷ refuses 1 514 3 1 1 9 ∷ [] ≡ 2 ∷ 2 ∷ 2 ∷ 2 ∷ []
unfolding staircase_refusal_at from
limits-second = refl

-- 5 before 11 by the draws and before 3
pub length-third : refuses 1 5 3 1 1 6660 ∷ refuses 64 67 3 1 1 6662 ∷ [] ≡ 5 ∷ 5 ∷ []
unfolding staircase_refusal_at from
length-third = refl

-- 11 by the draws, of one source; 3, 64 ones and the stair's in one check
pub draws-and-weights : refuses 1 5 3 1 1 6661 ∷ refuses 64 67 3 1 1 6661 ∷ [] ≡ 11 ∷ 3 ∷ []
unfolding staircase_refusal_at from
draws-and-weights = refl

-- no refusal: the worked tables; 64 places in a check are taken, 65 aren't
pub taken : refuses 4 8 3 1 1 6661 ∷ refuses 3 7 3 1 1 6661 ∷ refuses 4 17 3 1 1 6661 ∷ refuses 16 28 5 2147483646 1024 6661 ∷ refuses 62 65 3 1 1 6661
    ∷ refuses 63 66 3 1 1 6661 ∷ [] ≡ 0 ∷ 0 ∷ 0 ∷ 0 ∷ 0 ∷ 3 ∷ []
unfolding staircase_refusal_at from
taken = refl
