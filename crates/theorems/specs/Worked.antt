-- Worked cases beyond the paper's: tables with one to three checks set aside, whose fitted packets aren't zero, and a repair in which
-- the lowest ready check matters. What the definitions give of each; each row was found to tell many wrong rules from the right one.
use Rattle.std.specs.Prelude.{◌≡◌, refl, List, [], ◌∷◌, map, ℕ, length, replicate}
use Rattle.suspects.specs.Blame.{blamed}
use Rattle.encoder.specs.Encoding.{encode_refusal_at}
use Rattle.planning.specs.Planning.{plan_of, numbers_of, numbers_by, plan_of_by}
use Rattle.repair.specs.Repair.{repair_refusal}
use Rattle.theorems.specs.Starred.{Case, answered, mended}

-- a table with one information place: its plan, W, its fitted places, and the encoding of the byte 1: additions, block and scratch
abbrev gap_case : List ℕ → List ℕ → ℕ → ℕ → List ℕ → List ℕ → List ℕ → Case
gap_case t plan W additions fitted block scratch = record {
  given = numbers_of t ∷ ((plan_of t).W ∷ []) ∷ (plan_of t).fitted ∷ answered plan 1 (1 ∷ []) (replicate (length block) 9) (replicate (length scratch) 9);
  wanted = plan ∷ (W ∷ []) ∷ fitted ∷ (0 ∷ additions ∷ []) ∷ block ∷ scratch ∷ [];
}

abbrev pub worked : List Case
worked =
    gap_case (2 ∷ 4 ∷ 1 ∷ 3 ∷ 3 ∷ 2 ∷ 4 ∷ 9 ∷ 0 ∷ 1 ∷ 2 ∷ 2 ∷ 3 ∷ 0 ∷ 1 ∷ 2 ∷ 3 ∷ [])
    (3 ∷ 4 ∷ 1 ∷ 3 ∷ 1 ∷ 0 ∷ 15 ∷ 8192 ∷ 16785408 ∷ 12288 ∷ 16789506 ∷ 16384 ∷ 16793600 ∷ 16793602 ∷ 16793603 ∷ 4096 ∷ 16781316 ∷ 8192 ∷ 16785408 ∷ 16785409 ∷ 12288 ∷ 16789506 ∷ [])
    9 9 (1 ∷ []) (1 ∷ 1 ∷ 0 ∷ 0 ∷ []) (1 ∷ [])
    ∷ gap_case (2 ∷ 5 ∷ 1 ∷ 4 ∷ 4 ∷ 4 ∷ 4 ∷ 3 ∷ 15 ∷ 0 ∷ 1 ∷ 2 ∷ 4 ∷ 0 ∷ 2 ∷ 3 ∷ 4 ∷ 0 ∷ 1 ∷ 2 ∷ 3 ∷ 1 ∷ 3 ∷ 4 ∷ [])
    (3 ∷ 5 ∷ 2 ∷ 4 ∷ 1 ∷ 0 ∷ 23 ∷ 12288 ∷ 16789504 ∷ 16384 ∷ 16793603 ∷ 20480 ∷ 16797696 ∷ 16797700 ∷ 24576 ∷ 16801792 ∷ 16801795 ∷ 16801796 ∷ 4096 ∷ 16781317 ∷ 8192 ∷ 16785413 ∷ 16785414 ∷ 12288 ∷ 16789504 ∷ 16789505 ∷ 16789506 ∷ 16384 ∷ 16793601 ∷ 16793603 ∷ [])
    15 15 (1 ∷ 2 ∷ []) (1 ∷ 0 ∷ 1 ∷ 0 ∷ 0 ∷ []) (0 ∷ 1 ∷ [])
    ∷ gap_case (2 ∷ 6 ∷ 1 ∷ 5 ∷ 5 ∷ 4 ∷ 5 ∷ 4 ∷ 5 ∷ 23 ∷ 0 ∷ 1 ∷ 3 ∷ 4 ∷ 5 ∷ 0 ∷ 1 ∷ 4 ∷ 5 ∷ 0 ∷ 1 ∷ 2 ∷ 3 ∷ 5 ∷ 0 ∷ 1 ∷ 2 ∷ 3 ∷ 1 ∷ 2 ∷ 3 ∷ 4 ∷ 5 ∷ [])
    (3 ∷ 6 ∷ 2 ∷ 5 ∷ 1 ∷ 0 ∷ 35 ∷ 12288 ∷ 16789504 ∷ 20480 ∷ 16797696 ∷ 16797699 ∷ 16384 ∷ 16793603 ∷ 16793605 ∷ 24576 ∷ 16801792 ∷ 16801795 ∷ 16801796 ∷ 16801797 ∷ 28672 ∷ 16805888 ∷ 16805892 ∷ 16805893 ∷ 4096 ∷ 16781319 ∷ 8192 ∷ 16785414 ∷ 12288 ∷ 16789504 ∷ 16789505 ∷ 16789506 ∷ 20480 ∷ 16797696 ∷ 16797697 ∷ 16797698 ∷ 16797699 ∷ 16384 ∷ 16793601 ∷ 16793602 ∷ 16793603 ∷ 16793605 ∷ [])
    23 25 (1 ∷ 2 ∷ []) (1 ∷ 0 ∷ 1 ∷ 0 ∷ 1 ∷ 0 ∷ []) (1 ∷ 0 ∷ [])
    ∷ gap_case (2 ∷ 6 ∷ 1 ∷ 6 ∷ 5 ∷ 5 ∷ 4 ∷ 5 ∷ 4 ∷ 2 ∷ 25 ∷ 0 ∷ 1 ∷ 2 ∷ 3 ∷ 5 ∷ 1 ∷ 2 ∷ 3 ∷ 4 ∷ 5 ∷ 0 ∷ 1 ∷ 3 ∷ 5 ∷ 0 ∷ 2 ∷ 3 ∷ 4 ∷ 5 ∷ 1 ∷ 2 ∷ 4 ∷ 5 ∷ 2 ∷ 3 ∷ [])
    (3 ∷ 6 ∷ 2 ∷ 5 ∷ 1 ∷ 1 ∷ 37 ∷ 20480 ∷ 16797697 ∷ 12288 ∷ 16789505 ∷ 16789509 ∷ 0 ∷ 16777219 ∷ 16777221 ∷ 24576 ∷ 16801792 ∷ 16801793 ∷ 16801795 ∷ 16801797 ∷ 28672 ∷ 16805888 ∷ 16805889 ∷ 16805891 ∷ 16805893 ∷ 8192 ∷ 16785414 ∷ 16785415 ∷ 16384 ∷ 16793606 ∷ 20480 ∷ 16797697 ∷ 16797698 ∷ 16797700 ∷ 12288 ∷ 16789505 ∷ 16789506 ∷ 16789508 ∷ 16789509 ∷ 0 ∷ 16777218 ∷ 16777219 ∷ 16777220 ∷ 16777221 ∷ [])
    23 27 (2 ∷ 4 ∷ []) (1 ∷ 1 ∷ 0 ∷ 0 ∷ 1 ∷ 0 ∷ []) (1 ∷ 1 ∷ [])
    ∷ gap_case (2 ∷ 6 ∷ 1 ∷ 5 ∷ 2 ∷ 4 ∷ 5 ∷ 5 ∷ 4 ∷ 20 ∷ 4 ∷ 5 ∷ 0 ∷ 1 ∷ 3 ∷ 5 ∷ 1 ∷ 2 ∷ 3 ∷ 4 ∷ 5 ∷ 0 ∷ 2 ∷ 3 ∷ 4 ∷ 5 ∷ 0 ∷ 1 ∷ 2 ∷ 4 ∷ [])
    (3 ∷ 6 ∷ 3 ∷ 5 ∷ 1 ∷ 2 ∷ 31 ∷ 16384 ∷ 16793602 ∷ 20480 ∷ 16797698 ∷ 16797700 ∷ 24576 ∷ 16801796 ∷ 16801797 ∷ 28672 ∷ 16805893 ∷ 32768 ∷ 16809986 ∷ 16809988 ∷ 16809989 ∷ 0 ∷ 16777223 ∷ 4096 ∷ 16781319 ∷ 16781320 ∷ 12288 ∷ 16789510 ∷ 16789511 ∷ 16384 ∷ 16793600 ∷ 16793601 ∷ 16793602 ∷ 20480 ∷ 16797696 ∷ 16797698 ∷ 16797699 ∷ 16797700 ∷ [])
    20 21 (0 ∷ 1 ∷ 3 ∷ []) (0 ∷ 0 ∷ 1 ∷ 1 ∷ 1 ∷ 1 ∷ []) (1 ∷ 0 ∷ 0 ∷ [])
    -- places count by the checks that are live still, not by those that were taken
    ∷ gap_case (2 ∷ 7 ∷ 1 ∷ 6 ∷ 2 ∷ 3 ∷ 4 ∷ 4 ∷ 2 ∷ 4 ∷ 19 ∷ 1 ∷ 4 ∷ 0 ∷ 2 ∷ 5 ∷ 0 ∷ 2 ∷ 3 ∷ 6 ∷ 0 ∷ 2 ∷ 4 ∷ 5 ∷ 2 ∷ 4 ∷ 1 ∷ 2 ∷ 4 ∷ 5 ∷ [])
    (3 ∷ 7 ∷ 2 ∷ 6 ∷ 1 ∷ 3 ∷ 30 ∷ 16384 ∷ 20480 ∷ 4096 ∷ 16781316 ∷ 16781317 ∷ 24576 ∷ 16801795 ∷ 28672 ∷ 16805889 ∷ 16805892 ∷ 32768 ∷ 16809988 ∷ 16809989 ∷ 0 ∷ 16777223 ∷ 8192 ∷ 16785416 ∷ 16384 ∷ 16793602 ∷ 20480 ∷ 16797696 ∷ 16797698 ∷ 4096 ∷ 16781314 ∷ 16781316 ∷ 16781317 ∷ 24576 ∷ 16801792 ∷ 16801794 ∷ 16801795 ∷ [])
    19 18 (0 ∷ 2 ∷ []) (0 ∷ 0 ∷ 0 ∷ 1 ∷ 0 ∷ 0 ∷ 1 ∷ []) (0 ∷ 0 ∷ [])
    -- a sweep that goes on upwards takes no addition
    ∷ record { given = mended (2 ∷ 3 ∷ 1 ∷ 3 ∷ 3 ∷ 1 ∷ 1 ∷ 5 ∷ 0 ∷ 1 ∷ 2 ∷ 0 ∷ 1 ∷ []) (9 ∷ 9 ∷ 0 ∷ []) (1 ∷ 1 ∷ 0 ∷ []); wanted = (0 ∷ 2 ∷ 0 ∷ 2 ∷ []) ∷ (0 ∷ 0 ∷ []) ∷ (0 ∷ 0 ∷ 0 ∷ []) ∷ (2 ∷ 2 ∷ 0 ∷ []) ∷ [] }
    ∷ []

pub worked-cases : map (λ c. c.given) worked ≡ map (λ c. c.wanted) worked
unfolding encode_refusal_at repair_refusal blamed plan_of_by numbers_by
worked-cases = refl
