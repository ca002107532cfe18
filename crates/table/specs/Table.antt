-- The table of checks (document 01, "The table of checks" and the causes 1 to 4): 2, n, s; m and m weights; W0 and W0 places.
use Rattle.std.specs.Prelude.{Bool, true, not, ◌||◌, ◌&&◌, List, [], ◌∷◌, ℕ, suc, ◌+◌, eqb, ltb, leb, length, get_or, set, take, drop}
use Rattle.lists.specs.Lists.{all_pass, any_of}
use Rattle.table.specs.FirstCause.{first_cause}

-- ---- the limits
abbrev pub most_places : ℕ
most_places = 1024

abbrev pub most_bytes : ℕ
most_bytes = 1024

abbrev pub most_checks : ℕ
most_checks = 512

abbrev pub most_weight : ℕ
most_weight = 64

abbrev pub most_ones : ℕ
most_ones = 6144

-- the work buffer of planning and of full repair, "work exactly 8,192 64-bit words": a bit for each place of each check
abbrev pub work_words : ℕ
work_words = 8192

-- ---- the layout
-- n
abbrev pub places : List ℕ → ℕ
places t = get_or t 1 0

-- s, the bytes of a packet
abbrev pub size : List ℕ → ℕ
size t = get_or t 2 0

-- the same matrix with packets of s bytes (document 02, C-16: "We send the same matrix with 64, 256 and 1,024 bytes")
abbrev pub at_size : ℕ → List ℕ → List ℕ
at_size s t = set t 2 s

-- m, the number of checks
abbrev pub number : List ℕ → ℕ
number t = get_or t 3 0

-- the weights of the checks
abbrev pub weights : List ℕ → List ℕ
weights t = take (number t) (drop 4 t)

-- W0, the number of all ones as the table says it
abbrev pub ones_count : List ℕ → ℕ
ones_count t = get_or t (4 + number t) 0

-- the sum of weights
abbrev pub total : List ℕ → ℕ
total [] = 0
total (w ∷ ws) = w + total ws

-- places cut up by weights
abbrev pub cut_up : List ℕ → List ℕ → List (List ℕ)
cut_up [] ps = []
cut_up (w ∷ ws) ps = take w ps ∷ cut_up ws (drop w ps)

-- the checks as lists of places
abbrev pub checks : List ℕ → List (List ℕ)
checks t = cut_up (weights t) (drop (5 + number t) t)

-- the ones of some checks
abbrev pub ones : List (List ℕ) → ℕ
ones [] = 0
ones (c ∷ cs) = length c + ones cs

-- strictly ascending from b on, and below n
abbrev pub rising : ℕ → ℕ → List ℕ → Bool
rising n b [] = true
rising n b (p ∷ c) = leb b p && ltb p n && rising n (suc p) c

-- a number below 1 or above its limit
abbrev pub outside : ℕ → ℕ → Bool
outside most x = eqb x 0 || ltb most x

-- n, s or m beyond its limits
abbrev pub beyond : ℕ → ℕ → ℕ → Bool
beyond n s m = outside most_places n || (outside most_bytes s || ltb most_checks m)

-- ---- the causes
-- 1: "fewer than 5 words"
abbrev pub too_short : List ℕ → Bool
too_short t = ltb (length t) 5

-- 2: "first word not 2, or n, s or m beyond its limits"
abbrev pub beyond_limits : List ℕ → Bool
beyond_limits t = not (eqb (get_or t 0 0) 2) || beyond (places t) (size t) (number t)

-- 3: "fewer than 5 + m words, a weight over 64, W0 over 6,144 or not the sum of weights, wrong length"
abbrev pub bad_lengths : List ℕ → Bool
bad_lengths t = ltb (length t) (5 + number t) || (any_of (ltb most_weight) (weights t) || (ltb most_ones (ones_count t)
    || (not (eqb (ones_count t) (total (weights t))) || not (eqb (length t) (5 + number t + ones_count t)))))

-- 4: "a place at or above n, or not ascending"
abbrev pub bad_places : List ℕ → Bool
bad_places t = not (all_pass (rising (places t) 0) (checks t))

-- the causes in their order
abbrev pub table_causes : List ℕ → List (Bool × ℕ)
table_causes t = (too_short t, 1) ∷ (beyond_limits t, 2) ∷ (bad_lengths t, 3) ∷ (bad_places t, 4) ∷ []

-- the number of the first cause that holds, 0 for none
abbrev pub refusal : List ℕ → ℕ
refusal t = first_cause (table_causes t)
