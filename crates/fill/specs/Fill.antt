-- RFC 5170's left side: the fill by columns, and the extra ones by rows, in its order. The quoted words are those of docs/RFC5170.md.
use Rattle.std.specs.Prelude.{Bool, true, false, not, List, [], ◌∷◌, map, ℕ, zero, suc, ◌+◌, ◌-◌, ◌*◌, ◌%◌, eqb, length, get_or, set, drop, replicate}
use Rattle.std.proofs.Math.Option.{Option, none, some}
use Rattle.lists.specs.Lists.{has, any_of, from}
use Rattle.draws.specs.Generator.{until}

-- for each row the columns of its ones so far; the RFC's list u and its t; the generator's value and the draws left
pub record State : Type 0 where
  pub rows : List (List ℕ)
  pub order : List ℕ
  pub used : ℕ
  pub raw : ℕ
  pub left : ℕ

-- "there is no one at (r, j)"
abbrev pub vacant : List (List ℕ) → ℕ → ℕ → Bool
vacant rows j r = not (has j (get_or rows r []))

-- a one put at (r, j)
abbrev pub put : List (List ℕ) → ℕ → ℕ → List (List ℕ)
put rows r j = set rows r (j ∷ get_or rows r [])

-- go on if there were draws enough
abbrev pub and_then : Option State → (State → Option State) → Option State
and_then none f = none
and_then (some s) f = f s

-- ---- step 2, the columns
-- by the list u: "draw i := t + draw(N1·k − t) until there is none at (u[i], j); put a one there; u[i] := u[t]; t := t + 1"
abbrev pub by_order : ℕ → ℕ → State → Option State
by_order entries j s = elim (until s.left s.raw (entries - s.used) (λ v. vacant s.rows j (get_or s.order (s.used + v) 0))) [
  | some d ↦ some (record {
    rows = put s.rows (get_or s.order (s.used + d.value) 0) j;
    order = set s.order (s.used + d.value) (get_or s.order s.used 0);
    used = suc s.used;
    raw = d.raw;
    left = d.left;
  })
  | none ↦ none
]

-- by rows: "draw i := draw(n − k) until there is no one at (i, j), and put it there (t stays)"
abbrev pub by_row : ℕ → ℕ → State → Option State
by_row m j s = elim (until s.left s.raw m (vacant s.rows j)) [
  | some d ↦ some (record { rows = put s.rows d.value j; order = s.order; used = s.used; raw = d.raw; left = d.left })
  | none ↦ none
]

-- "if some i from t to N1·k − 1 has no one at (u[i], j)", by the list u, "otherwise" by rows; entries is N1·k, the length of u
abbrev pub one : ℕ → ℕ → ℕ → State → Option State
one entries m j s = elim (any_of (vacant s.rows j) (drop s.used s.order)) [ true ↦ by_order entries j s | false ↦ by_row m j s ]

-- c ones in column j
abbrev pub column : ℕ → ℕ → ℕ → ℕ → State → Option State
column entries m j zero s = some s
column entries m j (suc c) s = and_then (one entries m j s) (λ r. column entries m j c r)

-- "for each column j, ascending, N1 times": c columns from j on
abbrev pub columns : ℕ → ℕ → ℕ → ℕ → ℕ → State → Option State
columns entries m ones j zero s = some s
columns entries m ones j (suc c) s = and_then (column entries m j ones s) (λ r. columns entries m ones (suc j) c r)

-- ---- step 3, the rows
-- a draw below k that passes is put in row i
abbrev pub extra : ℕ → ℕ → (ℕ → Bool) → State → Option State
extra k i f s = elim (until s.left s.raw k f) [
  | some d ↦ some (record { rows = put s.rows i d.value; order = s.order; used = s.used; raw = d.raw; left = d.left })
  | none ↦ none
]

-- "if it has no one on the left side, draw j := draw(k) and put a one at (i, j)"
abbrev pub first_one : ℕ → ℕ → State → Option State
first_one k i s = elim (eqb (length (get_or s.rows i [])) 0) [ true ↦ extra k i (λ j. true) s | false ↦ some s ]

-- "if it then has exactly one, draw j := draw(k) until there is none at (i, j), and put it"
abbrev pub second_one : ℕ → ℕ → State → Option State
second_one k i s = elim (eqb (length (get_or s.rows i [])) 1) [ true ↦ extra k i (λ j. not (has j (get_or s.rows i []))) s | false ↦ some s ]

-- "for each row i, ascending": c rows from i on
abbrev pub extras : ℕ → ℕ → ℕ → State → Option State
extras k i zero s = some s
extras k i (suc c) s = and_then (and_then (first_one k i s) (λ r. second_one k i r)) (λ r. extras k (suc i) c r)

-- ---- the whole
-- "a list u of N1·k entries, u[h] = h mod (n − k)"; t 0, no ones
abbrev pub start : ℕ → ℕ → ℕ → ℕ → State
start m entries seed draws = record { rows = replicate m []; order = map (λ h. h % m) (from 0 entries); used = 0; raw = seed; left = draws }

-- the state after the fill, if the draws were enough; m is n − k
abbrev pub fill : ℕ → ℕ → ℕ → ℕ → ℕ → Option State
fill k m ones seed draws = and_then (columns (ones * k) m ones 0 k (start m (ones * k) seed draws)) (λ s. extras k 0 m s)
