-- What the planner's buffers hold, by the rule's definitions.
use Rattle.std.specs.Prelude.{◌≡◌, Bool, List, [], ◌∷◌, ◌++◌, map, ℕ, zero, suc, ◌/◌, ◌<◌, ◌≤◌, length, get_or, take}
use Rattle.gf2.specs.Gf2.{bit}
use Rattle.table.specs.Checks.{check}
use Rattle.table.specs.Table.{places, number, checks}
use Rattle.rule.specs.Rule.{Choice, Solved, kept, most_freed, peel_by, solved_of, set_aside_of, PeelEvent, reduced, fitted_places, inverse}

-- k solved checks: their numbers in order, their own places in owns, by the order of taking
unfoldable pub solved : (ℕ → List ℕ) → List ℕ → List ℕ → ℕ → List Solved
solved g order owns zero = []
solved g order owns (suc k) = solved g order owns k ++ (record { own = get_or owns k 0; check = g (get_or order k 0) } ∷ [])

-- steps 2 and 3 for a table: by a choice of the checks to set aside, and by the rule's
abbrev pub peeling_by : Choice → List ℕ → List PeelEvent
peeling_by choice t = peel_by choice (length (kept (checks t))) (places t) (kept (checks t))

abbrev pub peeling : List ℕ → List PeelEvent
peeling = peeling_by most_freed

-- order and owns hold the solved checks of the table's rule, aside the numbers of those set aside
pub record Chosen (t order owns aside : List ℕ) (taken put : ℕ) : Type 0 where
  pub took : solved_of (peeling t) ≡ solved (check t (number t)) order owns taken
  pub set-aside : set_aside_of (peeling t) ≡ map (check t (number t)) (take put aside)
  pub room : (taken ≤ length order) × ((taken ≤ length owns) × (put ≤ length aside))
  pub numbers : (i : ℕ) → i < taken → get_or order i 0 < number t
  pub own : (i : ℕ) → i < taken → get_or owns i 0 < places t
  pub asides : (i : ℕ) → i < put → get_or aside i 0 < number t

-- a row of the inverse is a number of so many bits
abbrev pub mask_width : ℕ
mask_width = 32

-- the lowest k bits of a mask, the lowest first
abbrev pub mask_bits : ℕ → ℕ → List Bool
mask_bits zero x = []
mask_bits (suc k) x = bit 0 x ∷ mask_bits k (x / 2)

-- the first g of fitted are the fitted places ascending, and each has its row of the inverse in rows
pub record Fitted (n : ℕ) (T : List Solved) (Z : List (List ℕ)) (g : ℕ) (fitted rows : List ℕ) : Type 0 where
  pub room : (g ≤ length fitted) × (g ≤ length rows)
  pub places : take g fitted ≡ fitted_places n T Z
  pub row-of : (j : ℕ) → j < g → mask_bits g (get_or rows j 0) ≡ inverse (reduced T Z) (fitted_places n T Z) (get_or fitted j 0)
