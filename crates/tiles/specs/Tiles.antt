-- What is done to a board w by the numbers of a text, which then is e. Each speaks of every list of numbers that lies ahead of its cursor.
use Rattle.std.specs.Prelude.{◌≡◌, Bool, true, ◌&&◌, List, ℕ, ◌≤◌, length, take, drop}
use Rattle.lists.specs.Lists.{all_pass, all_differ, par}
use Rattle.numbers.specs.Cursor.{Ahead}
use Rattle.alist.specs.Alist.{in_range}
use Rattle.walks.specs.Walks.{after, list_at, ListsAhead}
use Rattle.tiles.specs.Board.{Blank, Flips, named, in_column, in_columns, turned, Decides, BandAgrees}

-- count numbers from at on: r tells whether they are 1 to most and all different, and then their bits are flipped
abbrev pub Marks : List ℕ → ℕ → ℕ → ℕ → List ℕ → Bool → List ℕ → Type 0
Marks text at count most w r e = Blank w → (l : List ℕ) → Ahead text at l → count ≤ length l
    → (r ≡ (all_pass (in_range most) (take count l) && all_differ (take count l))) × (r ≡ true → Flips w (named (take count l)) e)

-- their bits are flipped, and r is behind them
abbrev pub Unmarks : List ℕ → ℕ → ℕ → List ℕ → ℕ → List ℕ → Type 0
Unmarks text at count w r e = (l : List ℕ) → Ahead text at l → count ≤ length l → Ahead text r (drop count l) × Flips w (named (take count l)) e

-- the bits of list j, whose entries stand from at on, are flipped, and r is behind them
abbrev pub FlipsList : List ℕ → ℕ → ℕ → ℕ → ℕ → ℕ → Bool → List ℕ → ℕ → List ℕ → Type 0
FlipsList text at weight low span j columns w r e = (l : List ℕ) → Ahead text at l → weight ≤ length l
    → Ahead text r (drop weight l) × Flips w (turned columns (in_column low span j (λ y. par y (take weight l)))) e

-- the bits of count lists are flipped, and the cursors weight and next are behind them
abbrev pub FlipsLists : List ℕ → ℕ → ℕ → ℕ → ℕ → ℕ → ℕ → Bool → List ℕ → ℕ → ℕ → List ℕ → Type 0
FlipsLists text weights at count width low span columns w weight next e = (ws l : List ℕ) → ListsAhead text weights at count width ws l
    → Ahead text weight (drop count ws) × Ahead text next (after count width l) × Flips w (turned columns (in_columns low span count (list_at width ws l))) e

-- x tells whether k rows from row r on agree with n columns, and then the board is blank again
abbrev pub Agrees : List ℕ → ℕ → ℕ → ℕ → ℕ → ℕ → ℕ → ℕ → ℕ → ℕ → List ℕ → Bool → List ℕ → Type 0
Agrees text weights lists n a others rows r k b w x e = Blank w → (ws l vs q : List ℕ) → ListsAhead text weights lists n a ws l → ListsAhead text others rows k b vs q
    → Decides x (BandAgrees n r k (list_at a ws l) (list_at b vs q)) × (x ≡ true → Blank e)
