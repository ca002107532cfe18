-- Turns in any order (document 02, C-23): "Whichever check with one lost place is taken at each turn".
use Rattle.std.specs.Prelude.{◌≡◌, not, List, [], ◌∷◌, ℕ, ◌+◌, ◌-◌, eqb, length}
use Rattle.erasure.specs.Restoring.{State, is_lost, lost_places, turn, start, Stopping}
use Rattle.lists.specs.Lists.{In, count}
use Rattle.table.specs.Packets.{packets}
use Rattle.table.specs.Table.{places, size, checks}

-- check c has exactly one lost place
abbrev pub Ready : List ℕ → List ℕ → Type 0
Ready map c = length (lost_places map c) ≡ 1

-- from one state to another by turns of checks of cs, each with exactly one lost place when it is taken
pub data Turns (s : ℕ) (cs : List (List ℕ)) : State → State → Type 0 where
  stay : {m : State} → Turns s cs m m
  more : {m e : State} (c : List ℕ) → In c cs → Ready m.map c → Turns s cs (turn s c m) e → Turns s cs m e

-- the checks that are taken, one a turn
abbrev pub taken : {s : ℕ} {cs : List (List ℕ)} {m e : State} → Turns s cs m e → List (List ℕ)
taken stay = []
taken (more c i one t) = c ∷ taken t

-- their additions: "weight − 1 for each check used"
abbrev pub spent : List (List ℕ) → ℕ
spent [] = 0
spent (c ∷ cs) = (length c - 1) + spent cs

-- no check has exactly one lost place: the turns have come to their end
abbrev pub Ended : List (List ℕ) → State → Type 0
Ended cs m = Stopping cs (is_lost m.map)

-- "the number of checks that aren't empty"
abbrev pub non_empty : List (List ℕ) → ℕ
non_empty cs = count (λ c. not (eqb (length c) 0)) cs

-- ---- table t, block b and map: turns from where repair starts
abbrev pub FromStart : List ℕ → List ℕ → List ℕ → State → Type 0
FromStart t b map e = Turns (size t) (checks t) (start (size t) (packets (size t) (places t) b) map) e
