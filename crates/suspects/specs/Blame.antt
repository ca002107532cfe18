-- One bad packet among good ones (document 02, C-17): the received places that could be the bad one, and the one that is blamed. Table t,
-- block b and map of fitting lengths; "the old repair" is that of erasure/specs/Restoring.antt.
use Rattle.std.specs.Prelude.{◌≡◌, Bool, true, false, not, ◌&&◌, List, [], ◌∷◌, ℕ, ◌<◌, eqb, get_or, set}
use Rattle.std.proofs.Math.Option.{Option, none, some}
use Rattle.erasure.specs.Restoring.{is_lost, outcome, agreeing}
use Rattle.lists.specs.Lists.{from, filter}
use Rattle.table.specs.Table.{places}

-- the map with place p "marked lost too"
abbrev pub lost_too : List ℕ → ℕ → List ℕ
lost_too map p = set map p 1

-- a "received place .. such that, marked lost too, the old repair restores it and meets no contradiction"
abbrev pub suspect : List ℕ → List ℕ → List ℕ → ℕ → Bool
suspect t b map p = eqb (get_or map p 0) 0 && (not (is_lost (outcome t b (lost_too map p)).map p) && agreeing t b (lost_too map p))

-- all such places, ascending
abbrev pub suspects : List ℕ → List ℕ → List ℕ → List ℕ
suspects t b map = filter (suspect t b map) (from 0 (places t))

-- the member of a list that has exactly one
abbrev pub only_one : List ℕ → Option ℕ
only_one [] = none
only_one (p ∷ []) = some p
only_one (p ∷ q ∷ l) = none

-- "If exactly one received place exists"
abbrev pub only_suspect : List ℕ → List ℕ → List ℕ → Option ℕ
only_suspect t b map = only_one (suspects t b map)

-- the place that is blamed: none where the old repair meets no contradiction ("Accepted blocks keep their answer")
unfoldable pub blamed : List ℕ → List ℕ → List ℕ → Option ℕ
blamed t b map = elim (agreeing t b map) [ true ↦ none | false ↦ only_suspect t b map ]

-- no place is
abbrev pub nobody : Option ℕ → Bool
nobody none = true
nobody (some p) = false

-- what it is to be such a place
pub record Suspect (t b map : List ℕ) (p : ℕ) : Type 0 where
  pub inside : p < places t
  pub received : get_or map p 0 ≡ 0
  pub restored : is_lost (outcome t b (lost_too map p)).map p ≡ false
  pub agrees : agreeing t b (lost_too map p) ≡ true

-- and to be the only one
pub record OnlySuspect (t b map : List ℕ) (p : ℕ) : Type 0 where
  pub it-is : Suspect t b map p
  pub no_other : (q : ℕ) → Suspect t b map q → q ≡ p
