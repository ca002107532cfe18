-- The fill: from rows of zeros by columns, and then by rows.
use mathlib.Core.Path.{◌≡◌, refl}
use mathlib.Core.Bool.{Bool, true, false}
use mathlib.Core.List.{List, ◌++◌, map}
use mathlib.Core.Option.{Option}
use Prim.Native.Nat.{ℕ, ◌*◌, ◌%◌, ◌<◌, ◌≤◌}
use lib.ListN.{length, get_or, drop}
use Rattle.lists.specs.Lists.{from}
use Rattle.draws.specs.Generator.{modulus}
use Rattle.fill.specs.Fill.{State, and_then, columns, extras, start, fill}
use Rattle.fill.specs.Held.{Both, Ends, Steps}
use Rattle.fill.proofs.Beginning.{entries-low, start-both}
use Rattle.fill.proofs.Going.{Rest, from-here, turn, stop}

-- what the fill asks for
abbrev pub Given : List ℕ → List ℕ → ℕ → ℕ → ℕ → ℕ → Type 0
Given w u k m ones seed =
    (length w ≡ 8192) × ((p : ℕ) → get_or w p 0 ≡ 0) × (length u ≡ 10240) × ((p : ℕ) → get_or u p 0 ≡ 0)
    × (0 < k) × (k ≤ 1024) × (0 < m) × (m ≤ 512) × (ones ≤ 10) × (seed < modulus)

module _ (w u : List ℕ) (k m ones seed draws : ℕ) (given : Given w u k m ones seed) (v : List ℕ) (listed : v ≡ map (λ h. h % m) (from 0 (ones * k)) ++ drop (ones * k) u) where
  -- the start is held
  pub begins : Both k m (ones * k) w v 0 seed draws (start m (ones * k) seed draws)
  begins =
      let g = given in
      start-both k m (ones * k) seed draws
      (record { k-some = g.4; k-low = g.5; m-some = g.6; m-low = g.7; e-low = entries-low ones k g.8 g.5 })
      w u v g.0 g.1 g.2 g.3 g.9 listed

  module _ (Q : State → Type 0) (ok : Bool) (step : Steps (Both k m (ones * k) w v 0 seed draws) (columns (ones * k) m ones 0 k) ok Q) where
    -- both steps
    abbrev whole : State → Option State
    whole x = and_then (columns (ones * k) m ones 0 k x) (λ y. extras k 0 m y)

    first : Rest (Both k m (ones * k) w v 0 seed draws) (fill k m ones seed draws) whole
    first = from-here (Both k m (ones * k) w v 0 seed draws) whole (start m (ones * k) seed draws) begins

    -- the rows are left
    pub columns-passed : ok ≡ true → Rest Q (fill k m ones seed draws) (extras k 0 m)
    columns-passed t = turn (fill k m ones seed draws) whole (columns (ones * k) m ones 0 k) (extras k 0 m) (Both k m (ones * k) w v 0 seed draws) Q ok (λ x. refl) step t first

    -- no draws left
    pub columns-failed : ok ≡ false → (R : State → Type 0) → Ends (fill k m ones seed draws) false R
    columns-failed t R = stop (fill k m ones seed draws) whole (columns (ones * k) m ones 0 k) (extras k 0 m) (Both k m (ones * k) w v 0 seed draws) Q ok (λ x. refl) step t first R false refl
