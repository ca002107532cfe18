-- Rows of bits with ones put in them one by one, and what drawing a place gives.
use Rattle.std.specs.declared.option.Option.{Option as Found}
use Rattle.std.specs.Prelude.{Some, None, IfSome, ◌≡◌, Bool, false, not, List, ℕ, ◌+◌, ◌<◌, length, get_or}
use Rattle.std.proofs.Math.Option.{Option, none, some}
use Rattle.gf2.specs.Gf2.{bit}
use Rattle.bits.specs.Row.{row}
use Rattle.draws.specs.Generator.{modulus, Drawn, until}

-- no one at (r, j)
abbrev pub free : List ℕ → ℕ → ℕ → Bool
free w j r = not (bit j (row w r))

-- no one in column j of the row that entry t + v of u names
abbrev pub free_entry : List ℕ → List ℕ → ℕ → ℕ → ℕ → Bool
free_entry w u t j v = free w j (get_or u (t + v) 0)

-- e is w with a one at (r, j)
pub record Put (w : List ℕ) (r j : ℕ) (e : List ℕ) : Type 0 where
  pub len : length e ≡ length w
  pub here : free e j r ≡ false
  pub rest : (i q : ℕ) → q < 1024 → (i ≡ r → q ≡ j → ⊥) → free e q i ≡ free w q i

-- a draw, or none
abbrev pub outcome : Found ℕ → ℕ → ℕ → Option Drawn
outcome (Some v) x l = some (record { value = v; raw = x; left = l })
outcome None x l = none

-- what drawing below max until f passes gives, from the generator's value and the draws left before it
pub record Sought (max raw left : ℕ) (f : ℕ → Bool) (o : Found ℕ) (raw' left' : ℕ) : Type 0 where
  pub drawn : outcome o raw' left' ≡ until left raw max f
  pub small : raw' < modulus
  pub below : IfSome o (λ v. v < max)
