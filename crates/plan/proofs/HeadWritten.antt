-- Four numbers set one after the other are a list written from the start.
use mathlib.Core.Path.{◌≡◌, refl}
use mathlib.Core.List.{List, [], ◌∷◌}
use Prim.Native.Nat.{ℕ, ◌≤◌}
use native.Mathlib.Omega.{arith}
use lib.ListN.{length, set}
use Rattle.lists.specs.Lists.{written}

pub set-four : (l : List ℕ) (a b c d : ℕ) → 4 ≤ length l → set (set (set (set l 0 a) 1 b) 2 c) 3 d ≡ written l 0 (a ∷ b ∷ c ∷ d ∷ [])
set-four [] a b c d h = absurd (omega arith)
set-four (_ ∷ []) a b c d h = absurd (omega arith)
set-four (_ ∷ _ ∷ []) a b c d h = absurd (omega arith)
set-four (_ ∷ _ ∷ _ ∷ []) a b c d h = absurd (omega arith)
set-four (_ ∷ _ ∷ _ ∷ _ ∷ l) a b c d h = refl
