-- Two packets compared as parts that end at at + s.
use mathlib.Core.Path.{◌≡◌, sym, ap, ◌∙◌}
use mathlib.Core.Bool.{Bool}
use mathlib.Core.List.{List}
use Prim.Native.Nat.{ℕ, ◌+◌, ◌-◌}
use native.Mathlib.Omega.{arith}
use lib.Dec.{eqb}
use lib.ListN.{take, drop}
use lib.Pointwise.{pointwise}
use Rattle.lists.specs.Comparing.{pointwise-same}
use Rattle.lists.specs.Lists.{same_list}

pub parts_same : (b₁ b₂ : List ℕ) (at s : ℕ) (r : Bool) → r ≡ pointwise eqb (take (at + s - at) (drop at b₁)) (take (at + s - at) (drop at b₂)) → same_list (take s (drop at b₁)) (take s (drop at b₂)) ≡ r
parts_same b₁ b₂ at s r h =
    let e : s ≡ at + s - at = omega arith in
    ap (λ k. same_list (take k (drop at b₁)) (take k (drop at b₂))) e ∙ sym (pointwise-same (take (at + s - at) (drop at b₁)) (take (at + s - at) (drop at b₂))) ∙ sym h
