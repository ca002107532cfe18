-- The number of lost places of each check.
use mathlib.Core.Path.{◌≡◌, refl, ap, ◌∙◌}
use mathlib.Core.List.{List}
use mathlib.Core.Logic.{⊎_elim}
use Prim.Native.Nat.{ℕ, ◌+◌, ◌<◌, ◌≤◌}
use native.Mathlib.Omega.{arith}
use lib.ListN.{length, get_or, set, take, drop}
use lib.Seq.{get_or-set_same, get_or-set_other}
use Rattle.lists.specs.ListLaws.{filter-less}
use Rattle.lists.specs.Tests.{side}
use Rattle.lists.specs.Buffers.{part_length}
use Rattle.table.specs.Checks.{offset, check}
use Rattle.erasure.specs.Restoring.{lost_places, is_lost}
use Rattle.table.specs.Accepted.{Accepted, light, places-at}

-- check j as the code has it
module _ (t : List ℕ) (m n s : ℕ) (k : Accepted t m n s) (j : ℕ) (h : j < m) (a w : ℕ) (at : a ≡ 5 + m + offset t j) (weight : w ≡ get_or t (4 + j) 0) where
  pub run_is : take w (drop a t) ≡ check t m j
  unfolding check
  run_is = rw (at, weight)

  -- it has at most 64 lost places
  pub counted-small : (l : List ℕ) → length (lost_places l (take w (drop a t))) ≤ 64
  counted-small l =
      let x = part_length t a w (places-at t m n s k j h a w at weight n refl).room in
      let y = filter-less (is_lost l) (take w (drop a t)) in
      let z : w ≤ 64 = rw weight (light t m n s k j h) in
      omega arith

  pub counted-turn : (l c : List ℕ) (v : ℕ) → j < length c → v ≡ length (lost_places l (take w (drop a t))) → ((i : ℕ) → i < j → get_or c i 0 ≡ length (lost_places l (check t m i)))
      → (i : ℕ) → i < j + 1 → get_or (set c j v) i 0 ≡ length (lost_places l (check t m i))
  counted-turn l c v room e before i u = ⊎_elim
      (λ b. get_or-set_other c j i v 0 (λ z. omega arith) ∙ before i b)
      (λ b. let z : i ≡ j = omega arith in rw z (get_or-set_same c j v 0 room ∙ e ∙ ap (λ x. length (lost_places l x)) run_is))
      (side i j)
