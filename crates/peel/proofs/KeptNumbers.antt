-- The kept numbers name the kept checks of the rule.
use mathlib.Core.Path.{◌≡◌, refl, ap}
use mathlib.Core.List.{List, [], ◌∷◌, map}
use Prim.Native.Nat.{ℕ}
use Rattle.lists.specs.Lists.{from}
use Rattle.gf2.specs.Gf2.{xor_group, is_zero, choose, row_of, is_sum}
use Rattle.table.specs.Checks.{check}
use Rattle.rule.specs.Rule.{kept}
use Rattle.lists.specs.Tests.{by_bool}
use Rattle.keep.specs.Kept.{kept_of}

choose-map : (g : ℕ → List ℕ) (K : List ℕ) (l : List ℕ) → choose xor_group is_zero row_of K (map g l) ≡ map g (choose xor_group is_zero (λ j. row_of (g j)) K l)
choose-map g K [] = refl
choose-map g K (j ∷ l) = by_bool (is_sum xor_group is_zero K (row_of (g j)))
    (λ e. rw (e, choose) (choose-map g K l))
    (λ e. rw (e, choose) (ap (λ r. g j ∷ r) (choose-map g (row_of (g j) ∷ K) l)))

pub kept-numbers : (t : List ℕ) (m : ℕ) → kept (map (check t m) (from 0 m)) ≡ map (check t m) (kept_of t m)
unfolding kept_of
kept-numbers t m = choose-map (check t m) [] (from 0 m)
