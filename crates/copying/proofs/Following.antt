-- Information places that follow each other.
use mathlib.Core.Path.{◌≡◌, ap, ◌∙◌}
use mathlib.Core.List.{List}
use mathlib.Core.Logic.{⊎_elim}
use Prim.Native.Nat.{ℕ, ◌+◌, ◌-◌, ◌<◌}
use native.Mathlib.Omega.{arith}
use lib.ListN.{get_or}
use Rattle.lists.specs.Tests.{side}
use Rattle.start.specs.Start.{Together}

module _ {I : List ℕ} {k count : ℕ} where
  pub together-one : k < count → Together I k count (k + 1)
  together-one h = record {
    some = omega arith;
    upto = omega arith;
    follow = λ j l. let z : j ≡ 0 = omega arith in rw z (ap (λ (i : ℕ). get_or I i 0) {x = k + 0} {y = k} (omega arith) ∙ omega arith);
  }

  pub together-more : {r : ℕ} → r < count → Together I k count r → get_or I r 0 ≡ get_or I k 0 + (r - k) → Together I k count (r + 1)
  together-more {r} h t e = let m = t.some in record {
    some = omega arith;
    upto = omega arith;
    follow = λ j l. ⊎_elim (t.follow j)
        (λ g. ap (λ (i : ℕ). get_or I i 0) {x = k + j} {y = r} (omega arith) ∙ e ∙ ap (λ (i : ℕ). get_or I k 0 + i) {x = r - k} {y = j} (omega arith))
        (side (k + j) r);
  }
