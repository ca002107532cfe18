-- The gaps between information places.
use mathlib.Core.Path.{◌≡◌, refl}
use mathlib.Core.Bool.{true, false, ◌&&◌}
use mathlib.Core.List.{List, [], ◌∷◌}
use Prim.Native.Nat.{ℕ, zero, suc, ◌<◌, ◌≤◌}
use native.Mathlib.Omega.{arith}
use lib.Dec.{leb, ltb}
use lib.ListN.{length, get_or}
use Rattle.lists.specs.Lists.{has}
use Rattle.lists.specs.Tests.{eqb-lt, eqb-gt}
use Rattle.table.specs.Table.{rising}
use Rattle.plan.specs.LayoutLaws.{and_right, rising-at, rising-order}
use Rattle.start.specs.Start.{behind}

rises-on : (n b q : ℕ) (I : List ℕ) → rising n b (q ∷ I) ≡ true → rising n (suc q) I ≡ true
rises-on n b q I e = and_right (leb b q && ltb q n) (rising n (suc q) I) e

-- ---- gaps
-- behind the first k information places and before the next there is none
pub between : (n b : ℕ) (I : List ℕ) → rising n b I ≡ true → (k : ℕ) → k ≤ length I → (p : ℕ) → behind I k ≤ p → (k < length I → p < get_or I k 0) → has p I ≡ false
between n b [] e k h p a c = refl
between n b (q ∷ I) e zero h p a c =
    let l : p < q = c (omega arith) in
    rw (eqb-lt p q l) (between n (suc q) I (rises-on n b q I e) zero (omega arith) p (omega arith) (λ m. let f = (rising-at n (suc q) I (rises-on n b q I e) zero m).0 in omega arith))
between n b (q ∷ I) e (suc zero) h p a c =
    rw (eqb-gt p q (omega arith)) (between n (suc q) I (rises-on n b q I e) zero (omega arith) p (omega arith) (λ m. c (omega arith)))
between n b (q ∷ I) e (suc (suc k)) h p a c =
    let f = (rising-at n (suc q) I (rises-on n b q I e) k (omega arith)).0 in
    rw (eqb-gt p q (omega arith)) (between n (suc q) I (rises-on n b q I e) (suc k) (omega arith) p a (λ m. c (omega arith)))

module _ (n : ℕ) (I : List ℕ) (rises : rising n 0 I ≡ true) where
  pub behind-le : (k : ℕ) → k < length I → behind I k ≤ get_or I k 0
  behind-le zero h = omega arith
  behind-le (suc k) h = rising-order n 0 I rises k (suc k) (omega arith) h

  pub behind-low : (k : ℕ) → k ≤ length I → behind I k ≤ n
  behind-low zero h = omega arith
  behind-low (suc k) h = (rising-at n 0 I rises k h).1
