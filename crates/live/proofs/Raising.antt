-- The bound raised above the places in exactly one live check.
use mathlib.Core.Path.{◌≡◌, sym, ap, ◌∙◌}
use mathlib.Core.List.{List}
use Prim.Native.Nat.{ℕ, ◌+◌, ◌<◌, ◌≤◌}
use native.Mathlib.Omega.{arith}
use lib.Dec.{eqb}
use lib.ListN.{length, get_or}
use Rattle.lists.specs.Tests.{eqb-true, eqb-false, by_bool}
use Rattle.live.specs.Live.{Raised}

pub raised-none : (c t : List ℕ) (at top : ℕ) → top ≤ length c → Raised c t at 0 top top
raised-none c t at top h = record { low = omega arith; most = h; above = λ i z. absurd (omega arith) }

pub raised-turn : {c t : List ℕ} {at i top r : ℕ} (x p : ℕ) → Raised c t at i top r → p ≡ get_or t (at + i) 0 → r ≤ x → x ≤ length c → (get_or c p 0 ≡ 1 → p < x) → Raised c t at (i + 1) top x
raised-turn {c} {t} {at} {i} {top} {r} x p s e l m h =
    let sl = s.low in
    record {
      low = omega arith;
      most = m;
      above = λ k z o. by_bool (eqb k i)
          (λ a. let b : k ≡ i = eqb-true k i a in
          let q : get_or t (at + k) 0 ≡ p = ap (λ (j : ℕ). get_or t (at + j) 0) b ∙ sym e in
          let u : p < x = h (rw q at o) in omega arith)
          (λ a. let b = eqb-false k i a in let u = s.above k (omega arith) o in omega arith);
    }
