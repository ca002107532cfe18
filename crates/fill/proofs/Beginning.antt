-- The state that the fill starts from.
use mathlib.Core.Path.{◌≡◌, refl, sym, ap, ◌∙◌, subst}
use mathlib.Core.Bool.{false, not}
use mathlib.Core.List.{List, [], ◌++◌, map}
use Prim.Native.Nat.{ℕ, zero, suc, ◌+◌, ◌*◌, ◌/◌, ◌%◌, ◌<◌, ◌≤◌}
use native.Mathlib.Nat.{mod-lt, mul-le-mul}
use native.Mathlib.Omega.{arith}
use lib.ListN.{length, get_or, take, drop, replicate, length-map, length-append, length-drop}
use lib.Seq.{take_at, get_or-drop}
use Rattle.lists.specs.Lists.{has, All, All.nil, All.cons, from}
use Rattle.lists.specs.Numbers.{from-length}
use Rattle.gf2.specs.Bit.{bit-zero}
use Rattle.gf2.specs.Gf2.{bit}
use Rattle.bits.specs.Row.{row}
use Rattle.bits.specs.RowLaws.{row-bit}
use Rattle.draws.specs.Generator.{modulus}
use Rattle.fill.specs.Fill.{start}
use Rattle.fill.specs.Filled.{start-good}
use Rattle.fill.specs.Held.{Sizes, Rep, Order, Both}

-- the entries of u fit
pub entries-low : (ones k : ℕ) → ones ≤ 10 → k ≤ 1024 → ones * k ≤ 10240
entries-low ones k a b = mul-le-mul {n₂ = 10} {m₂ = 1024} a b

-- words of zeros have no place
no-bit : (w : List ℕ) → ((p : ℕ) → get_or w p 0 ≡ 0) → (i q : ℕ) → q < 1024 → bit q (row w i) ≡ false
no-bit w z i q h = row-bit w i q h ∙ ap (bit (q % 64)) (z (i * 16 + q / 64)) ∙ bit-zero (q % 64)

no_row : (m i : ℕ) → get_or (replicate {A = List ℕ} m []) i [] ≡ []
no_row zero i = refl
no_row (suc m) zero = refl
no_row (suc m) (suc i) = no_row m i

small-append : {a : List ℕ} (b : List ℕ) → All (λ x. x < 512) a → ((i : ℕ) → get_or b i 0 < 512) → (i : ℕ) → get_or (a ++ b) i 0 < 512
small-append b nil h i = h i
small-append b (cons l a) h zero = l
small-append b (cons l a) h (suc i) = small-append b a h i

order-low : (m : ℕ) → 0 < m → m ≤ 512 → (i c : ℕ) → All (λ x. x < 512) (map (λ p. p % m) (from i c))
unfolding from
order-low m h g i zero = nil
order-low m h g i (suc c) = cons {x = i % m} (let z = mod-lt i h in omega arith) (order-low m h g (suc i) c)

module _ (k m e seed draws : ℕ) (sizes : Sizes k m e) where
  start-rep : (w : List ℕ) → length w ≡ 8192 → ((p : ℕ) → get_or w p 0 ≡ 0) → seed < modulus → Rep k m e w seed draws (start m e seed draws)
  start-rep w lw zw hs = record {
    sizes = sizes;
    good = start-good k m e seed draws sizes.m-some;
    wide = lw;
    cells = λ i q hi hq. ap not (no-bit w zw i q hq) ∙ sym (ap (λ x. not (has q x)) (no_row m i));
    low = hs;
    raw-is = refl;
    left_is = refl;
  }

  start-order : (u v : List ℕ) → length u ≡ 10240 → ((p : ℕ) → get_or u p 0 ≡ 0) → v ≡ map (λ h. h % m) (from 0 e) ++ drop e u → Order e v 0 (start m e seed draws)
  start-order u v lu zu q =
      let first = map (λ h. h % m) (from 0 e) in
      let n : length first ≡ e = length-map (from 0 e) _ ∙ from-length 0 e in
      record {
        listed = ap (take e) q ∙ take_at first (drop e u) e n;
        long = let y = length-drop e u in let x = ap length q in let t = length-append first (drop e u) in let s = sizes.e-low in omega arith;
        small = λ i. subst (λ x. get_or x i 0 < 512) (sym q)
            (small-append (drop e u) (order-low m sizes.m-some sizes.m-low 0 e) (λ p. let y = get_or-drop e u p 0 in let x = zu (e + p) in omega arith) i);
        used-is = refl;
      }

  pub start-both : (w u v : List ℕ) → length w ≡ 8192 → ((p : ℕ) → get_or w p 0 ≡ 0) → length u ≡ 10240 → ((p : ℕ) → get_or u p 0 ≡ 0) → seed < modulus
      → v ≡ map (λ h. h % m) (from 0 e) ++ drop e u → Both k m e w v 0 seed draws (start m e seed draws)
  start-both w u v lw zw lu zu hs q = record { rep = start-rep w lw zw hs; order = start-order u v lu zu q }
