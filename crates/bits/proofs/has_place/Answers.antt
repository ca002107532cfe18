-- `bits::has_place` meets its contract: the digit of the place's word.
use mathlib.Core.Path.{◌≡◌, refl, sym, ap, ◌∙◌}
use mathlib.Core.List.{List}
use Prim.Native.Nat.{ℕ, zero, suc, ◌+◌, ◌*◌, ◌/◌, ◌%◌, ◌^◌, ◌<◌}
use native.Mathlib.Omega.{arith}
use lib.Bits.{bit_and, and_mask}
use lib.Dec.{eqb}
use lib.ListN.{get_or}
use Rattle.gf2.specs.Gf2.{bit, odd}
use Rattle.gf2.specs.Bit.{bit_is}
use Rattle.bits.specs.Row.{row}
use Rattle.bits.specs.RowLaws.{row-bit}
use Rattle.bits.proofs.has_place.Goals as goal

one-odd : (d : ℕ) → d < 2 → eqb d 1 ≡ odd d
one-odd zero h = refl
one-odd (suc zero) h = refl
one-odd (suc (suc d)) h = absurd (omega arith)

tested : (w : List ℕ) (r p : ℕ) → p < 1024 → eqb (bit_and (get_or w (r * 16 + p / 64) 0 / 2 ^ (p % 64)) 1) 1 ≡ bit p (row w r)
tested w r p h =
    let x = get_or w (r * 16 + p / 64) 0 in
    ap (λ y. eqb y 1) (and_mask (x / 2 ^ (p % 64)) 1) ∙ one-odd (x / 2 ^ (p % 64) % 2) (omega arith) ∙ sym (bit_is (p % 64) x) ∙ sym (row-bit w r p h)

pub returns : goal.returns
returns c = let a = c.args in tested a.w.now a.r a.p (omega arith)
