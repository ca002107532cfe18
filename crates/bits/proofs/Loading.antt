-- One turn of the loop that loads a row.
use mathlib.Core.Path.{◌≡◌, sym, ap, ap₂, ◌∙◌}
use mathlib.Core.List.{List, [], ◌∷◌}
use Prim.Native.Nat.{ℕ, ◌+◌, ◌^◌, ◌<◌}
use native.Mathlib.Numerals.{add-one}
use lib.Bits.{bit_xor, xor_zero_r}
use lib.ListN.{length, get_or, take}
use lib.Seq.{take-suc}
use Rattle.gf2.specs.Gf2.{xor_group, row_of}
use Rattle.gf2.specs.Group.{sum_over-append}
use Rattle.bits.specs.Row.{row, RowPut}
use Rattle.bits.specs.RowLaws.{put-put, put_is}

pub row_more : (l : List ℕ) (i : ℕ) → i < length l → row_of (take (i + 1) l) ≡ bit_xor (row_of (take i l)) (2 ^ get_or l i 0)
row_more l i h = ap row_of (ap (λ (k : ℕ). take k l) (add-one i) ∙ take-suc l i 0 h)
    ∙ sum_over-append xor_group (λ (p : ℕ). 2 ^ p) (take i l) (get_or l i 0 ∷ [])
    ∙ ap (bit_xor (row_of (take i l))) (xor_zero_r (2 ^ get_or l i 0))

pub load-turn : {w e f : List ℕ} {r : ℕ} (l : List ℕ) (i p : ℕ) → i < length l → p ≡ get_or l i 0
    → RowPut w r (row_of (take i l)) e → RowPut e r (bit_xor (row e r) (2 ^ p)) f → RowPut w r (row_of (take (i + 1) l)) f
load-turn l i p h q d s = put_is (put-put d s) (ap₂ (λ (x y : ℕ). bit_xor x (2 ^ y)) d.here q ∙ sym (row_more l i h))
