-- One turn of the loop that notes the rows that fed a row, and of the one that writes the list.
use mathlib.Core.Path.{◌≡◌, refl, sym, ap, ap₂, ◌∙◌, subst}
use mathlib.Core.Bool.{Bool, true, false, cond}
use mathlib.Core.List.{List, [], ◌∷◌, ◌++◌, map, append-nil, map-append}
use Prim.Native.Nat.{ℕ, suc, ◌+◌, ◌-◌, ◌^◌, ◌<◌}
use native.Mathlib.Omega.{arith}
use lib.Bits.{bit_xor, xor_zero_r}
use lib.ListN.{length, get_or, set, take}
use Rattle.lists.specs.Buffers.{part-snoc}
use Rattle.lists.specs.Lists.{from}
use Rattle.lists.specs.Numbers.{from-snoc}
use Rattle.gf2.specs.Gf2.{xor_group, row_of, bit}
use Rattle.gf2.specs.Group.{sum_over-append}
use Rattle.bits.specs.Front.{Front, front-none, front-more}
use Rattle.bits.specs.Row.{row, RowPut}
use Rattle.bits.specs.RowLaws.{put-put, put_is}
use Rattle.reasons.specs.Reasons.{named}
use Rattle.reasons.specs.Noting.{bits_below}
use Rattle.reasons.proofs.Traced.{bits-length}
use Rattle.tracing.specs.Tracing.{number_in}

-- one number more of a list
pub take_more : (l : List ℕ) (i : ℕ) → i < length l → take (i + 1) l ≡ take i l ++ (get_or l i 0 ∷ [])
take_more l i h = let e : 0 + i ≡ i = omega arith in part-snoc l 0 i (omega arith) ∙ ap (λ j. take i l ++ (get_or l j 0 ∷ [])) e

-- a row more among the feeders
pub fed : (owner noted : List ℕ) (i o : ℕ) → i < length noted → o ≡ get_or owner (get_or noted i 0) 0 → {w x y : List ℕ} {r : ℕ}
    → RowPut w r (row_of (map (number_in owner) (take i noted))) x → RowPut x r (bit_xor (row x r) (2 ^ (o - 1))) y → RowPut w r (row_of (map (number_in owner) (take (i + 1) noted))) y
fed owner noted i o h e a b = put_is (put-put a b) (ap₂ (λ v u. bit_xor v (2 ^ (u - 1))) a.here e ∙ sym (ap row_of (ap (map (number_in owner)) (take_more noted i h) ∙ map-append (number_in owner) (take i noted) (get_or noted i 0 ∷ []))
    ∙ sum_over-append xor_group (λ (q : ℕ). 2 ^ q) (map (number_in owner) (take i noted)) (number_in owner (get_or noted i 0) ∷ []) ∙ ap (bit_xor (row_of (map (number_in owner) (take i noted)))) (xor_zero_r (2 ^ number_in owner (get_or noted i 0)))))

-- ---- the list
-- a bit more in the mask
named_more : (m : List Bool) (b : Bool) (U : List ℕ) → length m < length U → named (m ++ (b ∷ [])) U ≡ named m U ++ cond b (get_or U (length m) 0 ∷ []) []
named_more m b [] h = absurd (omega arith)
named_more [] true (u ∷ []) h = refl
named_more [] true (u ∷ v ∷ U) h = refl
named_more [] false (u ∷ []) h = refl
named_more [] false (u ∷ v ∷ U) h = refl
named_more (true ∷ m) b (u ∷ U) h = ap (λ l. u ∷ l) (named_more m b U (omega arith))
named_more (false ∷ m) b (u ∷ U) h = named_more m b U (omega arith)

bits-more : (i y : ℕ) → bits_below (i + 1) y ≡ bits_below i y ++ (bit i y ∷ [])
bits-more i y = let e : i + 1 ≡ suc i = omega arith in let z : 0 + i ≡ i = omega arith in ap (λ k. bits_below k y) e ∙ ap (map (λ j. bit j y)) (from-snoc 0 i) ∙ map-append (λ j. bit j y) (from 0 i) ((0 + i) ∷ [])
    ∙ ap (λ j. bits_below i y ++ (bit j y ∷ [])) z

listed_more : (i y : ℕ) (U : List ℕ) → i < length U → named (bits_below (i + 1) y) U ≡ named (bits_below i y) U ++ cond (bit i y) (get_or U i 0 ∷ []) []
listed_more i y U h = ap (λ m. named m U) (bits-more i y) ∙ named_more (bits_below i y) (bit i y) U (omega (arith, bits-length i y))
    ∙ ap (λ j. named (bits_below i y) U ++ cond (bit i y) (get_or U j 0 ∷ []) []) (bits-length i y)

-- nothing yet
pub listed_start : (y : ℕ) (U : List ℕ) {old : List ℕ} → Front (named (bits_below 0 y) U) old old 0
unfolding from
listed_start y [] {old} = front-none old
listed_start y (u ∷ U) {old} = front-none old

-- a check more, or none
pub listed-hit : (i y : ℕ) {c : ℕ} (U : List ℕ) {old e : List ℕ} → i < length U → bit i y ≡ true → c < length old → Front (named (bits_below i y) U) old e c
    → Front (named (bits_below (i + 1) y) U) old (set e c (get_or U i 0)) (c + 1)
listed-hit i y {c} U {old} {e} h b room f = subst (λ l. Front l old (set e c (get_or U i 0)) (c + 1)) (sym (listed_more i y U h ∙ ap (λ v. named (bits_below i y) U ++ cond v (get_or U i 0 ∷ []) []) b)) (front-more (get_or U i 0) f room)

pub listed-miss : (i y : ℕ) {c : ℕ} (U : List ℕ) {old e : List ℕ} → i < length U → bit i y ≡ false → Front (named (bits_below i y) U) old e c → Front (named (bits_below (i + 1) y) U) old e c
listed-miss i y {c} U {old} {e} h b f = subst (λ l. Front l old e c) (sym (listed_more i y U h ∙ ap (λ v. named (bits_below i y) U ++ cond v (get_or U i 0 ∷ []) []) b ∙ append-nil (named (bits_below i y) U))) f
