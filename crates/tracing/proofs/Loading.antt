-- One turn of the loop that loads a check's lost places, mirrored.
use mathlib.Core.Path.{◌≡◌, sym, ap, ap₂, ◌∙◌}
use mathlib.Core.Bool.{true, false, cond}
use mathlib.Core.List.{List, [], ◌∷◌, ◌++◌, append-nil}
use Prim.Native.Nat.{ℕ, ◌+◌, ◌^◌, ◌<◌}
use lib.Bits.{bit_xor, xor_zero_r}
use lib.ListN.{length, get_or, take}
use Rattle.std.proofs.lemmas.List.{take_more}
use Rattle.lists.specs.ListLaws.{filter-append}
use Rattle.gf2.specs.Gf2.{xor_group, sum_over}
use Rattle.gf2.specs.Group.{sum_over-append}
use Rattle.erasure.specs.Restoring.{is_lost, lost_places}
use Rattle.bits.specs.Row.{row, RowPut}
use Rattle.bits.specs.RowLaws.{put-put, put_is}
use Rattle.reasons.specs.Mirror.{mirror, mirror_row, sum-map}

module _ (n : ℕ) (lost l : List ℕ) (i p : ℕ) (h : i < length l) (e : p ≡ get_or l i 0) where
  abbrev c : List ℕ
  c = take i l

  abbrev d : List ℕ
  d = take (i + 1) l

  -- what the place adds to the lost ones
  lost-more : lost_places lost d ≡ lost_places lost c ++ cond (is_lost lost p) (p ∷ []) []
  lost-more = ap (lost_places lost) (take_more l i 0 h ∙ ap (λ v. c ++ (v ∷ [])) (sym e)) ∙ filter-append (is_lost lost) c (p ∷ [])

  -- the row as a sum over the places
  abbrev summed : List ℕ → ℕ
  summed ps = sum_over xor_group (λ q. 2 ^ mirror n q) ps

  row_is : (b : List ℕ) → mirror_row n lost b ≡ summed (lost_places lost b)
  row_is b = sum-map xor_group (λ q. 2 ^ q) (mirror n) (lost_places lost b)

  -- a lost place is flipped at its bit
  pub flipped : is_lost lost p ≡ true → (q : ℕ) → q ≡ mirror n p → {w x y : List ℕ} {r : ℕ} → RowPut w r (mirror_row n lost c) x → RowPut x r (bit_xor (row x r) (2 ^ q)) y → RowPut w r (mirror_row n lost d) y
  flipped y q m a b = put_is (put-put a b) (ap₂ (λ v u. bit_xor v (2 ^ u)) (a.here ∙ row_is c) m ∙ sym (row_is d ∙ ap summed (lost-more ∙ ap (λ v. lost_places lost c ++ cond v (p ∷ []) []) y)
      ∙ sum_over-append xor_group (λ q. 2 ^ mirror n q) (lost_places lost c) (p ∷ []) ∙ ap (bit_xor (summed (lost_places lost c))) (xor_zero_r (2 ^ mirror n p))))

  -- another is passed over
  pub passed : is_lost lost p ≡ false → {w x : List ℕ} {r : ℕ} → RowPut w r (mirror_row n lost c) x → RowPut w r (mirror_row n lost d) x
  passed y a = put_is a (row_is c ∙ sym (row_is d ∙ ap summed (lost-more ∙ ap (λ v. lost_places lost c ++ cond v (p ∷ []) []) y ∙ append-nil (lost_places lost c))))
