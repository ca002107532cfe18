-- One turn of the loop that parts a check into its lost and its received places.
use mathlib.Core.Path.{◌≡◌, sym, ap, ◌∙◌, subst}
use mathlib.Core.Bool.{true, false, not, cond}
use mathlib.Core.List.{List, [], ◌∷◌, ◌++◌, append-nil}
use Prim.Native.Nat.{ℕ, ◌+◌, ◌^◌, ◌<◌}
use lib.Bits.{bit_xor, xor_zero_r}
use lib.ListN.{length, get_or, set, take}
use Rattle.std.proofs.lemmas.List.{take_more}
use Rattle.lists.specs.ListLaws.{filter-append}
use Rattle.gf2.specs.Gf2.{xor_group, row_of}
use Rattle.gf2.specs.Group.{sum_over-append}
use Rattle.erasure.specs.Restoring.{is_lost, lost_places}
use Rattle.bits.specs.Front.{Front, front-more}
use Rattle.bits.specs.Row.{row, RowPut}
use Rattle.bits.specs.RowLaws.{put-put, put_is}
use Rattle.decided.specs.Decided.{lost_row}
use Rattle.eliminate.specs.Eliminating.{received_places}

module _ (lost l : List ℕ) (i p : ℕ) (h : i < length l) (e : p ≡ get_or l i 0) where
  abbrev c : List ℕ
  c = take i l

  abbrev d : List ℕ
  d = take (i + 1) l

  -- one place more
  more : d ≡ c ++ (p ∷ [])
  more = take_more l i 0 h ∙ ap (λ v. c ++ (v ∷ [])) (sym e)

  -- what the place adds to its part
  lost-more : lost_places lost d ≡ lost_places lost c ++ cond (is_lost lost p) (p ∷ []) []
  lost-more = ap (lost_places lost) more ∙ filter-append (is_lost lost) c (p ∷ [])

  received_more : received_places lost d ≡ received_places lost c ++ cond (not (is_lost lost p)) (p ∷ []) []
  received_more = ap (received_places lost) more ∙ filter-append (λ q. not (is_lost lost q)) c (p ∷ [])

  -- a lost place is flipped in the row, and not noted
  pub flipped : is_lost lost p ≡ true → {w x y : List ℕ} {r : ℕ} → RowPut w r (lost_row lost c) x → RowPut x r (bit_xor (row x r) (2 ^ p)) y → RowPut w r (lost_row lost d) y
  flipped y a b = put_is (put-put a b) (ap (λ v. bit_xor v (2 ^ p)) a.here ∙ sym (ap row_of (lost-more ∙ ap (λ v. lost_places lost c ++ cond v (p ∷ []) []) y)
      ∙ sum_over-append xor_group (λ (q : ℕ). 2 ^ q) (lost_places lost c) (p ∷ []) ∙ ap (bit_xor (row_of (lost_places lost c))) (xor_zero_r (2 ^ p))))

  pub not_noted : is_lost lost p ≡ true → {old x : List ℕ} {k : ℕ} → Front (received_places lost c) old x k → Front (received_places lost d) old x k
  not_noted y {old} {x} {k} f = subst (λ v. Front v old x k) (sym (received_more ∙ ap (λ v. received_places lost c ++ cond (not v) (p ∷ []) []) y ∙ append-nil (received_places lost c))) f

  -- a received one is noted, and not flipped
  pub noted : is_lost lost p ≡ false → {old x : List ℕ} {k : ℕ} → Front (received_places lost c) old x k → k < length old → Front (received_places lost d) old (set x k p) (k + 1)
  noted y {old} {x} {k} f room = subst (λ v. Front v old (set x k p) (k + 1)) (sym (received_more ∙ ap (λ v. received_places lost c ++ cond (not v) (p ∷ []) []) y)) (front-more p f room)

  pub not-flipped : is_lost lost p ≡ false → {w x : List ℕ} {r : ℕ} → RowPut w r (lost_row lost c) x → RowPut w r (lost_row lost d) x
  not-flipped y a = put_is a (sym (ap row_of (lost-more ∙ ap (λ v. lost_places lost c ++ cond v (p ∷ []) []) y ∙ append-nil (lost_places lost c))))
