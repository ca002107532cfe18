-- A tile: what a blank board after both kinds of lists tells, and bands of tiles.
use mathlib.Core.Path.{◌≡◌, refl, sym, ap, ap₂, ◌∙◌}
use mathlib.Core.Bool.{Bool, true, false, ◌&&◌, true≢false}
use mathlib.Core.List.{List}
use Prim.Native.Nat.{ℕ, suc, ◌+◌, ◌*◌, ◌-◌, ◌/◌, ◌%◌, ◌^◌, ◌<◌, ◌≤◌}
use native.Mathlib.Omega.{arith}
use borrow.Author.Tests.{lt-ltb, ltb-true, ltb-false}
use lib.Dec.{ltb}
use lib.ListN.{get_or}
use Rattle.lists.specs.Lists.{bxor, par}
use Rattle.lists.specs.Tests.{by_bool, bxor-comm}
use Rattle.gf2.specs.Bit.{bits-zero}
use Rattle.gf2.specs.Gf2.{bit}
use Rattle.bits.specs.RowLaws.{row-bit}
use Rattle.tiles.specs.Board.{on, Blank, Flips, in_columns, turned, BandAgrees}

-- ---- words
-- a word of a blank board is 0
pub blank-word : (w : List ℕ) (k : ℕ) → k < 16384 → get_or w k 0 < 2 ^ 64 → Blank w → get_or w k 0 ≡ 0
blank-word w k h l z = bits-zero 64 (get_or w k 0) l (λ p a.
    let c : k / 16 * 16 + (k % 16 * 64 + p) / 64 ≡ k = omega arith in
    let d : (k % 16 * 64 + p) % 64 ≡ p = omega arith in
    sym (row-bit w (k / 16) (k % 16 * 64 + p) (omega arith) ∙ ap₂ (λ x y. bit x (get_or w y 0)) d c) ∙ z (k / 16) (k % 16 * 64 + p) (omega arith) (omega arith))

-- ---- a tile of k rows from r on and span columns from c on
-- it agrees; its lists are counted from 0
abbrev pub TileAgrees : ℕ → ℕ → ℕ → ℕ → (ℕ → List ℕ) → (ℕ → List ℕ) → Type 0
TileAgrees r k c span f g = (i j : ℕ) → i < k → j < span → par (r + suc i) (f j) ≡ par (c + suc j) (g i)

-- both or neither, exactly if flipping both leaves nothing
same-flip : (x y : Bool) → x ≡ y → bxor y x ≡ false
same-flip true true e = refl
same-flip false false e = refl
same-flip true false e = absurd (true≢false e)
same-flip false true e = absurd (true≢false (sym e))

flip-same : (x y : Bool) → bxor y x ≡ false → x ≡ y
flip-same true true e = refl
flip-same true false e = absurd (true≢false e)
flip-same false true e = absurd (true≢false e)
flip-same false false e = refl

-- two tests more, in either order
both-and : (a b x y : Bool) → (a ≡ true → b ≡ true → bxor y x ≡ false) → bxor (b && (a && y)) (a && (b && x)) ≡ false
both-and true true x y h = h refl refl
both-and true false x y h = refl
both-and false true x y h = refl
both-and false false x y h = refl

module _ {w e u : List ℕ} (r k c span : ℕ) (f g : ℕ → List ℕ) (z : Blank w)
    (p : Flips w (turned true (in_columns r k span f)) e) (n : Flips e (turned false (in_columns c span k g)) u) where
  -- the bits afterwards
  after_both : (i q : ℕ) → i < 1024 → q < 1024 → on u i q ≡ bxor (in_columns c span k g q i) (in_columns r k span f i q)
  after_both i q a b = n.each i q a b ∙ ap (bxor (in_columns c span k g q i)) (p.each i q a b ∙ ap (bxor (in_columns r k span f i q)) (z i q a b) ∙ bxor-comm (in_columns r k span f i q) false)

  -- the tile agrees exactly if nothing is left
  pub tile-blank : TileAgrees r k c span f g → Blank u
  tile-blank h i q a b = after_both i q a b ∙ both-and (ltb q span) (ltb i k) (par (r + suc i) (f q)) (par (c + suc q) (g i))
      (λ s t. same-flip (par (r + suc i) (f q)) (par (c + suc q) (g i)) (h i q (ltb-true i k t) (ltb-true q span s)))

  pub blank-tile : k ≤ 1024 → span ≤ 1024 → Blank u → TileAgrees r k c span f g
  blank-tile kl sl y i j a b = flip-same (par (r + suc i) (f j)) (par (c + suc j) (g i))
      (sym (ap₂ (λ s t. bxor (t && (s && par (c + suc j) (g i))) (s && (t && par (r + suc i) (f j)))) (lt-ltb j span b) (lt-ltb i k a))
      ∙ sym (after_both i j (omega arith) (omega arith)) ∙ y i j (omega arith) (omega arith))

-- ---- a band of k rows from r on: tiles side by side
module _ (r k c span : ℕ) (f h g : ℕ → List ℕ) (s : (j : ℕ) → h j ≡ f (c + j)) where
  -- a tile of a band that agrees
  pub band-tile : (n : ℕ) → c + span ≤ n → BandAgrees n r k f g → TileAgrees r k c span h g
  band-tile n l p i j a b = let z : suc (c + j) ≡ c + suc j = omega arith in
      ap (par (r + suc i)) (s j) ∙ p i (c + j) a (omega arith) ∙ ap (λ x. par x (g i)) z

  -- a tile more
  pub tile-band : BandAgrees c r k f g → TileAgrees r k c span h g → BandAgrees (c + span) r k f g
  tile-band p t i j a b = by_bool (ltb j c)
      (λ y. p i j a (ltb-true j c y))
      (λ y. let d = ltb-false j c y in let z : c + (j - c) ≡ j = omega arith in let u : c + suc (j - c) ≡ suc j = omega arith in
      ap (par (r + suc i)) (ap f (sym z) ∙ sym (s (j - c))) ∙ t i (j - c) a (omega arith) ∙ ap (λ x. par x (g i)) u)

-- ---- bands below each other
module _ (n r k m : ℕ) (f g h : ℕ → List ℕ) (s : (i : ℕ) → h i ≡ g (r + i)) where
  -- a band of rows that agree
  pub rows-band : r + k ≤ m → BandAgrees n 0 m f g → BandAgrees n r k f h
  rows-band l p i j a b = let z : 0 + suc (r + i) ≡ r + suc i = omega arith in
      ap (λ x. par x (f j)) (sym z) ∙ p (r + i) j (omega arith) b ∙ ap (par (suc j)) (sym (s i))

  -- a band more
  pub band-rows : BandAgrees n 0 r f g → BandAgrees n r k f h → BandAgrees n 0 (r + k) f g
  band-rows p t i j a b = by_bool (ltb i r)
      (λ y. p i j (ltb-true i r y) b)
      (λ y. let d = ltb-false i r y in let z : r + suc (i - r) ≡ 0 + suc i = omega arith in let u : r + (i - r) ≡ i = omega arith in
      ap (λ x. par x (f j)) (sym z) ∙ t (i - r) j (omega arith) b ∙ ap (par (suc j)) (s (i - r) ∙ ap g u))
