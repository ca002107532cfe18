-- Two accepted tables word by word: the checks of one are the first of the other exactly if its weights and its places are.
use mathlib.Core.Path.{◌≡◌, refl, sym, ap, ap₂, ◌∙◌, subst}
use mathlib.Core.Bool.{Bool, true, false, not, ◌&&◌}
use mathlib.Core.List.{List, [], ◌∷◌, ◌++◌}
use mathlib.Core.Logic.{◌≢◌}
use Prim.Native.Nat.{ℕ, zero, suc, ◌+◌, ◌-◌, ◌<◌, ◌≤◌}
use native.Mathlib.Omega.{arith}
use borrow.Author.Tests.{lt-leb, ne_eqb}
use Rattle.std.proofs.lemmas.Bool.{not-true, not-false}
use lib.Dec.{eqb, leb}
use lib.Pointwise.{pointwise}
use Rattle.lists.specs.Comparing.{pointwise-same}
use lib.ListN.{length, take, drop, length-drop}
use lib.Seq.{length-take-le, take-add, take-take}
use Rattle.lists.specs.ListLaws.{same-sound}
use Rattle.lists.specs.Lists.{same_list}
use Rattle.lists.specs.Tests.{eqb-true, eqb-false, eqb-self, by_bool, and_assoc, and-exchange, and-false}
use Rattle.longer.specs.Longer.{are_first, lengthens}
use Rattle.table.specs.Accepted.{Accepted}
use Rattle.table.specs.ChecksLaws.{limits, checks-length}
use Rattle.table.specs.Table.{places, size, number, weights, total, cut_up, checks, refusal}

-- ---- two lists compared in parts
same-append : (p q x y : List ℕ) → length p ≡ length q → same_list (p ++ x) (q ++ y) ≡ (same_list p q && same_list x y)
same-append [] [] x y e = refl
same-append [] (b ∷ q) x y e = absurd (omega arith)
same-append (a ∷ p) [] x y e = absurd (omega arith)
same-append (a ∷ p) (b ∷ q) x y e = ap (λ z. eqb a b && z) (same-append p q x y (omega arith)) ∙ sym (and_assoc (eqb a b) (same_list p q) (same_list x y))

same_add : (w k : ℕ) (a b : List ℕ) → w ≤ length a → w ≤ length b
    → same_list (take (w + k) a) (take (w + k) b) ≡ (same_list (take w a) (take w b) && same_list (take k (drop w a)) (take k (drop w b)))
same_add w k a b h j = ap₂ same_list (take-add w k a) (take-add w k b) ∙ same-append (take w a) (take w b) _ _ (length-take-le w a h ∙ sym (length-take-le w b j))

-- of different lengths
other_length : (a b : List ℕ) → length a ≢ length b → same_list a b ≡ false
other_length a b ne = by_bool (same_list a b) (λ z. absurd (ne (ap length (same-sound a b z)))) (λ z. z)

-- ---- checks cut out of places by their weights
cut-words : (ws vs ps qs : List ℕ) → length ws ≤ length vs → total ws ≤ length ps → total vs ≤ length qs
    → are_first (cut_up ws ps) (cut_up vs qs) ≡ (same_list ws (take (length ws) vs) && same_list (take (total ws) ps) (take (total ws) qs))
cut-words [] vs ps qs l h k = refl
cut-words (w ∷ ws) [] ps qs l h k = absurd (omega arith)
cut-words (w ∷ ws) (v ∷ vs) ps qs l h k = by_bool (eqb w v)
    (λ e. let z = eqb-true w v e in
    subst Words z (same z (cut-words ws vs (drop w ps) (drop w qs) (omega arith) (omega (arith, length-drop w ps)) (omega (arith, length-drop w qs)))))
    (λ e. ap (λ z. z && are_first (cut_up ws (drop w ps)) (cut_up vs (drop v qs)))
    (other_length (take w ps) (take v qs) (λ z. eqb-false w v e (sym (length-take-le w ps (omega arith)) ∙ z ∙ length-take-le v qs (omega arith))))
    ∙ sym (ap (λ z. (z && same_list ws (take (length ws) vs)) && same_list (take (total (w ∷ ws)) ps) (take (total (w ∷ ws)) qs)) e))
  where
    Words : ℕ → Type 0
    Words x = are_first (cut_up (w ∷ ws) ps) (cut_up (x ∷ vs) qs) ≡ (same_list (w ∷ ws) (take (length (w ∷ ws)) (x ∷ vs)) && same_list (take (total (w ∷ ws)) ps) (take (total (w ∷ ws)) qs))

    same : w ≡ v
        → are_first (cut_up ws (drop w ps)) (cut_up vs (drop w qs)) ≡ (same_list ws (take (length ws) vs) && same_list (take (total ws) (drop w ps)) (take (total ws) (drop w qs)))
        → Words w
    same e rest =
        let S = same_list ws (take (length ws) vs) in
        let A = same_list (take w ps) (take w qs) in
        ap (λ z. A && z) rest
        ∙ and-exchange A S _
        ∙ ap (λ z. S && z) (sym (same_add w (total ws) ps qs (omega arith) (omega arith)))
        ∙ sym (ap (λ z. (z && S) && same_list (take (total (w ∷ ws)) ps) (take (total (w ∷ ws)) qs)) (eqb-self w))

-- fewer checks are never the first
fewer : (cs ds : List (List ℕ)) → length ds < length cs → are_first cs ds ≡ false
fewer [] ds h = absurd (omega arith)
fewer (c ∷ cs) [] h = refl
fewer (c ∷ cs) (d ∷ ds) h = and-false (same_list c d) (are_first cs ds) (fewer cs ds (omega arith))

-- the ones of the first weights
total-take : (k : ℕ) (vs : List ℕ) → total (take k vs) ≤ total vs
total-take zero vs = omega arith
total-take (suc k) [] = omega arith
total-take (suc k) (v ∷ vs) = let h = total-take k vs in omega arith

-- ---- two accepted tables
-- how many weights, and how many places behind them
weight-count : (t : List ℕ) → refusal t ≡ 0 → length (weights t) ≡ number t
weight-count t ok = let l = limits t ok in length-take-le (number t) (drop 4 t) (omega (arith, length-drop 4 t, l.long))

place-count : (t : List ℕ) → refusal t ≡ 0 → length (drop (5 + number t) t) ≡ total (weights t)
place-count t ok = let l = limits t ok in length-drop (5 + number t) t ∙ omega (arith, l.long, l.ones-are)

module _ (old new : List ℕ) (m k n₁ n₂ s₁ s₂ : ℕ) (a : Accepted old m n₁ s₁) (z : Accepted new k n₂ s₂) (more : m ≤ k) where
  -- the weights and the places, as the code compares them
  abbrev old_weights : List ℕ
  old_weights = take (4 + m - 4) (drop 4 old)

  abbrev new_weights : List ℕ
  new_weights = take (4 + m - 4) (drop 4 new)

  abbrev old_places : List ℕ
  old_places = take (length old - (5 + m)) (drop (5 + m) old)

  abbrev new_places : List ℕ
  new_places = take (5 + k + (length old - (5 + m)) - (5 + k)) (drop (5 + k) new)

  abbrev same_weights : Bool
  same_weights = same_list old_weights new_weights

  abbrev same_places : Bool
  same_places = same_list old_places new_places

  weights-are : same_weights ≡ same_list (weights old) (take (number old) (weights new))
  weights-are =
      let e : 4 + m - 4 ≡ number old = omega (arith, a.number_is) in
      ap₂ same_list (ap (λ j. take j (drop 4 old)) e)
      (ap (λ j. take j (drop 4 new)) e ∙ sym (take-take (number old) (number new) (drop 4 new) (omega (arith, a.number_is, z.number_is))))

  places-are : same_places ≡ same_list (take (total (weights old)) (drop (5 + number old) old)) (take (total (weights old)) (drop (5 + number new) new))
  places-are =
      let w : length old - (5 + m) ≡ total (weights old) = omega (arith, a.number_is, place-count old a.accepted, length-drop (5 + number old) old) in
      let v : 5 + k + (length old - (5 + m)) - (5 + k) ≡ total (weights old) = omega (arith, w) in
      ap₂ same_list (ap₂ (λ j i. take j (drop (5 + i) old)) w a.number_is) (ap₂ (λ j i. take j (drop (5 + i) new)) v z.number_is)

  by-words : are_first (checks old) (checks new) ≡ (same_weights && same_places)
  by-words = cut-words (weights old) (weights new) (drop (5 + number old) old) (drop (5 + number new) new)
      (omega (arith, weight-count old a.accepted, weight-count new z.accepted, a.number_is, z.number_is)) (omega (arith, place-count old a.accepted)) (omega (arith, place-count new z.accepted))
      ∙ ap (λ j. same_list (weights old) (take j (weights new)) && same_list (take (total (weights old)) (drop (5 + number old) old)) (take (total (weights old)) (drop (5 + number new) new))) (weight-count old a.accepted)
      ∙ sym (ap₂ ◌&&◌ weights-are places-are)

  -- by what the comparisons say
  weights-same : (q : Bool) → q ≡ not (pointwise eqb old_weights new_weights) → q ≡ false → same_weights ≡ true
  weights-same q h e = sym (pointwise-same old_weights new_weights) ∙ not-false (pointwise eqb old_weights new_weights) (sym h ∙ e)

  pub other-weights : (q : Bool) → q ≡ not (pointwise eqb old_weights new_weights) → q ≡ true → false ≡ are_first (checks old) (checks new)
  other-weights q h e =
      let d : same_weights ≡ false = sym (pointwise-same old_weights new_weights) ∙ not-true (pointwise eqb old_weights new_weights) (sym h ∙ e) in
      sym (by-words ∙ ap (λ x. x && same_places) d)

  pub places-tell : (q r : Bool) → q ≡ not (pointwise eqb old_weights new_weights) → q ≡ false → r ≡ pointwise eqb old_places new_places → r ≡ are_first (checks old) (checks new)
  places-tell q r h e f = f ∙ pointwise-same old_places new_places ∙ sym (by-words ∙ ap (λ x. x && same_places) (weights-same q h e))

  -- with the same weights there is room for the places
  pub room : (q : Bool) → q ≡ not (pointwise eqb old_weights new_weights) → q ≡ false → 5 + k + (length old - (5 + m)) ≤ length new
  room q h f =
      let e : same_weights ≡ true = weights-same q h f in
      let l = limits old a.accepted in
      let j = limits new z.accepted in
      let w = ap total (same-sound (weights old) (take (number old) (weights new)) (sym weights-are ∙ e)) in
      omega (arith, l.long, l.ones-are, j.long, j.ones-are, w, total-take (number old) (weights new), a.number_is, z.number_is)

-- ---- the first word that tells
module _ (old new : List ℕ) where
  pub other-size : size old ≢ size new → lengthens old new ≡ false
  other-size ne = rw (ne_eqb (size old) (size new) ne)

  pub fewer-places : places new < places old → lengthens old new ≡ false
  fewer-places h = ap (λ z. eqb (size old) (size new) && (z && are_first (checks old) (checks new))) (lt-leb (places old) (places new) h) ∙ and-false (eqb (size old) (size new)) false refl

  pub fewer-checks : refusal old ≡ 0 → refusal new ≡ 0 → number new < number old → lengthens old new ≡ false
  fewer-checks ok good h =
      let z = fewer (checks old) (checks new) (omega (arith, checks-length old ok, checks-length new good)) in
      ap (λ z. eqb (size old) (size new) && (leb (places old) (places new) && z)) z ∙ ap (λ z. eqb (size old) (size new) && z) (and-false (leb (places old) (places new)) false refl) ∙ and-false (eqb (size old) (size new)) false refl
