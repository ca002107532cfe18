-- An accepted table is written from its own checks, and these pass the makers' tests.
use Rattle.std.specs.Prelude.{◌≡◌, refl, false, not, List, [], ◌∷◌, ◌++◌, map, ℕ, suc, ◌+◌, ◌≤◌, eqb, ltb, length, get_or, take, drop}
use Rattle.std.proofs.Common.{sym, ap, ap₂, ◌∙◌, subst, arith, le-ltb, take-append-drop, length-drop, length-take-le, drop-cons, drop-drop}
use Rattle.std.proofs.lemmas.Bool.{not-false}
use Rattle.lists.specs.ListLaws.{all_map, any_none}
use Rattle.lists.specs.Lists.{All.cons}
use Rattle.lists.specs.Tests.{eqb-true, or-false-l, or-false-r, or-neither}
use Rattle.table.specs.ChecksLaws.{Limits, limits, checks-length}
use Rattle.table.specs.FirstCause.{NoneHolds}
use Rattle.table.specs.FirstCauseLaws.{none_of}
use Rattle.table.specs.Table.{places, size, number, weights, ones_count, total, cut_up, checks, ones, beyond, table_causes, refusal}
use Rattle.table.specs.TableLaws.{accepted}
use Rattle.making.specs.Making.{too_heavy}
use Rattle.making.specs.ReadBack.{total-weights}
use Rattle.making.specs.Written.{flat, tail, table_of}

-- the weights of places that are cut up, and the places
cut-weights : (ws ps : List ℕ) → total ws ≤ length ps → map length (cut_up ws ps) ≡ ws
cut-weights [] ps h = refl
cut-weights (w ∷ ws) ps h = let d = length-drop w ps in
    ap₂ ◌∷◌ (length-take-le w ps (omega arith)) (cut-weights ws (drop w ps) (omega arith))

cut-places : (ws ps : List ℕ) → length ps ≡ total ws → flat (cut_up ws ps) ≡ ps
cut-places [] [] h = refl
cut-places [] (p ∷ ps) h = absurd (omega arith)
cut-places (w ∷ ws) ps h = let d = length-drop w ps in
    ap (λ l. take w ps ++ l) (cut-places ws (drop w ps) (omega arith)) ∙ take-append-drop w ps

-- a list of four numbers and more, by its numbers
four : (t : List ℕ) → 4 ≤ length t → t ≡ get_or t 0 0 ∷ get_or t 1 0 ∷ get_or t 2 0 ∷ get_or t 3 0 ∷ drop 4 t
four [] h = absurd (omega arith)
four (a ∷ []) h = absurd (omega arith)
four (a ∷ b ∷ []) h = absurd (omega arith)
four (a ∷ b ∷ c ∷ []) h = absurd (omega arith)
four (a ∷ b ∷ c ∷ d ∷ t) h = refl

module _ (t : List ℕ) (ok : refusal t ≡ 0) where
  abbrev l : Limits t
  l = limits t ok

  -- the first number is 2, and n, s and m are within their limits
  head : (get_or t 0 0 ≡ 2) × (beyond (places t) (size t) (number t) ≡ false)
  head = by (none_of (table_causes t) refl ok)
    where
      by : NoneHolds (table_causes t) → (get_or t 0 0 ≡ 2) × (beyond (places t) (size t) (number t) ≡ false)
      by (cons a (cons b n)) =
          let two = not (eqb (get_or t 0 0) 2) in
          (eqb-true (get_or t 0 0) 2 (not-false _ (or-false-l two _ b)), or-false-r two _ b)

  -- as many places as the weights say
  long-enough : length (drop (5 + number t) t) ≡ total (weights t)
  long-enough = let a = l.long in let b = l.ones-are in let d = length-drop (5 + number t) t in omega arith

  -- what stands behind the number of checks
  tail-is : drop 4 t ≡ tail (checks t)
  tail-is =
      let a = l.long in
      let five : suc (4 + number t) ≡ 5 + number t = omega arith in
      let w : map length (checks t) ≡ weights t = cut-weights (weights t) (drop (5 + number t) t) (let e = long-enough in omega arith) in
      let o : ones (checks t) ≡ ones_count t = sym (total-weights (checks t)) ∙ ap total w ∙ sym l.ones-are in
      let f : flat (checks t) ≡ drop (5 + number t) t = cut-places (weights t) (drop (5 + number t) t) long-enough in
      let c : drop (number t) (drop 4 t) ≡ ones_count t ∷ drop (5 + number t) t =
      drop-drop (number t) 4 t ∙ drop-cons t (4 + number t) 0 (omega arith) ∙ ap (λ x. ones_count t ∷ drop x t) five in
      sym (take-append-drop (number t) (drop 4 t)) ∙ ap₂ ◌++◌ (sym w) (c ∙ ap₂ ◌∷◌ (sym o) (sym f))

  -- an accepted table is written from its own checks ..
  pub accepted-written : table_of (places t) (size t) (checks t) ≡ t
  accepted-written =
      let a = l.long in
      sym (four t (omega arith) ∙ ap₂ (λ x y. x ∷ places t ∷ size t ∷ y) head.0 (ap₂ ◌∷◌ (sym (checks-length t ok)) tail-is))

  -- .. which are refused with neither 2 ..
  pub within-limits : beyond (places t) (size t) (length (checks t)) ≡ false
  within-limits = subst (λ m. beyond (places t) (size t) m ≡ false) (sym (checks-length t ok)) head.1

  -- .. nor 3
  pub light-enough : too_heavy (checks t) ≡ false
  light-enough = let g = accepted t ok in
      or-neither _ _ (any_none (λ c. ltb 64 (length c)) (all_map (λ c h. le-ltb 64 (length c) h) g.light)) (le-ltb 6144 (ones (checks t)) g.few_ones)
