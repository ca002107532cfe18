-- Zeroing lost places, one place at a time.
use mathlib.Core.Path.{◌≡◌, refl, sym, ap, ◌∙◌, subst}
use mathlib.Core.Bool.{cond}
use mathlib.Core.List.{List, [], ◌∷◌, ◌++◌, append_assoc, append-nil}
use Prim.Native.Nat.{ℕ, ◌+◌, ◌*◌, ◌<◌, ◌≤◌}
use native.Mathlib.Numerals.{add-one}
use native.Mathlib.Omega.{arith}
use borrow.Author.Tests.{ne_eqb}
use lib.Dec.{eqb}
use lib.ListN.{length, get_or, set, take, drop, replicate, length-replicate, drop_of_length-le}
use lib.Seq.{drop-cons, take-suc-set, drop-set-lt, set-get_or, take_all}
use Rattle.table.specs.PacketLaws.{packets-length, packets-joined}
use Rattle.table.specs.Packets.{packets, joined}
use Rattle.lists.specs.Lists.{written}
use Rattle.erasure.specs.Restoring.{zero_lost}
use Rattle.packets.specs.SetLaws.{written-set, packets-set, bytes-set}

-- ---- where the zeroing of lost places stands
abbrev pub zero_from : ℕ → List ℕ → List (List ℕ) → ℕ → List (List ℕ)
zero_from s lost ps p = take p ps ++ zero_lost s (drop p lost) (drop p ps)

zero-none : (s : ℕ) (lost : List ℕ) → zero_lost s lost [] ≡ []
zero-none s [] = refl
zero-none s (l ∷ lost) = refl

zero_turn : (s : ℕ) (lost : List ℕ) (ps : List (List ℕ)) (p : ℕ) (v : List ℕ) → p < length ps → p < length lost → v ≡ cond (eqb (get_or lost p 0) 1) (replicate s 0) (get_or ps p [])
    → zero_from s lost ps p ≡ zero_from s lost (set ps p v) (p + 1)
zero_turn s lost ps p v h g e =
    let d : drop (p + 1) (set ps p v) ≡ drop (p + 1) ps = drop-set-lt (p + 1) ps p v (omega arith) in
    let k : take (p + 1) (set ps p v) ≡ take p ps ++ (v ∷ []) = rw add-one (take-suc-set ps p v h) in
    let x : drop p ps ≡ get_or ps p [] ∷ drop (p + 1) ps = rw (add-one, drop-cons ps p []) in
    let y : drop p lost ≡ get_or lost p 0 ∷ drop (p + 1) lost = rw (add-one, drop-cons lost p 0) in
    rw (x, y, ← e, d, k) (sym (append_assoc (take p ps) (v ∷ []) _))

pub zero-hit : (s : ℕ) (lost : List ℕ) (ps : List (List ℕ)) (p : ℕ) → p < length ps → p < length lost → get_or lost p 0 ≡ 1 → zero_from s lost ps p ≡ zero_from s lost (set ps p (replicate s 0)) (p + 1)
zero-hit s lost ps p h g e = zero_turn s lost ps p (replicate s 0) h g (rw e)

pub zero-miss : (s : ℕ) (lost : List ℕ) (ps : List (List ℕ)) (p : ℕ) → p < length ps → p < length lost → (get_or lost p 0 ≡ 1 → ⊥) → zero_from s lost ps p ≡ zero_from s lost ps (p + 1)
zero-miss s lost ps p h g e = zero_turn s lost ps p (get_or ps p []) h g (rw (ne_eqb _ _ e)) ∙ ap (λ q. zero_from s lost q (p + 1)) (set-get_or ps p [])

pub zero-end : (s : ℕ) (lost : List ℕ) (ps : List (List ℕ)) (p : ℕ) → length ps ≤ p → zero_from s lost ps p ≡ ps
zero-end s lost ps p h = rw (drop_of_length-le ps h, zero-none s (drop p lost), take_all p ps h) (append-nil ps)

-- ---- the same over bytes
module _ (s n : ℕ) (lost b : List ℕ) (bytes : length b ≡ n * s) (places : length lost ≡ n) (p : ℕ) (inside : p < n) where
  in-packets : p < length (packets s n b)
  in-packets = subst (λ k. p < k) (sym (packets-length s n b)) inside

  pub cleared-hit : (e : List ℕ) → e ≡ written b (p * s) (replicate s 0) → get_or lost p 0 ≡ 1
      → (length e ≡ n * s) × (zero_from s lost (packets s n b) p ≡ zero_from s lost (packets s n e) (p + 1))
  cleared-hit e w h =
      let z = w ∙ written-set s n b bytes p (replicate s 0) inside (length-replicate s 0) in (
        ap length z ∙ bytes-set s n b bytes p (replicate s 0) inside (length-replicate s 0),
        zero-hit s lost (packets s n b) p in-packets (omega arith) h
            ∙ ap (λ q. zero_from s lost q (p + 1)) (sym (ap (packets s n) z ∙ packets-set s n b bytes p (replicate s 0) inside (length-replicate s 0))),
      )

  pub cleared-miss : (get_or lost p 0 ≡ 1 → ⊥) → zero_from s lost (packets s n b) p ≡ zero_from s lost (packets s n b) (p + 1)
  cleared-miss h = zero-miss s lost (packets s n b) p in-packets (omega arith) h

pub cleared-end : (s n : ℕ) (lost b : List ℕ) → length b ≡ n * s → (p : ℕ) → n ≤ p → joined (zero_from s lost (packets s n b) p) ≡ b
cleared-end s n lost b bytes p h = ap joined (zero-end s lost (packets s n b) p (subst (λ k. k ≤ p) (sym (packets-length s n b)) h)) ∙ packets-joined s n b bytes
