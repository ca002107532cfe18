-- Parts of slots: one added, one put back, and those of a sum.
use mathlib.Core.Path.{◌≡◌, refl, sym, ap, ap₂, ◌∙◌}
use mathlib.Core.List.{List, [], ◌∷◌, ◌++◌}
use mathlib.Core.Logic.{⊎_elim}
use Prim.Native.Nat.{ℕ, ◌+◌, ◌*◌, ◌-◌, ◌<◌, ◌≤◌}
use native.Mathlib.Numerals.{add-one}
use native.Mathlib.Omega.{arith}
use lib.ListN.{length-append, length-take, length-drop, get_or-append, length, get_or, set, take, drop, replicate}
use lib.Seq.{take-suc, take-suc-set, take-set-le, take-set-lt, drop-set-lt, drop-set-add, get_or-take, get_or-drop, get_or-append_seam, take_all, drop-drop}
use Rattle.gf2.specs.Gf2.{xor_group, add}
use Rattle.lists.specs.ListLaws.{all_get_d, all_set, all_take, all_drop}
use Rattle.lists.specs.Buffers.{Patched, patched_same, part_length, get_d_part, written-bytes, written-length}
use Rattle.lists.specs.Tests.{side}
use Rattle.table.specs.BufferLaws.{mixed-whole, place-fits, packet-part, set-written}
use Rattle.table.specs.GatherLaws.{plus-zeros, one_more}
use Rattle.table.specs.PacketLaws.{joined_length}
use Rattle.table.specs.Packets.{Packets, joined, mixed}
use Rattle.lists.specs.Lists.{written}
use Rattle.table.specs.SumLaws.{part-of-part, part-zeros}
use Rattle.slots.specs.Slots.{Holds, Among, plus_part, PartAdded, PartsAdded}

-- ---- one slot written, in bytes and in slots
module _ (n s : ℕ) (st : List (List ℕ)) (b c : List ℕ) (h : Holds n s st b c) where
  front_length : (to : ℕ) → to < n → to < length st → to < length (take n st)
  front_length to l m = let e = length-take n st in omega arith

  back-length : (to : ℕ) → n ≤ to → to < length st → to - n < length (drop n st)
  back-length to l m = let e = length-drop n st in omega arith

  -- a slot of the block
  put-block : (to : ℕ) (v d : List ℕ) → to < n → length v ≡ s → d ≡ joined (set (take n st) to v) → Holds n s (set st to v) d c
  put-block to v d l e q = record {
    sized = all_set h.sized to v e;
    block-is = q ∙ ap joined (sym (take-set-lt n st to v l));
    scratch-is = h.scratch-is ∙ ap joined (sym (drop-set-lt n st to v l));
  }

  -- a slot of the scratch
  put-scratch : (to : ℕ) (v d : List ℕ) → n ≤ to → length v ≡ s → d ≡ joined (set (drop n st) (to - n) v) → Holds n s (set st to v) b d
  put-scratch to v d l e q = record {
    sized = all_set h.sized to v e;
    block-is = h.block-is ∙ ap joined (sym (take-set-le n st to v l));
    scratch-is = q ∙ ap joined (sym (drop-set-add n st (to - n) v) ∙ ap (λ (i : ℕ). drop n (set st i v)) {x = n + (to - n)} {y = to} (omega arith));
  }

  front : (to : ℕ) → to < n → get_or st to [] ≡ get_or (take n st) to []
  front to l = sym (get_or-take n st to [] l)

  back : (to : ℕ) → n ≤ to → get_or st to [] ≡ get_or (drop n st) (to - n) []
  back to l = ap (λ (i : ℕ). get_or st i []) {x = to} {y = n + (to - n)} (omega arith) ∙ sym (get_or-drop n st (to - n) [])

-- ---- one of some packets in a row
module _ (s : ℕ) {ps : List (List ℕ)} (w : Packets s ps) (f off : ℕ) (l : f < length ps) where
  bytes-in : (k : ℕ) → off + k ≤ s → take k (drop (f * s + off) (joined ps)) ≡ take k (drop off (get_or ps f []))
  bytes-in k fits =
      ap (take k) (sym (drop-drop off (f * s) (joined ps))) ∙ sym (part-of-part off k s (drop (f * s) (joined ps)) fits)
      ∙ ap (λ p. take k (drop off p)) (sym (packet-part s w f l))

  row_fits : f * s + s ≤ length (joined ps)
  row_fits = omega (arith, joined_length s w, place-fits f (length ps) s l)

  -- x written into it
  module _ (x : List ℕ) (fits : off + length x ≤ s) where
    abbrev old : List ℕ
    old = get_or ps f []

    abbrev new : List ℕ
    new = written old off x

    old-long : length old ≡ s
    old-long = all_get_d w f l

    new-long : length new ≡ s
    new-long = written-length old off x (omega (arith, old-long)) ∙ old-long

    old-at : (i : ℕ) → i < s → get_or old i 0 ≡ get_or (joined ps) (f * s + i) 0
    old-at i h = ap (λ (p : List ℕ). get_or p i 0) (packet-part s w f l) ∙ get_d_part (joined ps) (f * s) s i h

    outer : Patched (joined ps) (f * s) s (λ i. get_or new i 0) (written (joined ps) (f * s) new)
    outer = written-bytes (joined ps) (f * s) new s new-long row_fits

    inner : Patched old off (length x) (λ i. get_or x i 0) new
    inner = written-bytes old off x (length x) refl (omega (arith, old-long))

    within : Patched (joined ps) (f * s + off) (length x) (λ i. get_or x i 0) (written (joined ps) (f * s) new)
    within = record {
      len = outer.len;
      inside = λ i h. let d : f * s + (off + i) ≡ f * s + off + i = omega arith in rw d at (outer.inside (off + i) (omega arith) ∙ inner.inside i h);
      below = λ k h. ⊎_elim (λ m. outer.below k m)
          (λ m. let d : f * s + (k - f * s) ≡ k = omega arith in
          rw d at (outer.inside (k - f * s) (omega arith) ∙ inner.below (k - f * s) (omega arith) ∙ old-at (k - f * s) (omega arith)))
          (side k (f * s));
      above = λ k h. ⊎_elim
          (λ m. let d : f * s + (k - f * s) ≡ k = omega arith in
          rw d at (outer.inside (k - f * s) (omega arith) ∙ inner.above (k - f * s) (omega arith) ∙ old-at (k - f * s) (omega arith)))
          (λ m. outer.above k m) (side k (f * s + s));
    }

    row_put : written (joined ps) (f * s + off) x ≡ joined (set ps f new)
    row_put = patched_same (λ i h. refl) (written-bytes (joined ps) (f * s + off) x (length x) refl (omega (arith, row_fits))) within
        ∙ sym (set-written s w f new l new-long)

-- ---- a slot
module _ (n s : ℕ) (st : List (List ℕ)) (b c : List ℕ) (h : Holds n s st b c) (f off : ℕ) (l : f < length st) where
  front-part : f < n → (k : ℕ) → off + k ≤ s → take k (drop (f * s + off) b) ≡ take k (drop off (get_or st f []))
  front-part m k fits =
      ap (λ x. take k (drop (f * s + off) x)) h.block-is ∙ bytes-in s (all_take n h.sized) f off (front_length n s st b c h f m l) k fits
      ∙ ap (λ x. take k (drop off x)) (sym (front n s st b c h f m))

  back-part : n ≤ f → (k : ℕ) → off + k ≤ s → take k (drop ((f - n) * s + off) c) ≡ take k (drop off (get_or st f []))
  back-part m k fits =
      ap (λ x. take k (drop ((f - n) * s + off) x)) h.scratch-is ∙ bytes-in s (all_drop n h.sized) (f - n) off (back-length n s st b c h f m l) k fits
      ∙ ap (λ x. take k (drop off x)) (sym (back n s st b c h f m))

  pub added-front : f < n → (a r : List ℕ) → off + length a ≤ s → f * s + off + length a ≤ length b → r ≡ mixed a 0 (take (length a) (drop (f * s + off) b))
      → r ≡ add xor_group a (take (length a) (drop off (get_or st f [])))
  added-front m a r fits room e = e ∙ mixed-whole a _ (part_length b (f * s + off) (length a) room) ∙ ap (add xor_group a) (front-part m (length a) fits)

  pub added-back : n ≤ f → (a r : List ℕ) → off + length a ≤ s → (f - n) * s + off + length a ≤ length c → r ≡ mixed a 0 (take (length a) (drop ((f - n) * s + off) c))
      → r ≡ add xor_group a (take (length a) (drop off (get_or st f [])))
  added-back m a r fits room e = e ∙ mixed-whole a _ (part_length c ((f - n) * s + off) (length a) room) ∙ ap (add xor_group a) (back-part m (length a) fits)

  put-long : (x : List ℕ) → off + length x ≤ s → length (written (get_or st f []) off x) ≡ s
  put-long x fits = let o = all_get_d h.sized f l in written-length (get_or st f []) off x (omega arith) ∙ o

  pub put_front : f < n → (x d : List ℕ) → off + length x ≤ s → d ≡ written b (f * s + off) (take (length x) x) → Holds n s (set st f (written (get_or st f []) off x)) d c
  put_front m x d fits e = put-block n s st b c h f (written (get_or st f []) off x) d m (put-long x fits)
      (e ∙ ap₂ (λ y z. written y (f * s + off) z) h.block-is (take_all (length x) x (omega arith))
      ∙ row_put s (all_take n h.sized) f off (front_length n s st b c h f m l) x fits
      ∙ ap (λ v. joined (set (take n st) f (written v off x))) (sym (front n s st b c h f m)))

  pub put_back : n ≤ f → (x d : List ℕ) → off + length x ≤ s → d ≡ written c ((f - n) * s + off) (take (length x) x) → Holds n s (set st f (written (get_or st f []) off x)) b d
  put_back m x d fits e = put-scratch n s st b c h f (written (get_or st f []) off x) d m (put-long x fits)
      (e ∙ ap₂ (λ y z. written y ((f - n) * s + off) z) h.scratch-is (take_all (length x) x (omega arith))
      ∙ row_put s (all_drop n h.sized) (f - n) off (back-length n s st b c h f m l) x fits
      ∙ ap (λ v. joined (set (drop n st) (f - n) (written v off x))) (sym (back n s st b c h f m)))

-- ---- sums of slots
-- zeros add nothing
pub zeros-added : (s off : ℕ) (a : List ℕ) → off + length a ≤ s → a ≡ plus_part a off (replicate s 0)
zeros-added s off a fits = plus-zeros a _ (part-zeros off (length a) s fits)

-- no slot yet
pub parts_none : {n s off : ℕ} {b c a : List ℕ} → off + length a ≤ s → PartsAdded n s [] off b c a a
parts_none {n} {s} {off} {b} {c} {a} fits = record { sum = λ st h l. zeros-added s off a fits }

-- one more
among-more : {k f : ℕ} (fs : List ℕ) → Among k (fs ++ (f ∷ [])) → Among k fs × (f < k)
among-more {k} {f} fs h =
    let e = length-append fs (f ∷ []) in (
      record { each = λ i l. rw (get_or-append fs (f ∷ []) 0 i l) at (h.each i (omega arith)) },
      rw (get_or-append_seam fs f [] 0) at (h.each (length fs) (omega arith)),
    )

pub parts_more : {n s off f : ℕ} {fs b c z a r : List ℕ} → length a ≡ length z → PartsAdded n s fs off b c z a → PartAdded n s f off b c a r
    → PartsAdded n s (fs ++ (f ∷ [])) off b c z r
parts_more {n} {s} {off} {f} {fs} {b} {c} {z} {a} {r} long p q = record {
  sum = λ st h l.
      let m = among-more fs l in
      q.sum st h m.1 ∙ ap₂ (λ (x : List ℕ) (j : ℕ). add xor_group x (take j (drop off (get_or st f [])))) (p.sum st h m.0) long
      ∙ one_more s st off fs f (length z) z;
}

pub parts-as : {n s off : ℕ} {fs gs b c a a' : List ℕ} → fs ≡ gs → PartsAdded n s fs off b c a a' → PartsAdded n s gs off b c a a'
parts-as e p = rw (← e) p

-- a first part of a list with one more, and with one more written
pub take_more : (fs : List ℕ) (m : ℕ) → m < length fs → take m fs ++ (get_or fs m 0 ∷ []) ≡ take (m + 1) fs
take_more fs m h = sym (ap (λ (k : ℕ). take k fs) (add-one m) ∙ take-suc fs m 0 h)

pub take-written : (fs : List ℕ) (m f : ℕ) → m < length fs → take (m + 1) (set fs m f) ≡ take m fs ++ (f ∷ [])
take-written fs m f h = ap (λ (k : ℕ). take k (set fs m f)) (add-one m) ∙ take-suc-set fs m f h
