-- A check that has restored a place sums to zero from then on.
use mathlib.Core.Path.{◌≡◌, refl, sym, ap, ap₂, ◌∙◌, subst}
use mathlib.Core.Bool.{Bool, true, false, not, true≢false, false≢true}
use mathlib.Core.List.{List, [], ◌∷◌}
use Prim.Native.Nat.{ℕ, ◌<◌}
use native.Mathlib.Omega.{arith}
use borrow.Author.Tests.{eq-eqb, ne_eqb}
use lib.Dec.{eqb}
use lib.ListN.{length, get_or, set, replicate, length-set}
use lib.Seq.{get_or-set_same, get_or-set_other}
use Rattle.lists.specs.ListLaws.{all_in, par-has}
use Rattle.lists.specs.Tests.{eqb-true, eqb-false, or-false-l, or-false-r, by_bool}
use Rattle.gf2.specs.Gf2.{xor_group, add}
use Rattle.lists.specs.Lists.{Distinct, Distinct.dnil, Distinct.dnew, has, filter, minus}
use Rattle.gf2.specs.Vectors.{add_assoc, add_comm, add-self}
use Rattle.table.specs.Checks.{check}
use Rattle.table.specs.PacketLaws.{packets-length}
use Rattle.table.specs.Packets.{packets, packet_sum}
use Rattle.turns.specs.Spent.{Spent}
use Rattle.erasure.specs.Restoring.{lost_places, is_lost}
use Rattle.table.specs.Accepted.{Accepted}
use Rattle.erasure.specs.Passing.{filter-mono, none_passes, one_passes}
use Rattle.erasure.specs.States.{state_of}
use Rattle.erasure.specs.Turn.{turn-within, place-lost, turn-none}
use Rattle.turns.proofs.Ordering.{distinct-check}

-- ---- sums
-- a packet that isn't summed may be any
sum-elsewhere : (s : ℕ) (ps : List (List ℕ)) (p : ℕ) (v : List ℕ) (d : List ℕ) → has p d ≡ false → packet_sum s (set ps p v) d ≡ packet_sum s ps d
sum-elsewhere s ps p v [] h = refl
sum-elsewhere s ps p v (q ∷ d) h = ap₂ (add xor_group)
    (get_or-set_other ps p q v [] (λ e. absurd (true≢false (sym (eq-eqb p q (sym e)) ∙ or-false-l (eqb p q) (has p d) h))))
    (sum-elsewhere s ps p v d (or-false-r (eqb p q) (has p d) h))

filter-out : (f : ℕ → Bool) (q : ℕ) (c : List ℕ) → f q ≡ false → filter f (q ∷ c) ≡ filter f c
filter-out f q c e = rw (e, filter)

filter-in : (f : ℕ → Bool) (q : ℕ) (c : List ℕ) → f q ≡ true → filter f (q ∷ c) ≡ q ∷ filter f c
filter-in f q c e = rw (e, filter)

apart_of : (p q : ℕ) → eqb p q ≡ false → q ≡ p → ⊥
apart_of p q e z = true≢false (sym (eq-eqb p q (sym z)) ∙ e)

minus-none : (p : ℕ) (c : List ℕ) → has p c ≡ false → minus c (p ∷ []) ≡ c
minus-none p [] h = refl
minus-none p (q ∷ c) h =
    let f : not (has q (p ∷ [])) ≡ true = rw (ne_eqb q p (apart_of p q (or-false-l (eqb p q) (has p c) h))) in
    filter-in (λ x. not (has x (p ∷ []))) q c f ∙ ap (λ l. q ∷ l) (minus-none p c (or-false-r (eqb p q) (has p c) h))

-- a packet of a check is set: the sum is that and the others
sum-filled : (s : ℕ) (ps : List (List ℕ)) (p : ℕ) (v : List ℕ) → p < length ps → {c : List ℕ} → Distinct c → has p c ≡ true
    → packet_sum s (set ps p v) c ≡ add xor_group v (packet_sum s ps (minus c (p ∷ [])))
sum-filled s ps p v inside dnil h = absurd (false≢true h)
sum-filled s ps p v inside (dnew {x = q} {l = c} new d) h = by_bool (eqb p q)
    (λ e. let z : p ≡ q = eqb-true p q e in
    let out : has p c ≡ false = ap (λ x. has x c) z ∙ new in
    let here : get_or (set ps p v) q [] ≡ v = ap (λ x. get_or (set ps p v) x []) (sym z) ∙ get_or-set_same ps p v [] inside in
    let f : not (has q (p ∷ [])) ≡ false = rw (eq-eqb q p (sym z)) in
    let gone : minus (q ∷ c) (p ∷ []) ≡ c = filter-out (λ x. not (has x (p ∷ []))) q c f ∙ minus-none p c out in
    ap₂ (add xor_group) here (sum-elsewhere s ps p v c out) ∙ ap (λ l. add xor_group v (packet_sum s ps l)) (sym gone))
    (λ e. let x = get_or ps q [] in
    let y = packet_sum s ps (minus c (p ∷ [])) in
    let there : get_or (set ps p v) q [] ≡ x = get_or-set_other ps p q v [] (apart_of p q e) in
    let more : has p c ≡ true = rw e at h in
    let f : not (has q (p ∷ [])) ≡ true = rw (ne_eqb q p (apart_of p q e)) in
    let kept : minus (q ∷ c) (p ∷ []) ≡ q ∷ minus c (p ∷ []) = filter-in (λ x. not (has x (p ∷ []))) q c f in
    ap₂ (add xor_group) there (sum-filled s ps p v inside d more)
    ∙ sym (add_assoc xor_group x v y) ∙ ap (λ u. add xor_group u y) (add_comm xor_group x v) ∙ add_assoc xor_group v x y
    ∙ ap (λ l. add xor_group v (packet_sum s ps l)) (sym kept))

-- ---- the checks that have restored a place
module _ (t : List ℕ) (m n s : ℕ) (k : Accepted t m n s) (l b used : List ℕ) (sp : Spent t m n s b l used) (j : ℕ) (in-m : j < m) (c : List ℕ) (is : c ≡ check t m j)
    (one : length (lost_places l c) ≡ 1) (in-n : get_or (lost_places l c) 0 0 < n)
    (long : length (packet_sum s (packets s n b) (minus c (get_or (lost_places l c) 0 0 ∷ []))) ≡ s)
    (b' l' : List ℕ) (block : packets s n b' ≡ set (packets s n b) (get_or (lost_places l c) 0 0) (packet_sum s (packets s n b) (minus c (get_or (lost_places l c) 0 0 ∷ []))))
    (map : l' ≡ set l (get_or (lost_places l c) 0 0) 2) where
  abbrev q : ℕ
  q = get_or (lost_places l c) 0 0

  lost-q : is_lost l q ≡ true
  lost-q = place-lost l c one

  distinct : Distinct c
  distinct = subst Distinct (sym is) (distinct-check t m n s k j in-m)

  in_c : has q c ≡ true
  in_c = par-has q c (one_passes (is_lost l) c one).0

  -- the check itself
  own-lost : length (lost_places l' c) ≡ 0
  own-lost = ap (λ x. length (lost_places x c)) map ∙ turn-none s c (state_of s n b l 0) one

  own-sum : packet_sum s (packets s n b') c ≡ replicate s 0
  own-sum =
      let v = packet_sum s (packets s n b) (minus c (q ∷ [])) in
      ap (λ x. packet_sum s x c) block ∙ sum-filled s (packets s n b) q v (rw (packets-length s n b) in-n) distinct in_c ∙ add-self xor_group v s long

  -- another one
  absent : (i : ℕ) → i < m → length (lost_places l (check t m i)) ≡ 0 → has q (check t m i) ≡ false
  absent i h e = by_bool (has q (check t m i))
      (λ g. absurd (true≢false (sym lost-q ∙ all_in (λ p. is_lost l p ≡ false) q g (none_passes (is_lost l) (check t m i) e))))
      (λ g. g)

  other-lost : (i : ℕ) → i < m → length (lost_places l (check t m i)) ≡ 0 → length (lost_places l' (check t m i)) ≡ 0
  other-lost i h e = let k = filter-mono (is_lost (set l q 2)) (is_lost l) (turn-within s c (state_of s n b l 0)) (check t m i) in
      ap (λ x. length (lost_places x (check t m i))) map ∙ (omega arith)

  pub spent-turn : Spent t m n s b' l' (set used j 1)
  spent-turn = record {
    room = omega (arith, length-set used j 1, sp.room);
    each = λ i h e. by_bool (eqb i j)
        (λ z. subst (λ x. (length (lost_places l' x) ≡ 0) × (packet_sum s (packets s n b') x ≡ replicate s 0)) (is ∙ ap (check t m) (sym (eqb-true i j z))) (own-lost, own-sum))
        (λ z. let r = sp.each i h (sym (get_or-set_other used j i 1 0 (eqb-false i j z)) ∙ e) in
        (other-lost i h r.0, ap (λ x. packet_sum s x (check t m i)) block ∙ sum-elsewhere s (packets s n b) q _ (check t m i) (absent i h r.0) ∙ r.1));
  }
