-- Bytes of packets gathered: those from off on of the packets at some places, added up in a buffer.
use Rattle.std.specs.Prelude.{◌≡◌, refl, List, [], ◌∷◌, ◌++◌, ℕ, ◌+◌, ◌-◌, ◌≤◌, length, get_or, take, drop, replicate}
use Rattle.std.proofs.Common.{sym, ap, ap₂, ◌∙◌, arith, length-append, length-drop, take_all, take_at, length-take-le}
use Rattle.std.proofs.lemmas.List.{length-replicate}
use Rattle.gf2.specs.Gf2.{xor_group, add}
use Rattle.gf2.specs.Vectors.{add_assoc, add_comm, add-zl}
use Rattle.lists.specs.Buffers.{part_length}
use Rattle.table.specs.BufferLaws.{mixed-length, mixed-whole}
use Rattle.table.specs.Packets.{packet_sum, mixed}
use Rattle.table.specs.SumLaws.{part-sum, part-zeros, sum-snoc}

-- a is a₀ with the bytes from off on of the packets at fs added, as many as a₀ has
pub record Gathered (s : ℕ) (ps : List (List ℕ)) (off : ℕ) (fs a₀ a : List ℕ) : Type 0 where
  pub len : length a ≡ length a₀
  pub is : a ≡ add xor_group a₀ (take (length a₀) (drop off (packet_sum s ps fs)))

-- zeros added
pub plus-zeros : (a z : List ℕ) → z ≡ replicate (length a) 0 → a ≡ add xor_group a z
plus-zeros a z e = sym (ap (add xor_group a) e ∙ add_comm xor_group a (replicate (length a) 0) ∙ add-zl xor_group a (length a) refl)

module _ (s : ℕ) (ps : List (List ℕ)) (off : ℕ) where
  -- no place yet
  pub gathered_none : (a₀ : List ℕ) → off + length a₀ ≤ s → Gathered s ps off [] a₀ a₀
  gathered_none a₀ fits = record { len = refl; is = plus-zeros a₀ _ (part-zeros off (length a₀) s fits) }

  -- the same places, the same buffer
  pub gathered-as : {fs fs' a₀ a a' : List ℕ} → fs ≡ fs' → a' ≡ a → Gathered s ps off fs a₀ a → Gathered s ps off fs' a₀ a'
  gathered-as e f g = rw (← e, f) g

  -- the packet at one place more is added to what the places fs give
  pub one_more : (fs : List ℕ) (q k : ℕ) (a : List ℕ)
      → add xor_group (add xor_group a (take k (drop off (packet_sum s ps fs)))) (take k (drop off (get_or ps q [])))
      ≡ add xor_group a (take k (drop off (packet_sum s ps (fs ++ (q ∷ [])))))
  one_more fs q k a =
      let p = packet_sum s ps fs in
      add_assoc xor_group a (take k (drop off p)) (take k (drop off (get_or ps q [])))
      ∙ ap (add xor_group a) (sym (ap (λ y. take k (drop off y)) (sum-snoc s ps fs q) ∙ part-sum off k p (get_or ps q [])))

  -- one place more
  pub gathered-more : {fs a₀ a r : List ℕ} (q : ℕ) (x : List ℕ) → Gathered s ps off fs a₀ a → length x ≡ length a
      → x ≡ take (length a₀) (drop off (get_or ps q [])) → r ≡ mixed a 0 x → Gathered s ps off (fs ++ (q ∷ [])) a₀ r
  gathered-more {fs} {a₀} {a} {r} q x g long e f =
      record {
        len = ap length f ∙ mixed-length a 0 x (omega arith) ∙ g.len;
        is = f ∙ mixed-whole a x long ∙ ap₂ (add xor_group) g.is e ∙ one_more fs q (length a₀) a₀;
      }

  module _ (fs : List ℕ) (long : length (packet_sum s ps fs) ≡ s) where
    -- gathered from k zeros, it is the part of the sum
    pub from-zeros : (k : ℕ) (z a : List ℕ) → z ≡ replicate k 0 → off + k ≤ s
        → a ≡ add xor_group z (take (length z) (drop off (packet_sum s ps fs))) → a ≡ take k (drop off (packet_sum s ps fs))
    from-zeros k z a e fits g =
        let l : length z ≡ k = ap length e ∙ length-replicate k 0 in
        g ∙ ap₂ (λ x j. add xor_group x (take j (drop off (packet_sum s ps fs)))) e l
        ∙ add-zl xor_group (take k (drop off (packet_sum s ps fs))) k (part_length (packet_sum s ps fs) off k (omega arith))

-- ---- a first part of a buffer, lent and given back
module _ (k : ℕ) (z : List ℕ) (fits : k ≤ length z) where
  pub first-length : k ≡ length (take k z)
  first-length = sym (length-take-le k z fits)

  module _ (e : List ℕ) (kept : length e ≡ length (take k z)) where
    e-length : length e ≡ k
    e-length = kept ∙ sym first-length

    pub back-room : k ≤ length (e ++ drop k z)
    back-room = omega (arith, e-length, length-append e (drop k z))

    pub back-first : take k (e ++ drop k z) ≡ e
    back-first = take_at e (drop k z) k e-length

    pub back-length : k ≡ length (take k (e ++ drop k z))
    back-length = sym (ap length back-first ∙ e-length)

-- the last bytes of a sum, gathered in the first ones of m zeros
pub last-part : (s : ℕ) (ps : List (List ℕ)) (off : ℕ) (fs : List ℕ) → length (packet_sum s ps fs) ≡ s → off ≤ s → (m : ℕ) (a : List ℕ) → s - off ≤ m
    → length a ≡ length (take (s - off) (replicate {A = ℕ} m 0))
    → a ≡ add xor_group (take (s - off) (replicate m 0)) (take (length (take (s - off) (replicate {A = ℕ} m 0))) (drop off (packet_sum s ps fs)))
    → take (s - off) (a ++ drop (s - off) (replicate m 0)) ≡ drop off (packet_sum s ps fs)
last-part s ps off fs long le m a fits kept g =
    let k = s - off in
    let x = packet_sum s ps fs in
    let room : k ≤ length (replicate {A = ℕ} m 0) = omega (arith, length-replicate {A = ℕ} m 0) in
    let short : length (drop off x) ≤ k = omega (arith, length-drop off x) in
    back-first k (replicate m 0) room a kept
    ∙ from-zeros s ps off fs long k (take k (replicate m 0)) a (part-zeros 0 k m (omega arith)) (omega arith) g
    ∙ take_all k (drop off x) short
