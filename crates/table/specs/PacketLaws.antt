-- Laws of packets: a block as bytes in a row and as packets, and sums byte by byte.
use Rattle.std.specs.Prelude.{◌≡◌, refl, List, [], ◌∷◌, ◌++◌, ℕ, zero, suc, ◌+◌, ◌*◌, ◌<◌, length, get_or, set, take, drop}
use Rattle.std.proofs.Common.{sym, ap, ap₂, ◌∙◌, append_assoc, arith, length-append, length-drop, take_at, take_all, take-add, drop_at, drop-drop, length-take-le, ext_get_or}
use Rattle.std.specs.Int.Bits.{bit_xor}
use Rattle.std.proofs.lemmas.List.{length-replicate}
use Rattle.std.proofs.Math.Seq.{take-append-add, drop-append-add}
use Rattle.gf2.specs.Gf2.{xor_group, sum_over}
use Rattle.table.specs.PacketCall.{part_at}
use Rattle.table.specs.Packets.{Packets, packets, joined, packet_sum}
use Rattle.lists.specs.ListLaws.{all_get_d, get_d-zeros}
use Rattle.gf2.specs.Vectors.{get_d-add, length-add}
use Rattle.lists.specs.Lists.{All, All.nil, All.cons}

-- there are n of them
pub packets-length : (s n : ℕ) (b : List ℕ) → length (packets s n b) ≡ n
packets-length s zero b = refl
packets-length s (suc n) b = ap suc (packets-length s n (drop s b))

-- of s bytes each
pub packets-sized : (s n : ℕ) (b : List ℕ) → length b ≡ n * s → Packets s (packets s n b)
packets-sized s zero b l = nil
packets-sized s (suc n) b l = cons (length-take-le s b (omega arith)) (packets-sized s n (drop s b) (length-drop s b ∙ (omega arith)))

-- their bytes
pub joined_length : (s : ℕ) {ps : List (List ℕ)} → Packets s ps → length (joined ps) ≡ length ps * s
joined_length s nil = omega arith
joined_length s (cons {x = p} {l = ps} e a) = let h = joined_length s a in length-append p (joined ps) ∙ (omega arith)

-- in a row again they are the first n·s bytes
packets-first : (s n : ℕ) (b : List ℕ) → joined (packets s n b) ≡ take (n * s) b
packets-first s zero b = ap (λ k. take k b) {x = 0} {y = 0 * s} (omega arith)
packets-first s (suc n) b = ap (λ r. take s b ++ r) (packets-first s n (drop s b)) ∙ sym (take-add s (n * s) b) ∙ ap (λ k. take k b) {x = s + n * s} {y = suc n * s} (omega arith)

-- there and back
pub packets-joined : (s n : ℕ) (b : List ℕ) → length b ≡ n * s → joined (packets s n b) ≡ b
packets-joined s n b l = packets-first s n b ∙ take_all (n * s) b (omega arith)

-- and the other way
pub joined-packets : (s : ℕ) {ps : List (List ℕ)} → Packets s ps → packets s (length ps) (joined ps) ≡ ps
joined-packets s nil = refl
joined-packets s (cons {x = p} {l = ps} e a) = ap₂ ◌∷◌ (take_at p (joined ps) s e) (ap (packets s (length ps)) (drop_at p (joined ps) s e) ∙ joined-packets s a)

pub packets-of : (s n : ℕ) {ps : List (List ℕ)} → length ps ≡ n → Packets s ps → packets s n (joined ps) ≡ ps
packets-of s n {ps} l a = ap (λ k. packets s k (joined ps)) (sym l) ∙ joined-packets s a

-- the packet of a place is the part of s bytes at place times s
pub packet-at : (s n : ℕ) (b : List ℕ) (p : ℕ) → p < n → get_or (packets s n b) p [] ≡ take s (drop (p * s) b)
packet-at s zero b p h = absurd (omega arith)
packet-at s (suc n) b zero h = ap (λ k. take s (drop k b)) {x = 0} {y = 0 * s} (omega arith)
packet-at s (suc n) b (suc p) h = packet-at s n (drop s b) p (omega arith) ∙ ap (take s) (drop-drop (p * s) s b ∙ ap (λ k. drop k b) {x = s + p * s} {y = suc p * s} (omega arith))

-- blocks that agree in their first n packets
pub first-packets : (s n : ℕ) (b w : List ℕ) → ((p : ℕ) → p < n → part_at s p b ≡ part_at s p w) → take (n * s) b ≡ take (n * s) w
first-packets s n b w h = sym (packets-first s n b)
    ∙ ap joined (ext_get_or [] (packets s n b) (packets s n w) (packets-length s n b ∙ sym (packets-length s n w))
    (λ p l. let q : p < n = omega (arith, packets-length s n b) in packet-at s n b p q ∙ h p q ∙ sym (packet-at s n w p q)))
    ∙ packets-first s n w

-- and in all of them
pub same-packets : (s n : ℕ) (b w : List ℕ) → length b ≡ n * s → length w ≡ n * s → ((p : ℕ) → p < n → part_at s p b ≡ part_at s p w) → b ≡ w
same-packets s n b w lb lw h = sym (take_all (n * s) b (omega arith)) ∙ first-packets s n b w h ∙ take_all (n * s) w (omega arith)

-- a packet replaced
pub joined-set : (s : ℕ) {ps : List (List ℕ)} → Packets s ps → (i : ℕ) (v : List ℕ) → i < length ps
    → joined (set ps i v) ≡ take (i * s) (joined ps) ++ (v ++ drop (i * s + s) (joined ps))
joined-set s nil i v h = absurd (omega arith)
joined-set s (cons {x = p} {l = ps} e a) zero v h =
    let a1 : ◌≡◌ {A = ℕ} 0 (0 * s) = omega arith in let a2 : s ≡ 0 * s + s = omega arith in
    ap (λ r. v ++ r) (sym (drop_at p (joined ps) s e))
    ∙ ap₂ (λ j k. take j (p ++ joined ps) ++ (v ++ drop k (p ++ joined ps))) a1 a2
joined-set s (cons {x = p} {l = ps} e a) (suc i) v h =
    let a1 : length p + i * s ≡ suc i * s = omega arith in let a2 : length p + (i * s + s) ≡ suc i * s + s = omega arith in
    ap (λ r. p ++ r) (joined-set s a i v (omega arith))
    ∙ sym (append_assoc p (take (i * s) (joined ps)) _)
    ∙ ap₂ (λ x y. x ++ (v ++ y)) (sym (take-append-add p (joined ps) (i * s))) (sym (drop-append-add p (joined ps) (i * s + s)))
    ∙ ap₂ (λ j k. take j (p ++ joined ps) ++ (v ++ drop k (p ++ joined ps))) a1 a2

abbrev pub view : List (List ℕ) → ℕ → ℕ → ℕ
view st j i = get_or (get_or st i []) j 0

-- a sum of packets, byte by byte
pub sum_view : (s : ℕ) {b : List (List ℕ)} → Packets s b → {c : List ℕ} → All (λ p. p < length b) c
    → (length (packet_sum s b c) ≡ s) × ((j : ℕ) → get_or (packet_sum s b c) j 0 ≡ sum_over xor_group (view b j) c)
sum_view s w nil = (length-replicate s 0, get_d-zeros s)
sum_view s {b} w (cons {x = p} {l = c} h a) = let r = sum_view s w a in (
  length-add xor_group (get_or b p []) (packet_sum s b c) s (all_get_d w p h) r.0,
  λ j. get_d-add xor_group (get_or b p []) (packet_sum s b c) s (all_get_d w p h) r.0 j ∙ ap (λ v. bit_xor (view b j p) v) (r.1 j),
)
