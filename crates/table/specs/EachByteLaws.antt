-- Laws of the bytes of one position as packets of one byte (`each_byte`): the packet of a place, a packet replaced, and the sum over a check,
-- which is zero exactly if it is zero at every byte position.
use Rattle.std.specs.Prelude.{◌≡◌, refl, List, [], ◌∷◌, ℕ, zero, suc, ◌+◌, ◌<◌, length, get_or, set, take, drop, replicate}
use Rattle.std.proofs.Common.{sym, ap, ap₂, ◌∙◌, arith, ext_get_or}
use Rattle.std.proofs.lemmas.List.{length-replicate}
use Rattle.std.proofs.Math.Seq.{drop-nil}
use Rattle.gf2.specs.Gf2.{xor_group, add}
use Rattle.lists.specs.Buffers.{get_d_part}
use Rattle.lists.specs.ListLaws.{get_d-zeros}
use Rattle.lists.specs.Lists.{All}
use Rattle.table.specs.ByteLaws.{each_byte}
use Rattle.table.specs.PacketLaws.{sum_view}
use Rattle.table.specs.Packets.{Packets, packet_sum}
use Rattle.table.specs.SumLaws.{part-sum, part-zeros}

pub each_at : (j : ℕ) (ps : List (List ℕ)) (i : ℕ) → get_or (each_byte j ps) i [] ≡ take 1 (drop j (get_or ps i []))
each_at j [] i = sym (ap (take 1) (drop-nil j))
each_at j (p ∷ ps) zero = refl
each_at j (p ∷ ps) (suc i) = each_at j ps i

pub each_set : (j : ℕ) (ps : List (List ℕ)) (i : ℕ) (v : List ℕ) → each_byte j (set ps i v) ≡ set (each_byte j ps) i (take 1 (drop j v))
each_set j [] i v = refl
each_set j (p ∷ ps) zero v = refl
each_set j (p ∷ ps) (suc i) v = ap (λ l. take 1 (drop j p) ∷ l) (each_set j ps i v)

-- ---- sums
module _ (s j : ℕ) (h : j < s) (ps : List (List ℕ)) where
  pub each-sum : (c : List ℕ) → packet_sum 1 (each_byte j ps) c ≡ take 1 (drop j (packet_sum s ps c))
  each-sum [] = sym (part-zeros j 1 s (omega arith))
  each-sum (p ∷ c) = ap₂ (add xor_group) (each_at j ps p) (each-sum c) ∙ sym (part-sum j 1 (get_or ps p []) (packet_sum s ps c))

  -- zero at one position
  pub each-zero : (c : List ℕ) → packet_sum s ps c ≡ replicate s 0 → packet_sum 1 (each_byte j ps) c ≡ replicate 1 0
  each-zero c z = each-sum c ∙ ap (λ x. take 1 (drop j x)) z ∙ part-zeros j 1 s (omega arith)

-- zero at every position
pub every-zero : (s : ℕ) {ps : List (List ℕ)} → Packets s ps → {c : List ℕ} → All (λ p. p < length ps) c
    → ((j : ℕ) → j < s → packet_sum 1 (each_byte j ps) c ≡ replicate 1 0) → packet_sum s ps c ≡ replicate s 0
every-zero s {ps} sized {c} low z =
    let sum = packet_sum s ps c in
    let long : length sum ≡ s = (sum_view s sized low).0 in
    ext_get_or 0 sum (replicate s 0) (long ∙ sym (length-replicate s 0)) (λ i l.
    let h : i < s = omega arith in
    ap (λ (k : ℕ). get_or sum k 0) {x = i} {y = i + 0} (omega arith) ∙ sym (get_d_part sum i 1 0 (omega arith))
    ∙ ap (λ x. get_or x 0 0) (sym (each-sum s i h ps c) ∙ z i h) ∙ sym (get_d-zeros s i))
