-- Laws of buffers: a part added, byte by byte, and packets written or added in a row of packets.
use Rattle.std.specs.Prelude.{◌≡◌, refl, List, [], ◌++◌, ℕ, suc, ◌+◌, ◌*◌, ◌<◌, ◌≤◌, length, get_or, set, take, drop, replicate}
use Rattle.std.proofs.Common.{sym, ap, ◌∙◌, mul-le-mul_right, suc-mul, arith, take_all, length-take-le}
use Rattle.std.specs.Int.Bits.{bit_xor}
use Rattle.std.proofs.lemmas.List.{length-replicate}
use Rattle.table.specs.PacketLaws.{joined-packets, packet-at, joined-set}
use Rattle.gf2.specs.Gf2.{xor_group, add}
use Rattle.gf2.specs.Vectors.{get_d-add, length-add}
use Rattle.lists.specs.Buffers.{part_length, get_d_part, Patched, written-bytes, written-whole}
use Rattle.lists.specs.ListLaws.{all_get_d}
use Rattle.lists.specs.Lists.{written}
use Rattle.table.specs.Packets.{Packets, joined, mixed}

-- a part, from its start, of a buffer whose k numbers are all the same
pub part-of-same : (n k v : ℕ) → n ≤ k → n ≡ length (take n (replicate k v))
part-of-same n k v h = sym (length-take-le n (replicate k v) (rw length-replicate h))

module _ (b : List ℕ) (at : ℕ) (x : List ℕ) (n : ℕ) (long : length x ≡ n) (fits : at + n ≤ length b) where
  target-length : length (take (length x) (drop at b)) ≡ n
  target-length = part_length b at (length x) (omega arith) ∙ long

  sum-length : length (add xor_group (take (length x) (drop at b)) x) ≡ n
  sum-length = length-add xor_group (take (length x) (drop at b)) x n target-length long

-- and after x is added
pub mixed-bytes : (b : List ℕ) (at : ℕ) (x : List ℕ) (n : ℕ) → length x ≡ n → at + n ≤ length b
    → Patched b at n (λ i. bit_xor (get_or b (at + i) 0) (get_or x i 0)) (mixed b at x)
mixed-bytes b at x n long fits =
    let w = written-bytes b at (add xor_group (take (length x) (drop at b)) x) n (sum-length b at x n long fits) fits in
    record {
      len = w.len;
      inside = λ i h. w.inside i h ∙ get_d-add xor_group (take (length x) (drop at b)) x n (target-length b at x n long fits) long i
          ∙ ap (λ v. bit_xor v (get_or x i 0)) (get_d_part b at (length x) i (omega arith));
      below = w.below;
      above = w.above;
    }

pub mixed-length : (b : List ℕ) (at : ℕ) (x : List ℕ) → at + length x ≤ length b → length (mixed b at x) ≡ length b
mixed-length b at x h = (mixed-bytes b at x (length x) refl h).len

pub mixed-whole : (b x : List ℕ) → length x ≡ length b → mixed b 0 x ≡ add xor_group b x
mixed-whole b x h =
    written-whole b (add xor_group (take (length x) b) x) (length-add xor_group (take (length x) b) x (length b) (target-length b 0 x (length b) h (omega arith)) h)
    ∙ ap (λ r. add xor_group r x) (take_all (length x) b (omega arith))

-- ---- packets in a buffer
-- a place's part lies within
pub place-fits : (i n s : ℕ) → i < n → i * s + s ≤ n * s
place-fits i n s h = let m : suc i * s ≤ n * s = mul-le-mul_right s h in omega (arith, suc-mul i s)

module _ (s : ℕ) {ps : List (List ℕ)} (sized : Packets s ps) where
  -- a packet is its part of the buffer
  pub packet-part : (k : ℕ) → k < length ps → get_or ps k [] ≡ take s (drop (k * s) (joined ps))
  packet-part k h = ap (λ (l : List (List ℕ)). get_or l k []) (sym (joined-packets s sized)) ∙ packet-at s (length ps) (joined ps) k h

  -- a packet written
  pub set-written : (i : ℕ) (v : List ℕ) → i < length ps → length v ≡ s → joined (set ps i v) ≡ written (joined ps) (i * s) v
  set-written i v h e = joined-set s sized i v h ∙ ap (λ n. take (i * s) (joined ps) ++ (v ++ drop (i * s + n) (joined ps))) (sym e)

-- a packet of another buffer copied
pub set-copied : (s : ℕ) {ps qs : List (List ℕ)} → Packets s ps → Packets s qs → (i k : ℕ) → i < length ps → k < length qs
    → joined (set ps i (get_or qs k [])) ≡ written (joined ps) (i * s) (take s (drop (k * s) (joined qs)))
set-copied s {ps} {qs} a b i k h g = set-written s a i (get_or qs k []) h (all_get_d b k g) ∙ ap (written (joined ps) (i * s)) (packet-part s b k g)
