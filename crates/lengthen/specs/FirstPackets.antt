-- The first packets of a codeword of the new table are one of the old. And packets that agree with it.
use Rattle.std.specs.Prelude.{◌≡◌, List, [], ℕ, ◌*◌, ◌<◌, ◌≤◌, length, get_or, take, replicate}
use Rattle.std.proofs.Common.{sym, ap, ◌∙◌, subst, ⊎_elim, mul-le-mul_right, arith, length-take-le}
use Rattle.erasure.specs.Offered.{Held, Agree}
use Rattle.erasure.proofs.TurnValues.{sum-agree}
use Rattle.lengthen.specs.Carrying.{SoFar}
use Rattle.lists.specs.ListLaws.{all_map, all-zip}
use Rattle.lists.specs.Lists.{All}
use Rattle.longer.specs.Longer.{Lengthens}
use Rattle.longer.specs.LongerLaws.{old-checks}
use Rattle.table.specs.BufferLaws.{place-fits}
use Rattle.table.specs.Codewords.{IsCodeword}
use Rattle.table.specs.PacketCall.{part_at}
use Rattle.table.specs.PacketLaws.{packet-at}
use Rattle.table.specs.Packets.{packets, packet_sum}
use Rattle.table.specs.SumLaws.{part-of-part}
use Rattle.table.specs.Table.{places, size, checks, refusal}
use Rattle.table.specs.TableLaws.{accepted}

first-sums : (n n' s : ℕ) (w : List ℕ) {cs : List (List ℕ)} → n ≤ n' → All (λ c. All (λ p. p < n) c) cs → All (λ c. packet_sum s (packets s n' w) c ≡ replicate s 0) cs
    → All (λ c. packet_sum s (packets s n (take (n * s) w)) c ≡ replicate s 0) cs
first-sums n n' s w le low zeros = all_map (λ c r. sum-agree s (packets s n (take (n * s) w)) (packets s n' w) (all_map (λ p h. same p h) r.0) ∙ r.1) (all-zip low zeros)
  where
    same : (p : ℕ) → p < n → get_or (packets s n (take (n * s) w)) p [] ≡ get_or (packets s n' w) p []
    same p h = packet-at s n (take (n * s) w) p h ∙ part-of-part (p * s) s (n * s) w (place-fits p n s h) ∙ sym (packet-at s n' w p (omega arith))

abbrev pub first_of : List ℕ → List ℕ → List ℕ
first_of old w = take (places old * size old) w

pub first_part : (old w : List ℕ) (p : ℕ) → p < places old → part_at (size old) p (first_of old w) ≡ part_at (size old) p w
first_part old w p h = part-of-part (p * size old) (size old) (places old * size old) w (place-fits p (places old) (size old) h)

pub first-codeword : (old new w : List ℕ) → refusal old ≡ 0 → Lengthens old new → IsCodeword new w → IsCodeword old (first_of old w)
first-codeword old new w ok l word = record {
  size_fits = length-take-le (places old * size old) w (fewer (size old) l.same_size);
  sums = subst (λ s. All (λ c. packet_sum s (packets s (places old) (take (places old * s) w)) c ≡ replicate s 0) (checks old)) (sym l.same_size)
      (first-sums (places old) (places new) (size new) w l.more-places (accepted old ok).low (old-checks old new l word.sums));
}
  where
    fewer : (s : ℕ) → s ≡ size new → places old * s ≤ length w
    fewer s e = let h = mul-le-mul_right s l.more-places in let k : length w ≡ places new * s = word.size_fits ∙ ap (λ x. places new * x) (sym e) in omega arith

-- packets that agree with a word agree with its first packets
pub first-agrees : (t b map w : List ℕ) → Agree t b map w → Agree t b map (first_of t w)
first-agrees t b map w right p h e = right p h e ∙ sym (first_part t w p h)

-- and so do all packets received so far, if those received at first and those that have arrived do
pub so-far-agrees : (old new : List ℕ) (first arrivals all : Held) (w : List ℕ) → size old ≡ size new → SoFar old new first arrivals all
    → Agree old first.block first.map w → Agree new arrivals.block arrivals.map w → Agree new all.block all.map w
so-far-agrees old new first arrivals all w same so_far right arrive p h e = ⊎_elim
    (λ r. (so_far.from_first p r.0 r.1).1 ∙ subst (λ s. part_at s p first.block ≡ part_at s p w) same (right p r.0 r.1))
    (λ r. (so_far.from-arrivals p h r).1 ∙ arrive p h r)
    (so_far.no_other p h e)
