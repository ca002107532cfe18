-- What is decided, over blocks of bytes: for every table that is accepted, every block and every pattern of loss.
use Rattle.std.specs.Prelude.{◌≡◌, true, false, List, ℕ, zero, suc, ◌*◌, ◌<◌, length, replicate}
use Rattle.std.proofs.Common.{sym, ap, ◌∙◌, subst}
use Rattle.decided.specs.AfterLaws.{solved-at}
use Rattle.decided.proofs.AfterWords.{solved-sized, word_after, sums-after}
use Rattle.decided.specs.Decided.{decided, value, clashes, packet_after, solved_block, solved_map}
use Rattle.decided.proofs.DecidedBytes.{bytes-exist, bytes-exact}
use Rattle.decided.proofs.DecidedLaws.{clash-no-word, decided-value}
use Rattle.decided.specs.Packed.{list_of-length}
use Rattle.decided.proofs.PeeledLaws.{given, given-block}
use Rattle.decided.specs.Words.{Word}
use Rattle.erasure.proofs.OutcomeLaws.{part-joined, tally-lost}
use Rattle.erasure.specs.Restoring.{is_lost, lost_places, tally, AgreeThere}
use Rattle.erasure.specs.LostLaws.{none-lost}
use Rattle.lists.specs.ListLaws.{all_append, all_take, all_drop, all_map}
use Rattle.lists.specs.Lists.{All, All.nil, All.cons}
use Rattle.table.specs.Codewords.{IsCodeword}
use Rattle.table.specs.PacketCall.{part_at}
use Rattle.table.specs.PacketLaws.{packets-length, packets-sized, packets-of, joined_length, packet-at}
use Rattle.table.specs.Packets.{Packets, packets, joined, packet_sum}
use Rattle.table.specs.Table.{places, size, checks, refusal}
use Rattle.table.specs.TableLaws.{accepted}

-- ---- bytes of a block and of its packets
packets-all : {P : ℕ → Type 0} (s n : ℕ) {b : List ℕ} → All P b → All (λ x. All P x) (packets s n b)
packets-all s zero a = nil
packets-all s (suc n) a = cons (all_take s a) (packets-all s n (all_drop s a))

joined-all : {P : ℕ → Type 0} {ps : List (List ℕ)} → All (λ x. All P x) ps → All P (joined ps)
joined-all nil = nil
joined-all (cons h a) = all_append h (joined-all a)

module _ (t b map : List ℕ) (ok : refusal t ≡ 0) (fits : length b ≡ places t * size t) where
  -- ---- a codeword as bytes, and as packets
  to_word : (w : List ℕ) → IsCodeword t w → AgreeThere t b map w → Word (places t) (size t) (checks t) (given t b map ok fits) map (packets (size t) (places t) w)
  to_word w c a = record {
    long = packets-length (size t) (places t) w;
    sized = packets-sized (size t) (places t) w c.size_fits;
    zeros = c.sums;
    agree = λ p h e. packet-at (size t) (places t) w p h ∙ sym (a p h e) ∙ sym (packet-at (size t) (places t) b p h);
  }

  of_word : (w : List (List ℕ)) → Word (places t) (size t) (checks t) (given t b map ok fits) map w → IsCodeword t (joined w) × AgreeThere t b map (joined w)
  of_word w d = (
    record {
      size_fits = joined_length (size t) d.sized ∙ ap (λ k. k * size t) d.long;
      sums = subst (λ ps. All (λ c. packet_sum (size t) ps c ≡ replicate (size t) 0) (checks t)) (sym (packets-of (size t) (places t) d.long d.sized)) d.zeros;
    },
    λ p h e. sym (part-joined (size t) (places t) w d.long d.sized p h ∙ d.agree p h e ∙ packet-at (size t) (places t) b p h),
  )

  -- something clashes: "no codeword agrees"
  pub none-agrees : clashes (size t) (checks t) (given t b map ok fits) map ≡ true → (w : List ℕ) → IsCodeword t w → AgreeThere t b map w → ⊥
  none-agrees h w c a = clash-no-word (places t) (size t) (checks t) (given t b map ok fits) (given-block t b map ok fits) map h (packets (size t) (places t) w) (to_word w c a)

  -- nothing clashes: one of bytes does
  pub one-agrees : clashes (size t) (checks t) (given t b map ok fits) map ≡ false → All (λ x. x < 256) b → (w : List ℕ) × (IsCodeword t w × (AgreeThere t b map w × All (λ x. x < 256) w))
  one-agrees h bytes =
      let e = bytes-exist (places t) (size t) (checks t) (given t b map ok fits) (given-block t b map ok fits) (packets-all (size t) (places t) bytes) map h in
      let d = of_word e.0 e.1.0 in
      (joined e.0, (d.0, (d.1, joined-all e.1.1)))

  -- a decided place: all of them have its packet
  pub all_have : (p : ℕ) → p < places t → decided map (checks t) p ≡ true → (w : List ℕ) → IsCodeword t w → AgreeThere t b map w → part_at (size t) p w ≡ value (size t) (checks t) (given t b map ok fits) map p
  all_have p h d w c a = sym (packet-at (size t) (places t) w p h)
      ∙ decided-value (places t) (size t) (checks t) (given t b map ok fits) (given-block t b map ok fits) map p h d (packets (size t) (places t) w) (to_word w c a)

  -- a lost place where all codewords of bytes "agree there" is decided
  pub decided-exactly : clashes (size t) (checks t) (given t b map ok fits) map ≡ false → All (λ x. x < 256) b → (p : ℕ) → p < places t → is_lost map p ≡ true
      → ((u w : List ℕ) → IsCodeword t u → AgreeThere t b map u → All (λ x. x < 256) u → IsCodeword t w → AgreeThere t b map w → All (λ x. x < 256) w → part_at (size t) p u ≡ part_at (size t) p w)
      → decided map (checks t) p ≡ true
  decided-exactly h bytes p l e one =
      bytes-exact (places t) (size t) (checks t) (given t b map ok fits) (given-block t b map ok fits) (packets-all (size t) (places t) bytes) map h (accepted t ok).some_bytes p l e (λ u w x i y j.
      let c = of_word u x in let d = of_word w y in
      sym (part-joined (size t) (places t) u x.long x.sized p l)
      ∙ one (joined u) (joined w) c.0 c.1 (joined-all i) d.0 d.1 (joined-all j)
      ∙ part-joined (size t) (places t) w y.long y.sized p l)

  -- ---- afterwards
  -- the block that is left
  abbrev pub after : List ℕ
  after = joined (solved_block (places t) (size t) (checks t) (given t b map ok fits) map)

  after-sized : Packets (size t) (solved_block (places t) (size t) (checks t) (given t b map ok fits) map)
  after-sized = solved-sized (places t) (size t) (checks t) (given t b map ok fits) (given-block t b map ok fits) map

  -- its packet at a place
  pub after-part : (p : ℕ) → p < places t → part_at (size t) p after ≡ packet_after (size t) (checks t) (given t b map ok fits) map p
  after-part p h = part-joined (size t) (places t) _ (list_of-length (places t) (packet_after (size t) (checks t) (given t b map ok fits) map)) after-sized p h
      ∙ solved-at (places t) (size t) (checks t) (given t b map ok fits) map p h

  -- every place that isn't lost then has the packet of each codeword that agrees
  pub after-right : (w : List ℕ) → IsCodeword t w → AgreeThere t b map w → (p : ℕ) → p < places t → is_lost (solved_map (places t) (checks t) map) p ≡ false → part_at (size t) p after ≡ part_at (size t) p w
  after-right w c a p h e = part-joined (size t) (places t) _ (list_of-length (places t) (packet_after (size t) (checks t) (given t b map ok fits) map)) after-sized p h
      ∙ word_after (places t) (size t) (checks t) (given t b map ok fits) (given-block t b map ok fits) map (packets (size t) (places t) w) (to_word w c a) p h e
      ∙ packet-at (size t) (places t) w p h

  -- every check without a lost place sums to zero
  pub after-sums : clashes (size t) (checks t) (given t b map ok fits) map ≡ false
      → All (λ c. length (lost_places (solved_map (places t) (checks t) map) c) ≡ 0 → packet_sum (size t) (packets (size t) (places t) after) c ≡ replicate (size t) 0) (checks t)
  after-sums calm = let l = list_of-length (places t) (packet_after (size t) (checks t) (given t b map ok fits) map) in
      subst (λ ps. All (λ c. length (lost_places (solved_map (places t) (checks t) map) c) ≡ 0 → packet_sum (size t) ps c ≡ replicate (size t) 0) (checks t))
      (sym (packets-of (size t) (places t) l after-sized))
      (sums-after (places t) (size t) (checks t) (given t b map ok fits) (given-block t b map ok fits) map calm)

  -- where nothing stays lost, it is a codeword
  pub after-whole : clashes (size t) (checks t) (given t b map ok fits) map ≡ false → tally 1 (solved_map (places t) (checks t) map) ≡ 0 → IsCodeword t after
  after-whole calm z = let l = list_of-length (places t) (packet_after (size t) (checks t) (given t b map ok fits) map) in record {
    size_fits = joined_length (size t) after-sized ∙ ap (λ k. k * size t) l;
    sums = all_map (λ c k. k (none-lost (solved_map (places t) (checks t) map) c (sym (tally-lost (solved_map (places t) (checks t) map)) ∙ z))) (after-sums calm);
  }
