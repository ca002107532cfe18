-- Laws of byte positions (`bytes_at`): how many bytes there are and which, that all positions decide the block, and the bytes of one as
-- packets of one byte.
use Rattle.std.specs.Prelude.{◌≡◌, refl, List, [], ◌∷◌, ◌++◌, map, ℕ, zero, suc, ◌+◌, ◌*◌, ◌<◌, length, get_or, take, drop}
use Rattle.std.proofs.Common.{sym, ap, ap₂, ◌∙◌, arith, drop-cons, ext_get_or}
use Rattle.std.proofs.lemmas.List.{length-map}
use Rattle.lists.specs.Buffers.{part_length, get_d_part}
use Rattle.lists.specs.ListLaws.{all_get_d, all_map, map-all, map_at}
use Rattle.lists.specs.Lists.{All.nil, All.cons}
use Rattle.table.specs.PacketCall.{part_at}
use Rattle.table.specs.PacketLaws.{packets-length, packets-sized, packets-of, packet-at, same-packets}
use Rattle.table.specs.Packets.{Packets, packets, joined, bytes_at}

-- one byte a packet
pub bytes-length : (s n j : ℕ) (b : List ℕ) → length (bytes_at s n j b) ≡ n
bytes-length s n j b = length-map (packets s n b) (λ p. get_or p j 0) ∙ packets-length s n b

-- byte j of place p
byte_of : (s n j : ℕ) (b : List ℕ) (p : ℕ) → p < n → get_or (bytes_at s n j b) p 0 ≡ get_or (part_at s p b) j 0
byte_of s n j b p h = map_at (λ q. get_or q j 0) (packets s n b) p [] 0 (let e = packets-length s n b in omega arith) ∙ ap (λ q. get_or q j 0) (packet-at s n b p h)

pub byte_at : (s n j : ℕ) (b : List ℕ) (p : ℕ) → p < n → j < s → get_or (bytes_at s n j b) p 0 ≡ get_or b (p * s + j) 0
byte_at s n j b p h l = byte_of s n j b p h ∙ get_d_part b (p * s) s j l

-- all positions decide the block
pub bytes-decide : (s n : ℕ) (b c : List ℕ) → length b ≡ n * s → length c ≡ n * s → ((j : ℕ) → j < s → bytes_at s n j b ≡ bytes_at s n j c) → b ≡ c
bytes-decide s n b c lb lc same = same-packets s n b c lb lc (λ p h. ext_get_or 0 (part_at s p b) (part_at s p c) (long b lb p h ∙ sym (long c lc p h)) (λ j l.
    let low : j < s = omega (arith, long b lb p h) in
    sym (byte_of s n j b p h) ∙ ap (λ x. get_or x p 0) (same j low) ∙ byte_of s n j c p h))
  where
    long : (d : List ℕ) → length d ≡ n * s → (p : ℕ) → p < n → length (part_at s p d) ≡ s
    long d l p h = ap length (sym (packet-at s n d p h)) ∙ all_get_d (packets-sized s n d l) p (let e = packets-length s n d in omega arith)

-- ---- the bytes of one position as packets of one byte
abbrev pub each_byte : ℕ → List (List ℕ) → List (List ℕ)
each_byte j ps = map (λ p. take 1 (drop j p)) ps

-- of the first n packets, and of the others
pub each_take : (j n : ℕ) (ps : List (List ℕ)) → each_byte j (take n ps) ≡ take n (each_byte j ps)
each_take j zero ps = refl
each_take j (suc n) [] = refl
each_take j (suc n) (p ∷ ps) = ap (λ l. take 1 (drop j p) ∷ l) (each_take j n ps)

pub each-drop : (j n : ℕ) (ps : List (List ℕ)) → each_byte j (drop n ps) ≡ drop n (each_byte j ps)
each-drop j zero ps = refl
each-drop j (suc n) [] = refl
each-drop j (suc n) (p ∷ ps) = each-drop j n ps

module _ (s j : ℕ) (h : j < s) where
  each-sized : {ps : List (List ℕ)} → Packets s ps → Packets 1 (each_byte j ps)
  each-sized a = map-all (λ p. take 1 (drop j p)) (all_map (λ p e. part_length p j 1 (omega arith)) a)

  joined-each : {ps : List (List ℕ)} → Packets s ps → joined (each_byte j ps) ≡ map (λ p. get_or p j 0) ps
  joined-each nil = refl
  joined-each (cons {x = p} e a) = ap₂ ◌++◌ (ap (take 1) (drop-cons p j 0 (omega arith))) (joined-each a)

  -- in a row they are byte position j of the packets in a row
  pub bytes-joined : (n : ℕ) {ps : List (List ℕ)} → length ps ≡ n → Packets s ps → bytes_at s n j (joined ps) ≡ joined (each_byte j ps)
  bytes-joined n l a = ap (map (λ p. get_or p j 0)) (packets-of s n l a) ∙ sym (joined-each a)

  -- and byte position j of a block, as packets of one byte, is byte j of each of its packets
  pub bytes-packets : (n : ℕ) (b : List ℕ) → length b ≡ n * s → packets 1 n (bytes_at s n j b) ≡ each_byte j (packets s n b)
  bytes-packets n b l =
      let a = packets-sized s n b l in
      ap (packets 1 n) (sym (joined-each a)) ∙ packets-of 1 n (length-map (packets s n b) (λ p. take 1 (drop j p)) ∙ packets-length s n b) (each-sized a)
