-- What the received packets decide (document 02, C-14, full repair): "by elimination over what is still lost. It restores a place exactly if
-- all codewords that agree with the received packets agree there." That this is so is DecidedLaws. Packets b, a map of a byte a place, checks cs.
use Rattle.std.specs.Prelude.{Bool, true, false, not, ◌||◌, ◌&&◌, List, [], ◌∷◌, map, ℕ, ◌^◌, get_or, replicate}
use Rattle.std.specs.Int.Bits.{bit_xor}
use Rattle.erasure.specs.Restoring.{is_lost, lost_places, zero_lost}
use Rattle.gf2.specs.Gf2.{xor_group, add, is_zero, row_of, is_sum, mask_for}
use Rattle.lists.specs.Lists.{same_list, from}
use Rattle.table.specs.Packets.{packet_sum}

-- the lost places of a check, as a row
abbrev pub lost_row : List ℕ → List ℕ → ℕ
lost_row lost c = row_of (lost_places lost c)

-- the sum of a check's received packets: old bytes at lost places never count
abbrev pub received_sum : ℕ → List (List ℕ) → List ℕ → List ℕ → List ℕ
received_sum s b lost c = packet_sum s (zero_lost s lost b) c

-- ---- a lost place
-- it is decided: some of the checks sum to this lost place alone
abbrev pub decided : List ℕ → List (List ℕ) → ℕ → Bool
decided lost cs p = is_sum xor_group is_zero (map (lost_row lost) cs) (2 ^ p)

-- the sum of the packets that a mask names
abbrev pub some_of : ℕ → List Bool → List (List ℕ) → List ℕ
some_of s m [] = replicate s 0
some_of s [] (x ∷ xs) = replicate s 0
some_of s (true ∷ m) (x ∷ xs) = add xor_group x (some_of s m xs)
some_of s (false ∷ m) (x ∷ xs) = some_of s m xs

-- the packet of a decided place: the received sums of the checks that sum to it, added
abbrev pub value : ℕ → List (List ℕ) → List (List ℕ) → List ℕ → ℕ → List ℕ
value s cs b lost p = some_of s (mask_for (map (lost_row lost) cs) (2 ^ p)) (map (received_sum s b lost) cs)

-- ---- "refusal 8 means that no codeword agrees with them"
-- some of the rows sum to r, and their packets not to x
abbrev pub clashes_at : {X : Type 0} → ℕ → (X → ℕ) → (X → List ℕ) → List X → ℕ → List ℕ → Bool
clashes_at s f g [] r x = is_zero r && not (same_list x (replicate s 0))
clashes_at s f g (c ∷ cs) r x = let with-c = clashes_at s f g cs (bit_xor (f c) r) (add xor_group (g c) x) in clashes_at s f g cs r x || with-c

-- some of the checks sum to no lost place, and their received packets not to zero
abbrev pub clashes : ℕ → List (List ℕ) → List (List ℕ) → List ℕ → Bool
clashes s cs b lost = clashes_at s (lost_row lost) (received_sum s b lost) cs 0 (replicate s 0)

-- ---- afterwards, where nothing clashes: it "marks and zeroes as the old one does"
-- a decided place has its packet, one that is still lost is zero, a received one as it was
abbrev pub packet_after : ℕ → List (List ℕ) → List (List ℕ) → List ℕ → ℕ → List ℕ
packet_after s cs b lost p =
    elim (is_lost lost p) [
      | true ↦
          elim (decided lost cs p) [ true ↦ value s cs b lost p | false ↦ replicate s 0 ]
      | false ↦ get_or b p []
    ]

-- a decided place is marked 2, one that is still lost 1, a received one as it was
abbrev pub mark_after : List (List ℕ) → List ℕ → ℕ → ℕ
mark_after cs lost p =
    elim (is_lost lost p) [
      | true ↦
          elim (decided lost cs p) [ true ↦ 2 | false ↦ 1 ]
      | false ↦ get_or lost p 0
    ]

-- the n packets
abbrev pub solved_block : ℕ → ℕ → List (List ℕ) → List (List ℕ) → List ℕ → List (List ℕ)
solved_block n s cs b lost = map (packet_after s cs b lost) (from 0 n)

-- and the map
abbrev pub solved_map : ℕ → List (List ℕ) → List ℕ → List ℕ
solved_map n cs lost = map (mark_after cs lost) (from 0 n)
