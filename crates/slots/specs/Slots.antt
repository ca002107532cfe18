-- Slots as bytes: the first n slots in a row are the block, the others the scratch.
use Rattle.std.specs.Prelude.{◌≡◌, Bool, cond, List, [], ◌++◌, ℕ, ◌+◌, ◌*◌, ◌-◌, ◌<◌, ◌≤◌, length, get_or, set, take, drop, replicate}
use Rattle.gf2.specs.Gf2.{xor_group, add}
use Rattle.table.specs.Packets.{Packets, joined, packet_sum}
use Rattle.lists.specs.Lists.{written}

-- block and scratch hold the slots st, of s bytes each
pub record Holds (n s : ℕ) (st : List (List ℕ)) (block scratch : List ℕ) : Type 0 where
  pub sized : Packets s st
  pub block-is : block ≡ joined (take n st)
  pub scratch-is : scratch ≡ joined (drop n st)

-- slot p lies within a block of b bytes or a scratch of c bytes
pub record SlotIn (n s b c p : ℕ) : Type 0 where
  pub below : p < n → p * s + s ≤ b
  pub above : n ≤ p → (p - n) * s + s ≤ c

-- the slots fs do
pub record SlotsIn (n s b c : ℕ) (fs : List ℕ) : Type 0 where
  pub each : (i : ℕ) → i < length fs → SlotIn n s b c (get_or fs i 0)

-- they are among k
pub record Among (k : ℕ) (fs : List ℕ) : Type 0 where
  pub each : (i : ℕ) → i < length fs → get_or fs i 0 < k

-- ---- parts of slots
-- a with the bytes of v from off on added
abbrev pub plus_part : List ℕ → ℕ → List ℕ → List ℕ
plus_part a off v = add xor_group a (take (length a) (drop off v))

-- the bytes of slot f from off on are added to a
pub record PartAdded (n s f off : ℕ) (b c a a' : List ℕ) : Type 0 where
  pub sum : (st : List (List ℕ)) → Holds n s st b c → f < length st → a' ≡ plus_part a off (get_or st f [])

-- those of the sum of the slots fs
pub record PartsAdded (n s : ℕ) (fs : List ℕ) (off : ℕ) (b c a a' : List ℕ) : Type 0 where
  pub sum : (st : List (List ℕ)) → Holds n s st b c → Among (length st) fs → a' ≡ plus_part a off (packet_sum s st fs)

-- x is written into slot to from off on
pub record PartPut (n s to off : ℕ) (x b c b' c' : List ℕ) : Type 0 where
  pub slots : (st : List (List ℕ)) → Holds n s st b c → to < length st → Holds n s (set st to (written (get_or st to []) off x)) b' c'

-- ---- a run: a clear of slot to, or none, and then add steps from the slots fs into it
-- what it starts from: zero after a clear
abbrev pub base_of : Bool → ℕ → List ℕ → List ℕ
base_of fresh s v = cond fresh (replicate s 0) v

-- what it gives
abbrev pub run_sum : Bool → ℕ → List (List ℕ) → ℕ → List ℕ → List ℕ
run_sum fresh s st to fs = add xor_group (base_of fresh s (get_or st to [])) (packet_sum s st fs)

-- the bytes that it starts from are added to a
pub record BaseAdded (n s : ℕ) (fresh : Bool) (to off : ℕ) (b c a a' : List ℕ) : Type 0 where
  pub sum : (st : List (List ℕ)) → Holds n s st b c → to < length st → a' ≡ plus_part a off (base_of fresh s (get_or st to []))

-- its slots are among k, and none is added into itself
pub record RunAmong (k to : ℕ) (fs : List ℕ) : Type 0 where
  pub target : to < k
  pub sources : Among k fs
  pub apart : (i : ℕ) → i < length fs → get_or fs i 0 ≡ to → ⊥

-- they lie within block and scratch
pub record RunIn (n s b c to : ℕ) (fs : List ℕ) : Type 0 where
  pub target : SlotIn n s b c to
  pub sources : SlotsIn n s b c fs

-- the slots when the first i bytes of slot to are what it gives
abbrev pub gathered : Bool → ℕ → List (List ℕ) → ℕ → List ℕ → ℕ → List (List ℕ)
gathered fresh s st to fs i = set st to (take i (run_sum fresh s st to fs) ++ drop i (get_or st to []))

-- bytes i to j − 1 of slot to become what it gives
pub record Gathers (n s : ℕ) (fresh : Bool) (to : ℕ) (fs : List ℕ) (i j : ℕ) (b c b' c' : List ℕ) : Type 0 where
  pub slots : (st : List (List ℕ)) → Packets s st → RunAmong (length st) to fs → Holds n s (gathered fresh s st to fs i) b c
      → Holds n s (gathered fresh s st to fs j) b' c'
