-- Restoring (document 01, "Repair and the other calls"). A block is its n packets; the lost map has a byte a place: 1 is lost, any
-- other byte is known; a restored place is marked 2.
use Rattle.std.specs.Prelude.{Bool, true, false, cond, List, [], ◌∷◌, ℕ, zero, suc, ◌+◌, ◌-◌, ◌<◌, eqb, length, get_or, set, replicate, ◌≢◌, ◌≡◌}
use Rattle.std.proofs.Math.Option.{Option, none, some}
use Rattle.faults.specs.Faults.{Fault, failing, no_fault}
use Rattle.lists.specs.Lists.{filter, minus, All}
use Rattle.table.specs.PacketCall.{part_at}
use Rattle.table.specs.Packets.{packets, joined, packet_sum}
use Rattle.table.specs.Table.{places, size, checks}

-- the packets, the map, and the additions made so far
pub record State : Type 0 where
  pub block : List (List ℕ)
  pub map : List ℕ
  pub adds : ℕ

-- place p is lost
abbrev pub is_lost : List ℕ → ℕ → Bool
is_lost map p = eqb (get_or map p 0) 1

-- the lost places of a check
abbrev pub lost_places : List ℕ → List ℕ → List ℕ
lost_places map c = filter (is_lost map) c

-- the lowest check with exactly one lost place
abbrev pub ready : List ℕ → List (List ℕ) → Option (List ℕ)
ready map [] = none
ready map (c ∷ cs) = elim (eqb (length (lost_places map c)) 1) [ true ↦ some c | false ↦ ready map cs ]

-- check c restores its one lost place, as the sum of its others; the additions are "weight − 1 for each check used"
abbrev pub turn : ℕ → List ℕ → State → State
turn s c m =
    let p = get_or (lost_places m.map c) 0 0 in
    record { block = set m.block p (packet_sum s m.block (minus c (p ∷ []))); map = set m.map p 2; adds = m.adds + (length c - 1) }

-- "While some check has exactly one lost place, the lowest such check restores it". The first argument bounds the number of turns.
abbrev pub restoring : ℕ → ℕ → List (List ℕ) → State → State
restoring zero s cs m = m
restoring (suc k) s cs m = elim (ready m.map cs) [ none ↦ m | some c ↦ restoring k s cs (turn s c m) ]

-- "Old bytes at lost places never count": zero at every lost place
abbrev pub zero_lost : ℕ → List ℕ → List (List ℕ) → List (List ℕ)
zero_lost s [] b = b
zero_lost s (l ∷ ls) [] = []
zero_lost s (l ∷ ls) (p ∷ b) = cond (eqb l 1) (replicate s 0) p ∷ zero_lost s ls b

-- the state before the first turn
abbrev pub start : ℕ → List (List ℕ) → List ℕ → State
start s b map = record { block = zero_lost s map b; map = map; adds = 0 }

-- each turn restores one of the n places, so n turns are all
abbrev pub repaired : ℕ → ℕ → List (List ℕ) → List (List ℕ) → List ℕ → State
repaired n s cs b map = restoring n s cs (start s b map)

-- a check without a lost place
abbrev pub none_lost : List ℕ → List ℕ → Bool
none_lost map c = eqb (length (lost_places map c)) 0

-- "the lowest that fails after restoring, among those then without a lost place", and its byte (document 02, C-12)
abbrev pub contradiction : ℕ → List (List ℕ) → State → Option Fault
contradiction s cs m = failing (none_lost m.map) s m.block 0 cs

-- "Afterwards every check without a lost place must sum to zero": none fails
abbrev pub consistent : ℕ → List (List ℕ) → State → Bool
consistent s cs m = no_fault (contradiction s cs m)

-- how many map bytes are v
abbrev pub tally : ℕ → List ℕ → ℕ
tally v l = length (filter (eqb v) l)

-- ---- the core: table t, block b and map of fitting lengths, whatever their bytes
-- what restoring comes to
abbrev pub outcome : List ℕ → List ℕ → List ℕ → State
outcome t b map = repaired (places t) (size t) (checks t) (packets (size t) (places t) b) map

-- what contradicts, if something does
abbrev pub contradicting : List ℕ → List ℕ → List ℕ → Option Fault
contradicting t b map = contradiction (size t) (checks t) (outcome t b map)

-- nothing contradicts
abbrev pub agreeing : List ℕ → List ℕ → List ℕ → Bool
agreeing t b map = no_fault (contradicting t b map)

-- the same packet in b and w at every place that isn't lost
abbrev pub AgreeThere : List ℕ → List ℕ → List ℕ → List ℕ → Type 0
AgreeThere t b map w = (p : ℕ) → p < places t → is_lost map p ≡ false → part_at (size t) p b ≡ part_at (size t) p w

-- what is told: restored is lost before less lost after; where received packets contradict, counts 0, and the check that fails with its byte
pub record Counts : Type 0 where
  pub agrees : Bool
  pub restored : ℕ
  pub lost : ℕ
  pub additions : ℕ
  pub check : ℕ
  pub byte : ℕ

abbrev pub counts_if : Option Fault → List ℕ → State → Counts
counts_if none map m = record { agrees = true; restored = tally 1 map - tally 1 m.map; lost = tally 1 m.map; additions = m.adds; check = 0; byte = 0 }
counts_if (some f) map m = record { agrees = false; restored = 0; lost = 0; additions = 0; check = f.check; byte = f.byte }

-- the block afterwards: the outcome's; on contradiction lost places are zero
abbrev pub block_if : Bool → List ℕ → List ℕ → List ℕ → List ℕ
block_if true t b map = joined (outcome t b map).block
block_if false t b map = joined (zero_lost (size t) map (packets (size t) (places t) b))

-- the map afterwards: restored places are marked 2; on contradiction as it was
abbrev pub map_if : Bool → List ℕ → List ℕ → List ℕ → List ℕ
map_if true t b map = (outcome t b map).map
map_if false t b map = map

-- ---- what cannot be restored
-- a stopping set: every check meets it in none of its places or in at least two
abbrev pub Stopping : List (List ℕ) → (ℕ → Bool) → Type 0
Stopping cs S = All (λ c. length (filter S c) ≢ 1) cs

-- a stopping set among the lost places of the map
pub record AmongLost (t map : List ℕ) (S : ℕ → Bool) : Type 0 where
  pub stopping : Stopping (checks t) S
  pub lost : (p : ℕ) → S p ≡ true → is_lost map p ≡ true

-- L is the largest of them: every other lies within it
pub record Largest (t map : List ℕ) (L : ℕ → Bool) : Type 0 where
  pub among : AmongLost t map L
  pub holds : (S : ℕ → Bool) → AmongLost t map S → (p : ℕ) → S p ≡ true → L p ≡ true
