-- What the calls over the core are offered: a table, a block and the map of its places, of any length and content (document 01, "Repair and
-- the other calls"): 0 received, 1 lost. And what refusal 8 hands on.
use Rattle.std.specs.Prelude.{◌≡◌, Bool, true, false, ◌||◌, List, ℕ, ◌*◌, ◌<◌, eqb, ltb, length, get_or}
use Rattle.std.proofs.Math.Option.{Option, none}
use Rattle.faults.specs.Faults.{Fault}
use Rattle.lists.specs.Lists.{any_of}
use Rattle.table.specs.FirstCause.{wrong_length}
use Rattle.table.specs.PacketCall.{part_at}
use Rattle.table.specs.Table.{places, size, refusal}

-- a block and its map
pub record Held : Type 0 where
  pub block : List ℕ
  pub map : List ℕ

abbrev pub held : List ℕ → List ℕ → Held
held block map = record { block = block; map = map }

-- 5: block or map of wrong length
abbrev pub wrong_lengths : List ℕ → List ℕ → List ℕ → Bool
wrong_lengths t b map = wrong_length (length b) (places t * size t) || wrong_length (length map) (places t)

-- 7: "a map byte over 1"
abbrev pub byte_over : List ℕ → Bool
byte_over map = any_of (ltb 1) map

-- "verification and refusal 8 hand on the lowest failing check with that byte" (document 02, C-12); no other answer has one
abbrev pub handed_on : ℕ → Option Fault → Option Fault
handed_on r f = elim (eqb r 8) [ true ↦ f | false ↦ none ]

-- what none of 1 to 7 refuses
pub record Fitting (t b map : List ℕ) : Type 0 where
  pub table : refusal t ≡ 0
  pub block : length b ≡ places t * size t
  pub map-length : length map ≡ places t
  pub map-bytes : any_of (ltb 1) map ≡ false

-- the same packet in b and w wherever the map says received
abbrev pub Agree : List ℕ → List ℕ → List ℕ → List ℕ → Type 0
Agree t b map w = (p : ℕ) → p < places t → get_or map p 0 ≡ 0 → part_at (size t) p b ≡ part_at (size t) p w
