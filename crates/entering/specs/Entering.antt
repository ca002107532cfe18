-- A longer table in the middle of a pass (document 02, C-22): "Carry block and map over: new places start as lost, new arrivals are entered
-- as 0". A map has a byte a place: 0 received, 1 lost, 2 restored.
use Rattle.std.specs.Prelude.{true, false, List, map as each, ℕ, eqb, ltb, get_or, replicate}
use Rattle.erasure.specs.Offered.{Held}
use Rattle.lists.specs.Lists.{from}
use Rattle.table.specs.PacketCall.{part_at}
use Rattle.table.specs.Packets.{joined}

-- a place is known, with the mark and packet that were carried; arrived, with its packet; or missing
pub data Entry : Type 0 where
  known : ℕ → List ℕ → Entry
  arrived : List ℕ → Entry
  missing : Entry

-- by the carried mark a and the arrivals' mark b, and the two packets x and y: an arrival is entered where the place is lost, and "An
-- arrival at a known place is ignored"
abbrev pub entry : ℕ → ℕ → List ℕ → List ℕ → Entry
entry a b x y = elim (eqb a 1) [ true ↦ elim (eqb b 0) [ true ↦ arrived y | false ↦ missing ] | false ↦ known a x ]

-- "so its mark 0 or 2 stays"; "new arrivals are entered as 0"
abbrev pub mark_of : Entry → ℕ
mark_of (known a x) = a
mark_of (arrived y) = 0
mark_of missing = 1

-- lost places are zero, of s bytes
abbrev pub packet_of : ℕ → Entry → List ℕ
packet_of s (known a x) = x
packet_of s (arrived y) = y
packet_of s missing = replicate s 0

-- "new places start as lost": those from n on
abbrev pub carried_mark : ℕ → List ℕ → ℕ → ℕ
carried_mark n map p = elim (ltb p n) [ true ↦ get_or map p 0 | false ↦ 1 ]

-- ---- n old places, packets of s bytes, what is carried and what arrives
module _ (s n : ℕ) (carried arrivals : Held) where
  -- what place p comes to
  abbrev pub entry_at : ℕ → Entry
  entry_at p = entry (carried_mark n carried.map p) (get_or arrivals.map p 0) (part_at s p carried.block) (part_at s p arrivals.block)

  -- block and map of k places as entered
  abbrev pub entered : ℕ → Held
  entered k = record { block = joined (each (λ p. packet_of s (entry_at p)) (from 0 k)); map = each (λ p. mark_of (entry_at p)) (from 0 k) }
