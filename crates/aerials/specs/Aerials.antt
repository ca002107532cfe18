-- Two aerials, one block (document 02, C-19): what a place comes to by two listeners' marks and packets, and the block and map that are
-- merged from theirs. "Larger ships have a second receiver, each with its own block and map of 0 and 1": 0 is heard.
use Rattle.std.specs.Prelude.{true, false, List, map as each, ℕ, eqb, get_or, replicate}
use Rattle.erasure.specs.Offered.{Held}
use Rattle.lists.specs.Lists.{same_list, from}
use Rattle.table.specs.PacketCall.{part_at}
use Rattle.table.specs.Packets.{joined}

-- "A place is agreed, heard by one, heard by none, or in clash"; the first two have the packet that was heard
pub data Heard : Type 0 where
  agreed : List ℕ → Heard
  single : List ℕ → Heard
  silent : Heard
  clash : Heard

-- by the two marks a and b, and the two packets x and y
abbrev pub heard : ℕ → ℕ → List ℕ → List ℕ → Heard
heard a b x y = elim (eqb a 0) [
  | true ↦ elim (eqb b 0) [ true ↦ elim (same_list x y) [ true ↦ agreed x | false ↦ clash ] | false ↦ single x ]
  | false ↦ elim (eqb b 0) [ true ↦ single y | false ↦ silent ]
]

-- "Agreed and single packets go into a third block"; "lost places of the third block are zero", of s bytes
abbrev pub packet_of : ℕ → Heard → List ℕ
packet_of s (agreed x) = x
packet_of s (single x) = x
packet_of s silent = replicate s 0
packet_of s clash = replicate s 0

-- "clash and silence count as lost"
abbrev pub mark_of : Heard → ℕ
mark_of (agreed x) = 0
mark_of (single x) = 0
mark_of silent = 1
mark_of clash = 1

-- the four kinds as numbers, by which they are counted
abbrev pub kind_of : Heard → ℕ
kind_of (agreed x) = 0
kind_of (single x) = 1
kind_of silent = 2
kind_of clash = 3

-- ---- two listeners, and n places of s bytes
module _ (s : ℕ) (one two : Held) where
  -- what place p comes to
  abbrev pub heard_at : ℕ → Heard
  heard_at p = heard (get_or one.map p 0) (get_or two.map p 0) (part_at s p one.block) (part_at s p two.block)

  -- the kinds of all places
  abbrev pub kinds : ℕ → List ℕ
  kinds n = each (λ p. kind_of (heard_at p)) (from 0 n)

  -- the merged block and map
  abbrev pub merged : ℕ → Held
  merged n = record { block = joined (each (λ p. packet_of s (heard_at p)) (from 0 n)); map = each (λ p. mark_of (heard_at p)) (from 0 n) }
