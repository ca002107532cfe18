-- The packet call (document 01, "Repair and the other calls"): "hands back the part of the lent block that holds one place's
-- packet"; refusals 2, 5 and 10, in that order, each with the empty part.
use Rattle.std.specs.Prelude.{Bool, cond, ◌||◌, List, [], ◌∷◌, ℕ, ◌*◌, eqb, leb, length, take, drop}
use Rattle.table.specs.FirstCause.{first_cause, wrong_length}
use Rattle.table.specs.Table.{most_places, most_bytes, outside}

-- 2: "n, s .. beyond its limits"
abbrev pub packet_beyond : ℕ → ℕ → Bool
packet_beyond n s = outside most_places n || outside most_bytes s

-- 10: "place of the packet call not below n"
abbrev pub not_below : ℕ → ℕ → Bool
not_below n place = leb n place

-- the causes in their order, for a block of len bytes; 5: it isn't n·s bytes
abbrev pub packet_causes : ℕ → ℕ → ℕ → ℕ → List (Bool × ℕ)
packet_causes n s place len = (packet_beyond n s, 2) ∷ (wrong_length len (n * s), 5) ∷ (not_below n place, 10) ∷ []

abbrev pub packet_refusal : ℕ → ℕ → ℕ → ℕ → ℕ
packet_refusal n s place len = first_cause (packet_causes n s place len)

-- the s bytes at place times s
abbrev pub part_at : ℕ → ℕ → List ℕ → List ℕ
part_at s place b = take s (drop (place * s) b)

-- the part that is handed back
abbrev pub packet_part : ℕ → ℕ → ℕ → List ℕ → List ℕ
packet_part n s place b = cond (eqb (packet_refusal n s place (length b)) 0) (part_at s place b) []

-- where it lies in the block: start and length, 0 and 0 on refusal
abbrev pub part_start : ℕ → ℕ → ℕ → ℕ → ℕ
part_start n s place len = cond (eqb (packet_refusal n s place len) 0) (place * s) 0

abbrev pub part_len : ℕ → ℕ → ℕ → ℕ → ℕ
part_len n s place len = cond (eqb (packet_refusal n s place len) 0) s 0
