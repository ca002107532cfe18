-- A longer table in the middle of a pass (document 02, C-22): what is carried over, what was received so far, and block and map with room for
-- new places: the words in which the request's promise is stated.
use Rattle.std.specs.Prelude.{◌≡◌, false, List, ◌⊎◌, ℕ, ◌<◌, get_or}
use Rattle.erasure.specs.Offered.{Held, Fitting}
use Rattle.erasure.specs.Restoring.{outcome, is_lost}
use Rattle.table.specs.PacketCall.{part_at}
use Rattle.table.specs.Packets.{joined}
use Rattle.table.specs.Table.{places, size}

-- "the carried block and set of lost places are the old repair's under the old table", of what was received at first; what the block has at
-- lost places doesn't count, nor do new places
pub record Carried (old : List ℕ) (carried first : Held) : Type 0 where
  pub lost : (p : ℕ) → p < places old → is_lost carried.map p ≡ is_lost (outcome old first.block first.map).map p
  pub packet : (p : ℕ) → p < places old → is_lost carried.map p ≡ false
      → part_at (size old) p carried.block ≡ part_at (size old) p (joined (outcome old first.block first.map).block)

-- "all packets received so far": those received at first, under the old table, and those that have arrived since
pub record SoFar (old new : List ℕ) (first arrivals all : Held) : Type 0 where
  pub fits : Fitting new all.block all.map
  pub from_first : (p : ℕ) → p < places old → get_or first.map p 0 ≡ 0
      → (get_or all.map p 0 ≡ 0) × (part_at (size new) p all.block ≡ part_at (size new) p first.block)
  pub from-arrivals : (p : ℕ) → p < places new → get_or arrivals.map p 0 ≡ 0
      → (get_or all.map p 0 ≡ 0) × (part_at (size new) p all.block ≡ part_at (size new) p arrivals.block)
  pub no_other : (p : ℕ) → p < places new → get_or all.map p 0 ≡ 0 → ((p < places old) × (get_or first.map p 0 ≡ 0)) ⊎ (get_or arrivals.map p 0 ≡ 0)

-- block and map grown to a longer table: the same marks and packets at the old places
pub record Grown (old : List ℕ) (short long : Held) : Type 0 where
  pub marks : (p : ℕ) → p < places old → get_or long.map p 0 ≡ get_or short.map p 0
  pub packets : (p : ℕ) → p < places old → part_at (size old) p long.block ≡ part_at (size old) p short.block
