-- What is told where none of 1 to 7 refuses, and what is left in block and map.
use Rattle.std.specs.Prelude.{◌≡◌, Bool, true, false, not, List, [], ℕ, ◌<◌, get_or}
use Rattle.decided.specs.Decided.{solved_block, solved_map}
use Rattle.erasure.specs.Restoring.{is_lost}
use Rattle.full.specs.Full.{clashing}
use Rattle.table.specs.Packets.{packets, joined}
use Rattle.table.specs.Table.{places, size, checks}

pub record Decides (t b map : List ℕ) (r : Bool) (b' map' : List ℕ) : Type 0 where
  -- whether some codeword agrees with the received packets
  pub agrees : r ≡ not (clashing t b map)
  -- if one does, what is decided is there
  pub block-is : r ≡ true → b' ≡ joined (solved_block (places t) (size t) (checks t) (packets (size t) (places t) b) map)
  pub map_is : r ≡ true → map' ≡ solved_map (places t) (checks t) map
  -- in any case received packets are untouched
  pub received : (p : ℕ) → p < places t → is_lost map p ≡ false → get_or (packets (size t) (places t) b') p [] ≡ get_or (packets (size t) (places t) b) p []
