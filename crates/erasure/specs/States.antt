-- What the turns of restoring are, for the code: a state in a block and a map, all turns.
use Rattle.std.specs.Prelude.{◌≡◌, List, ℕ, ◌≤◌}
use Rattle.table.specs.Packets.{packets, joined}
use Rattle.erasure.specs.Restoring.{State, restoring}

-- a block of n·s bytes, its map and the additions so far
abbrev pub state_of : ℕ → ℕ → List ℕ → List ℕ → ℕ → State
state_of s n b lost adds = record { block = packets s n b; map = lost; adds = adds }

-- block and map hold a state
pub record Holds (st : State) (b lost : List ℕ) : Type 0 where
  pub block-is : b ≡ joined st.block
  pub map_is : lost ≡ st.map

-- all turns: from block b and map lost to block b' and map lost', with that many additions
pub record Restored (n s : ℕ) (cs : List (List ℕ)) (b lost b' lost' : List ℕ) (adds : ℕ) : Type 0 where
  pub holds : Holds (restoring n s cs (state_of s n b lost 0)) b' lost'
  pub adds-are : adds ≡ (restoring n s cs (state_of s n b lost 0)).adds
  pub few : adds ≤ 64512
