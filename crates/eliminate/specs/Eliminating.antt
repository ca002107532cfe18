-- What the parts of elimination over the lost places come to. owner names, for each place, the row of the work buffer that leads it; the sum that goes
-- with that row is the packet at the place.
use Rattle.std.specs.Prelude.{◌≡◌, Bool, true, false, not, cond, List, [], ◌∷◌, ◌++◌, map, ◌≢◌, ℕ, ◌+◌, ◌-◌, ◌*◌, ◌^◌, ◌<◌, ◌≤◌, eqb, length, get_or, set, replicate}
use Rattle.std.specs.Int.Bits.{bit_xor}
use Rattle.std.specs.declared.option.Option.{Option}
use Rattle.std.specs.declared.result.Result.{Result}
use Rattle.std.specs.declared.result.Result.TheVariants.{Ok, Err}
use Rattle.std.specs.Result.{is_err}
use Rattle.lists.specs.Lists.{filter, All}
use Rattle.gf2.specs.Gf2.{Bits, xor_group, is_zero, down, path}
use Rattle.gf2.specs.Pairs.{pair_group, pairs_of}
use Rattle.gf2.specs.Span.{Within}
use Rattle.table.specs.PacketLaws.{view}
use Rattle.table.specs.Packets.{packets, joined, packet_sum}
use Rattle.table.specs.Table.{checks}
use Rattle.erasure.specs.Restoring.{is_lost, lost_places}
use Rattle.bits.specs.Row.{row, above, RowPut}
use Rattle.rows.specs.Leads.{leads}
use Rattle.decided.specs.Decided.{lost_row, clashes, solved_block, solved_map}
use Rattle.decided.specs.Pairing.{byte_group, pair_of}
use Rattle.eliminate.specs.declared.Clash.{Clash}

-- ---- a check
-- the received places of a check
abbrev pub received_places : List ℕ → List ℕ → List ℕ
received_places lost c = filter (λ p. not (is_lost lost p)) c

-- the places whose packets make the sum of a check's reduced row: its received ones, and those that lead the rows added
abbrev pub summed_places : List ℕ → List ℕ → (ℕ → ℕ) → ℕ → List ℕ
summed_places lost c f n = received_places lost c ++ path f n (lost_row lost c)

-- that sum
abbrev pub row_sum : ℕ → ℕ → List ℕ → List ℕ → (ℕ → ℕ) → List ℕ → List ℕ
row_sum s n lost c f b = packet_sum s (packets s n b) (summed_places lost c f n)

-- one more than the highest place left of a check's row, 0 for none
abbrev pub lead_of : Result (Option ℕ) Clash → ℕ
lead_of (Ok lead) = above lead
lead_of (Err e) = 0

-- what is told of a check's sum, and what is left in the block
pub record Summed (s n : ℕ) (lost c : List ℕ) (f : ℕ → ℕ) (b : List ℕ) (r : Result (Option ℕ) Clash) (b' : List ℕ) : Type 0 where
  -- something is left of the row: its sum stands at its highest place
  pub stored : 0 < lead_of r → b' ≡ joined (set (packets s n b) (lead_of r - 1) (row_sum s n lost c f b))
  -- nothing is left
  pub kept : lead_of r ≡ 0 → b' ≡ b
  pub calm : is_err r ≡ false → lead_of r ≡ 0 → row_sum s n lost c f b ≡ replicate s 0
  pub clashed : is_err r ≡ true → (lead_of r ≡ 0) × (row_sum s n lost c f b ≢ replicate s 0)

-- ---- all checks
-- every check without a lost place sums to zero
pub record NoneLost (t : List ℕ) (n s : ℕ) (b lost : List ℕ) : Type 0 where
  pub zero : All (λ c. lost_places lost c ≡ [] → packet_sum s (packets s n b) c ≡ replicate s 0) (checks t)

-- lost places hold zero bytes
pub record ZeroLost (n s : ℕ) (b lost : List ℕ) : Type 0 where
  pub zero : (p : ℕ) → p < n → is_lost lost p ≡ true → get_or (packets s n b) p [] ≡ replicate s 0

-- rows are named by the places that they lead
pub record Led (w owner : List ℕ) (n : ℕ) : Type 0 where
  pub room : (p : ℕ) → get_or owner p 0 * 16 ≤ length w
  pub lead : (p : ℕ) → 0 < get_or owner p 0 → Bits (row w (get_or owner p 0 - 1)) (p + 1)
  pub places : n ≤ length owner
  pub few : n ≤ 1024

-- the sum of the row that leads place q, byte by byte; zero for none
abbrev pub sums_at : ℕ → ℕ → List ℕ → List ℕ → ℕ → ℕ → ℕ
sums_at s n owner b q j = cond (eqb (get_or owner q 0) 0) 0 (view (packets s n b) j q)

-- the rows that lead places, each with its sum
abbrev pub led_pairs : ℕ → ℕ → List ℕ → List ℕ → List ℕ → List (ℕ × (ℕ → ℕ))
led_pairs s n w owner b = pairs_of byte_group (leads w owner) (sums_at s n owner b) n

-- elimination from block b to block b' with rows w: the rows with their sums have the same sums as the checks with theirs
pub record Eliminated (t : List ℕ) (n s : ℕ) (b lost : List ℕ) (r : Bool) (w owner b' : List ℕ) : Type 0 where
  pub bytes : length b' ≡ n * s
  pub led : Led w owner n
  pub lost-led : (p : ℕ) → 0 < get_or owner p 0 → is_lost lost p ≡ true
  pub kept : (p : ℕ) → p < n → get_or owner p 0 ≡ 0 → get_or (packets s n b') p [] ≡ get_or (packets s n b) p []
  pub within : Within (pair_group xor_group byte_group) (map (pair_of s (packets s n b) lost) (checks t)) (led_pairs s n w owner b')
  pub whole : r ≡ true → Within (pair_group xor_group byte_group) (led_pairs s n w owner b') (map (pair_of s (packets s n b) lost) (checks t))
  pub clash : r ≡ false → clashes s (checks t) (packets s n b) lost ≡ true

-- ---- places
-- the row that leads p, without p
abbrev pub without : (ℕ → ℕ) → ℕ → ℕ
without f p = bit_xor (f p) (2 ^ p)

-- it is a sum of rows that lead lower places
abbrev pub vanishes : (ℕ → ℕ) → ℕ → Bool
vanishes f p = is_zero (down f p (without f p))

-- then the packet at p gains those at the places of the path; else it is zero
abbrev pub settled_packet : ℕ → List (List ℕ) → (ℕ → ℕ) → ℕ → List ℕ
settled_packet s ps f p = elim (vanishes f p) [ true ↦ packet_sum s ps (p ∷ path f p (without f p)) | false ↦ replicate s 0 ]

-- and p is marked
abbrev pub settled_map : (ℕ → ℕ) → ℕ → List ℕ → List ℕ
settled_map f p lost = elim (vanishes f p) [ true ↦ set lost p 2 | false ↦ lost ]

-- one place settled
pub record Settled (s n p : ℕ) (w owner b lost w' owner' b' lost' : List ℕ) : Type 0 where
  pub owner-is : owner' ≡ set owner p 0
  pub row_is : RowPut w (get_or owner p 0 - 1) (down (leads w owner) p (without (leads w owner) p)) w'
  pub block-is : b' ≡ joined (set (packets s n b) p (settled_packet s (packets s n b) (leads w owner) p))
  pub map_is : lost' ≡ settled_map (leads w owner) p lost

-- every place settled that a row leads, the others as they were
pub record SettledAll (s n : ℕ) (w owner b lost b' lost' : List ℕ) : Type 0 where
  pub bytes : length b' ≡ n * s
  pub marks : length lost' ≡ n
  pub free-packet : (p : ℕ) → p < n → get_or owner p 0 ≡ 0 → get_or (packets s n b') p [] ≡ get_or (packets s n b) p []
  pub free-mark : (p : ℕ) → p < n → get_or owner p 0 ≡ 0 → get_or lost' p 0 ≡ get_or lost p 0
  pub led-packet : (p : ℕ) → p < n → 0 < get_or owner p 0 → get_or (packets s n b') p [] ≡ settled_packet s (packets s n b) (leads w owner) p
  pub led-mark : (p : ℕ) → p < n → 0 < get_or owner p 0 → get_or lost' p 0 ≡ cond (vanishes (leads w owner) p) 2 (get_or lost p 0)

-- ---- the whole
-- what is told, and what is left in block and map
pub record Solves (t : List ℕ) (n s : ℕ) (b lost : List ℕ) (r : Bool) (b' lost' : List ℕ) : Type 0 where
  pub agrees : r ≡ not (clashes s (checks t) (packets s n b) lost)
  pub block-is : r ≡ true → b' ≡ joined (solved_block n s (checks t) (packets s n b) lost)
  pub map_is : r ≡ true → lost' ≡ solved_map n (checks t) lost
  pub bytes : length b' ≡ n * s
  pub map-kept : r ≡ false → lost' ≡ lost
  pub received : (p : ℕ) → p < n → is_lost lost p ≡ false → get_or (packets s n b') p [] ≡ get_or (packets s n b) p []
