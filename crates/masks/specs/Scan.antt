-- Fitted places and inverse at once: masks over the g set-aside checks, the first `free` of them free, each other one tied to a place.
use Rattle.std.specs.Prelude.{◌≡◌, true, false, cond, List, ◌++◌, map, ℕ, ◌^◌, ◌<◌, ◌≤◌, eqb, length, get_or}
use Rattle.std.specs.Int.Bits.{bit_xor}
use Rattle.std.proofs.Math.Seq.{slice}
use Rattle.gf2.specs.Gf2.{xor_group, is_zero, choose}
use Rattle.lists.specs.Lists.{below, rev}
use Rattle.masks.specs.Dot.{dot}

-- mask i sees the i-th set-aside check alone
pub record Units (g : ℕ) (M : List ℕ) : Type 0 where
  pub each : (i : ℕ) → i < g → get_or M i 0 ≡ 2 ^ i

-- the lowest of the first `free` masks that sees the column c; `free` if none does
pub record Lowest (M : List ℕ) (free c r : ℕ) : Type 0 where
  pub most : r ≤ free
  pub sees : r < free → dot (get_or M r 0) c ≡ true
  pub blind : (i : ℕ) → i < r → dot (get_or M i 0) c ≡ false

-- v added into a mask that sees the column c
abbrev pub mended : ℕ → ℕ → ℕ → ℕ
mended v c m = cond (dot m c) (bit_xor m v) m

-- .. into each of g masks
pub record Mended (g v c : ℕ) (M N : List ℕ) : Type 0 where
  pub len : length N ≡ length M
  pub each : (i : ℕ) → i < g → get_or N i 0 ≡ mended v c (get_or M i 0)

-- mask i is put at k, the one from there at i, and it is added into every other mask that sees the column c
pub record Tied (g i k c : ℕ) (M N : List ℕ) : Type 0 where
  pub len : length N ≡ length M
  pub here : get_or N k 0 ≡ get_or M i 0
  pub there : eqb i k ≡ false → get_or N i 0 ≡ mended (get_or M i 0) c (get_or M k 0)
  pub others : (j : ℕ) → j < g → eqb j i ≡ false → eqb j k ≡ false → get_or N j 0 ≡ mended (get_or M i 0) c (get_or M j 0)

-- The scan, down to place p: f is the column of each place, W what the scan will choose. Each tied mask sees the column of its own
-- place and no mask that of another's; all masks together see every column but 0.
pub record Scan (f : ℕ → ℕ) (W : List ℕ) (g p free : ℕ) (M F : List ℕ) : Type 0 where
  pub most : free ≤ g
  pub room : (g ≤ length M) × (g ≤ length F)
  pub low : (q : ℕ) → f q < 2 ^ g
  pub own : (i : ℕ) → free ≤ i → i < g → dot (get_or M i 0) (f (get_or F i 0)) ≡ true
  pub other : (i j : ℕ) → i < g → free ≤ j → j < g → eqb i j ≡ false → dot (get_or M i 0) (f (get_or F j 0)) ≡ false
  pub tell : (x : ℕ) → x < 2 ^ g → ((i : ℕ) → i < g → dot (get_or M i 0) x ≡ false) → x ≡ 0
  pub rest : W ≡ rev (slice free g F) ++ choose xor_group is_zero f (map f (slice free g F)) (below p)
