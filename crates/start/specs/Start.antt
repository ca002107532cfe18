-- Before the first step: a slot that the first step on it clears anyway may hold anything, the others are as at the start.
use Rattle.std.specs.Prelude.{◌≡◌, Bool, true, false, not, ◌||◌, ◌&&◌, List, [], ◌∷◌, ◌++◌, ℕ, zero, suc, ◌+◌, ◌*◌, ◌<◌, ◌≤◌, eqb, length, get_or, replicate}
use Rattle.lists.specs.Lists.{has}
use Rattle.table.specs.Packets.{packets, joined}
use Rattle.plan.specs.declared.Step.{Step}
use Rattle.plan.specs.declared.Step.TheVariants.{Clear, Add}
use Rattle.plan.specs.Layout.{plan_places, plan_gap, info_count, info_in, slots, plan_refusal}
use Rattle.plan.specs.LookOver.{is_marked}
use Rattle.plan.specs.Steps.{with_packets, at_start}
use Rattle.start.specs.Kept.{InformationKept}

-- a well-formed plan, and a block of b bytes and a scratch of c bytes for it, at s bytes a packet
pub record Lent (w : List ℕ) (s b c : ℕ) : Type 0 where
  pub formed : plan_refusal w ≡ 0
  pub block : b ≡ plan_places w * s
  pub scratch : c ≡ plan_gap w * s

-- the slots at the start
abbrev pub start_of : List ℕ → ℕ → List ℕ → List (List ℕ)
start_of w s information = at_start (slots w) s (info_in w) (packets s (info_count w) information)

-- the first step that names slot p clears it
abbrev pub clears_first : List Step → ℕ → Bool
clears_first [] p = false
clears_first (Clear to ∷ xs) p = eqb p to || clears_first xs p
clears_first (Add to from ∷ xs) p = not (eqb p to || eqb p from) && clears_first xs p

-- ---- marks, a byte a slot
-- the slots that the steps xs clear first
pub record Marked (xs : List Step) (marks : List ℕ) : Type 0 where
  pub each : (p : ℕ) → p < length marks → is_marked marks p ≡ clears_first xs p

-- none but these
pub record MarkedOnly (xs : List Step) (marks : List ℕ) : Type 0 where
  pub only : (p : ℕ) → is_marked marks p ≡ true → clears_first xs p ≡ true

-- the packets from i to r − 1 are all marked, or none is; packet r is otherwise, or r is high; packet p has mark first + p
pub record Alike (marks : List ℕ) (marked : Bool) (first i high r : ℕ) : Type 0 where
  pub from : i ≤ r
  pub upto : r ≤ high
  pub each : (k : ℕ) → i ≤ k → k < r → is_marked marks (first + k) ≡ marked
  pub stops : r < high → is_marked marks (first + r) ≡ not marked

-- ---- clearing, in a buffer b that becomes b': byte i of packet p stands at p · s + i
-- the packets from low to high − 1 are zero where they have no mark, and the bytes of the packets outside stay; packet p has mark first + p
pub record GapCleared (marks : List ℕ) (s first low high : ℕ) (b b' : List ℕ) : Type 0 where
  pub below : (x : ℕ) → x < low * s → get_or b' x 0 ≡ get_or b x 0
  pub above : (x : ℕ) → high * s ≤ x → get_or b' x 0 ≡ get_or b x 0
  pub zero : (p i : ℕ) → low ≤ p → p < high → is_marked marks (first + p) ≡ false → i < s → get_or b' (p * s + i) 0 ≡ 0

-- the place behind the first k members of I
abbrev pub behind : List ℕ → ℕ → ℕ
behind I zero = 0
behind I (suc k) = suc (get_or I k 0)

-- the gaps before the first k information places: up to low, behind these, the other places are zero where they have no mark; bytes of
-- information places stay, and those from low on
pub record GapsCleared (w marks : List ℕ) (s k low : ℕ) (b b' : List ℕ) : Type 0 where
  pub upto : low ≡ behind (info_in w) k
  pub zero : (p i : ℕ) → p < low → has p (info_in w) ≡ false → is_marked marks p ≡ false → i < s → get_or b' (p * s + i) 0 ≡ 0
  pub keeps : InformationKept w s b b'
  pub rest : (x : ℕ) → low * s ≤ x → get_or b' x 0 ≡ get_or b x 0

-- the slots that block and scratch hold
abbrev pub slots_in : List ℕ → ℕ → List ℕ → List ℕ → List (List ℕ)
slots_in w s block scratch = packets s (plan_places w) block ++ packets s (plan_gap w) scratch

-- zero, but for the information places and those that the steps xs clear first
pub record ClearedFor (w : List ℕ) (s : ℕ) (xs : List Step) (block scratch : List ℕ) : Type 0 where
  pub zero : (p : ℕ) → p < slots w → clears_first xs p ≡ false → has p (info_in w) ≡ false → get_or (slots_in w s block scratch) p [] ≡ replicate s 0

-- ---- the information
-- the members of I from the k-th to the one before the r-th, of count, follow each other
pub record Together (I : List ℕ) (k count r : ℕ) : Type 0 where
  pub some : k < r
  pub upto : r ≤ count
  pub follow : (j : ℕ) → k + j < r → get_or I (k + j) 0 ≡ get_or I k 0 + j

-- the block b with the information packets at their places
abbrev pub with_information : List ℕ → ℕ → List ℕ → List ℕ → List ℕ
with_information w s information b = joined (with_packets (packets s (plan_places w) b) (info_in w) (packets s (info_count w) information))

-- ---- both
-- as at the start, but for those
pub record PreparedFor (w : List ℕ) (s : ℕ) (xs : List Step) (information block scratch : List ℕ) : Type 0 where
  pub agrees : (p : ℕ) → clears_first xs p ≡ false → get_or (slots_in w s block scratch) p [] ≡ get_or (start_of w s information) p []
