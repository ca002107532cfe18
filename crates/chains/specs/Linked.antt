-- How the loop over turns finds the lowest ready check: for each check the number of its lost places, and for each place the
-- chain of its checks.
use Rattle.std.specs.Prelude.{◌≡◌, true, cond, List, [], ◌∷◌, ℕ, zero, suc, ◌-◌, ◌<◌, ◌≤◌, length, get_or}
use Rattle.lists.specs.Lists.{Distinct, has}
use Rattle.table.specs.Checks.{check}
use Rattle.erasure.specs.Restoring.{lost_places}

-- a chain: 0 ends it; i + 1 names the check at i and goes on at next i, which is lower. All lie below x.
pub data Chain (next owner : List ℕ) (x : ℕ) : ℕ → List ℕ → Type 0 where
  end : Chain next owner x 0 []
  link : (i : ℕ) {js : List ℕ} → i < x → get_or next i 0 ≤ i → Chain next owner x (get_or next i 0) js → Chain next owner x (suc i) (get_or owner i 0 ∷ js)

-- each place's chain
pub record Links (next owner head : List ℕ) (x : ℕ) (chains : ℕ → List ℕ) : Type 0 where
  pub each : (p : ℕ) → p < length head → Chain next owner x (get_or head p 0) (chains p)

-- check j put in front of the chains of its places c
abbrev pub with_check : ℕ → List ℕ → (ℕ → List ℕ) → ℕ → List ℕ
with_check j c chains p = cond (has p c) (j ∷ chains p) (chains p)

-- of the first k checks those that hold place p, from the highest down
unfoldable pub holders : (ℕ → List ℕ) → ℕ → ℕ → List ℕ
holders f p zero = []
holders f p (suc k) = cond (has p (f k)) (k ∷ holders f p k) (holders f p k)

-- every place's chain has the checks that hold it
pub record Linked (t : List ℕ) (m n : ℕ) (head next owner : List ℕ) : Type 0 where
  pub room : n ≤ length head
  pub same : length next ≤ length owner
  pub each : (p : ℕ) → p < n → Chain next owner (length next) (get_or head p 0) (holders (check t m) p m)

-- the number of lost places of each of m checks
pub record Counted (t : List ℕ) (m : ℕ) (lost count : List ℕ) : Type 0 where
  pub room : m ≤ length count
  pub each : (j : ℕ) → j < m → get_or count j 0 ≡ length (lost_places lost (check t m j))

-- a chain whose checks have a lost place
pub record Walk (next owner count : List ℕ) (i : ℕ) : Type 0 where
  pub checks : List ℕ
  pub chain : Chain next owner (length next) i checks
  pub room : length next ≤ length owner
  pub distinct : Distinct checks
  pub inside : (j : ℕ) → has j checks ≡ true → (j < length count) × (0 < get_or count j 0)

-- one lost place less in each check of the chain; none of these below low' has exactly one
pub record Walked (next owner : List ℕ) (i : ℕ) (count count' : List ℕ) (low low' : ℕ) : Type 0 where
  pub checks : List ℕ
  pub chain : Chain next owner (length next) i checks
  pub len : length count' ≡ length count
  pub each : (j : ℕ) → get_or count' j 0 ≡ cond (has j checks) (get_or count j 0 - 1) (get_or count j 0)
  pub lower : low' ≤ low
  pub none_below : (j : ℕ) → has j checks ≡ true → j < low' → get_or count' j 0 ≡ 1 → ⊥

-- r is the lowest from low on with exactly one, or m
pub record LowestOne (count : List ℕ) (low m r : ℕ) : Type 0 where
  pub above : low ≤ r
  pub within : r ≤ m
  pub passed : (j : ℕ) → low ≤ j → j < r → get_or count j 0 ≡ 1 → ⊥
  pub found : r < m → get_or count r 0 ≡ 1
