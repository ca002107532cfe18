-- How rows of bits, the list u and the numbers hold a state of the fill.
use Rattle.std.specs.Prelude.{◌≡◌, Bool, true, false, List, ℕ, ◌<◌, ◌≤◌, length, get_or, take}
use Rattle.std.proofs.Math.Option.{Option, none, some}
use Rattle.lists.specs.Lists.{All}
use Rattle.draws.specs.Generator.{modulus}
use Rattle.lots.specs.Grid.{free}
use Rattle.fill.specs.Fill.{State, vacant, extras}
use Rattle.fill.specs.Good.{Good}
use Rattle.fill.specs.PutLaws.{Row}

-- the sizes that fit
pub record Sizes (k m e : ℕ) : Type 0 where
  pub k-some : 0 < k
  pub k-low : k ≤ 1024
  pub m-some : 0 < m
  pub m-low : m ≤ 512
  pub e-low : e ≤ 10240

-- the first m rows of bits are the rows, and the numbers the generator's value and the draws left
pub record Rep (k m e : ℕ) (w : List ℕ) (raw left : ℕ) (s : State) : Type 0 where
  pub sizes : Sizes k m e
  pub good : Good k m e s
  pub wide : length w ≡ 8192
  pub cells : (i q : ℕ) → i < m → q < 1024 → free w q i ≡ vacant s.rows q i
  pub low : raw < modulus
  pub raw-is : s.raw ≡ raw
  pub left_is : s.left ≡ left

-- u holds the list, and the number is its t
pub record Order (e : ℕ) (u : List ℕ) (used : ℕ) (s : State) : Type 0 where
  pub listed : take e u ≡ s.order
  pub long : e ≤ length u
  pub small : (i : ℕ) → get_or u i 0 < 512
  pub used-is : s.used ≡ used

-- both
pub record Both (k m e : ℕ) (w u : List ℕ) (used raw left : ℕ) (s : State) : Type 0 where
  pub rep : Rep k m e w raw left s
  pub order : Order e u used s

-- some state is held, with column j inside it
pub record Ready (m e j : ℕ) (w u : List ℕ) (used raw left : ℕ) : Type 0 where
  pub k : ℕ
  pub state : State
  pub col : j < k
  pub both : Both k m e w u used raw left state

-- what a step ends in: no draws left, or the state after it, of which P holds
abbrev pub Ends : Option State → Bool → (State → Type 0) → Type 0
Ends none ok P = ok ≡ false
Ends (some s) ok P = (ok ≡ true) × P s

-- some state of which P holds
pub record Held (P : State → Type 0) : Type 0 where
  pub state : State
  pub holds : P state

-- the step f from P to Q
abbrev pub Steps : (State → Type 0) → (State → Option State) → Bool → (State → Type 0) → Type 0
Steps P f ok Q = (s : State) → P s → Ends (f s) ok Q

-- the step f in column j, from what is held before it to what is held after it
abbrev pub Stepped : ℕ → ℕ → ℕ → (State → Option State) → List ℕ → List ℕ → ℕ → ℕ → ℕ → List ℕ → List ℕ → Bool → ℕ → ℕ → ℕ → Type 0
Stepped m e j f w u used raw left w' u' ok used' raw' left' = (k : ℕ) → j < k → Steps (Both k m e w u used raw left) f ok (Both k m e w' u' used' raw' left')

-- some rows are held, with row i among them
pub record RowReady (k i : ℕ) (w : List ℕ) (raw left : ℕ) : Type 0 where
  pub m : ℕ
  pub e : ℕ
  pub state : State
  pub row : i < m
  pub rep : Rep k m e w raw left state

-- the step f in row i
abbrev pub RowStepped : ℕ → ℕ → (State → Option State) → List ℕ → ℕ → ℕ → List ℕ → Bool → ℕ → ℕ → Type 0
RowStepped k i f w raw left w' ok raw' left' = (m e : ℕ) → i < m → Steps (Rep k m e w raw left) f ok (Rep k m e w' raw' left')

-- m rows are held
pub record HeldRows (m k : ℕ) (w : List ℕ) (raw left : ℕ) : Type 0 where
  pub e : ℕ
  pub state : State
  pub rep : Rep k m e w raw left state

-- the first m rows of bits are the filled rows
pub record FilledIn (k m : ℕ) (w : List ℕ) (s : State) : Type 0 where
  pub wide : length w ≡ 8192
  pub long : length s.rows ≡ m
  pub each : All (Row k) s.rows
  pub cells : (i q : ℕ) → i < m → q < 1024 → free w q i ≡ vacant s.rows q i

-- the extra ones are put
abbrev pub RowsDone : ℕ → ℕ → List ℕ → ℕ → ℕ → List ℕ → Bool → Type 0
RowsDone k m w raw left w' ok = (e : ℕ) → Steps (Rep k m e w raw left) (extras k 0 m) ok (FilledIn k m w')
