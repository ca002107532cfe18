-- One turn of steps 2 and 3 on the numbers of the checks.
use Rattle.std.specs.Prelude.{◌≡◌, Bool, true, cond, List, [], ◌∷◌, map, ℕ, ◌+◌, ◌<◌, ◌≤◌, length, get_or, set, take, eqb}
use Rattle.std.proofs.Math.Option.{none, some}
use Rattle.lists.specs.Lists.{highest, has}
use Rattle.rule.specs.Buffers.{solved}
use Rattle.table.specs.Checks.{check}
use Rattle.rule.specs.Rule.{in_one_only, first, without, most_freed, peel, solved_of, set_aside_of}
use Rattle.live.specs.Live.{Tally, Noted}
use Rattle.freed.specs.Most.{lives}
use Rattle.keep.specs.Kept.{kept_of}
use Rattle.peel.specs.declared.Event.{Event}
use Rattle.peel.specs.declared.Event.TheVariants.{Took, Aside}

-- j taken out
unfoldable pub less : ℕ → List ℕ → List ℕ
less j [] = []
less j (i ∷ JS) = cond (eqb i j) JS (i ∷ less j JS)

-- j is one of them
pub data In (j : ℕ) : List ℕ → Type 0 where
  here : {JS : List ℕ} → In j (j ∷ JS)
  there : {i : ℕ} {JS : List ℕ} → In j JS → In j (i ∷ JS)

-- j is the one that f picks
pub record Pick (g : ℕ → List ℕ) (f : List ℕ → Bool) (JS : List ℕ) (j : ℕ) : Type 0 where
  pub member : In j JS
  pub passes : f (g j) ≡ true
  pub is-first : first f (map g JS) ≡ g j
  pub is-rest : without f (map g JS) ≡ map g (less j JS)

-- the next event: the highest place in exactly one live check, and that check; else the check that step 3 sets aside
pub data Picked (g : ℕ → List ℕ) (JS : List ℕ) (n : ℕ) : Event → Type 0 where
  by_place : {p j : ℕ} → highest n (in_one_only (map g JS)) ≡ some p → Pick g (has p) JS j → Picked g JS n (Took p j)
  by-choice : {j : ℕ} → highest n (in_one_only (map g JS)) ≡ none → Pick g (most_freed (map g JS)) JS j → Picked g JS n (Aside j)

-- flags, counts and names tell which checks are live
pub record Ready (t : List ℕ) (m n : ℕ) (live count names : List ℕ) : Type 0 where
  pub flags : m ≤ length live
  pub counts : n ≡ length count
  pub named : n ≤ length names
  pub tally : Tally (check t m) (lives live 0 m) count names

-- check j is no longer live
pub record Removed (t : List ℕ) (m n j : ℕ) (live₀ live count names : List ℕ) : Type 0 where
  pub ready : Ready t m n live count names
  pub list : lives live 0 m ≡ less j (lives live₀ 0 m)

-- room for the events of m checks
pub record Room (m : ℕ) (order owns aside : List ℕ) : Type 0 where
  pub taken : m ≤ length order
  pub places : m ≤ length owns
  pub put : m ≤ length aside

-- the numbers written so far: kt checks and their own places, ka checks set aside
pub record Low (m n : ℕ) (order owns aside : List ℕ) (kt ka : ℕ) : Type 0 where
  pub numbers : (i : ℕ) → i < kt → get_or order i 0 < m
  pub own : (i : ℕ) → i < kt → get_or owns i 0 < n
  pub asides : (i : ℕ) → i < ka → get_or aside i 0 < m

-- order, owns and aside hold the events of the peeling of JS, which are numbers of the m checks g
pub record Peeled (g : ℕ → List ℕ) (m n left : ℕ) (JS order owns aside : List ℕ) (kt ka : ℕ) : Type 0 where
  pub took : solved_of (peel left n (map g JS)) ≡ solved g order owns kt
  pub set-aside : set_aside_of (peel left n (map g JS)) ≡ map g (take ka aside)
  pub sum : kt + ka ≡ left
  pub low : Low m n order owns aside kt ka

-- ---- the kept checks at first
-- the first k of ids are the numbers of the kept checks
pub record Numbers (t : List ℕ) (m : ℕ) (ids : List ℕ) (k : ℕ) : Type 0 where
  pub count : k ≡ length (kept_of t m)
  pub list : take k ids ≡ kept_of t m

-- nothing but zeros
pub record Zeros (l : List ℕ) : Type 0 where
  pub each : (i : ℕ) → get_or l i 0 ≡ 0

-- no check is live yet
pub record Fresh (m n : ℕ) (live count names : List ℕ) : Type 0 where
  pub flags : m ≤ length live
  pub counts : n ≡ length count
  pub named : n ≤ length names
  pub none-live : Zeros live
  pub none-counted : Zeros count
  pub none_named : Zeros names

-- check j is live too
pub record Entered (t : List ℕ) (m j : ℕ) (live₀ count₀ names₀ live count names : List ℕ) : Type 0 where
  pub flags : live ≡ set live₀ j 1
  pub noted : Noted count₀ names₀ (check t m j) j count names

-- the kept checks are live
pub record First (t : List ℕ) (m n : ℕ) (live count names : List ℕ) : Type 0 where
  pub ready : Ready t m n live count names
  pub list : lives live 0 m ≡ kept_of t m
