-- Steps as the code reads them: decoded one by one, and taken in runs.
use Rattle.std.specs.Prelude.{◌≡◌, Bool, true, false, cond, List, [], ◌∷◌, map, ℕ, ◌-◌, ◌≤◌, eqb, length, take, drop}
use Rattle.std.proofs.Math.Option.{Option, none, some}
use Rattle.plan.specs.declared.Step.{Step}
use Rattle.plan.specs.declared.Step.TheVariants.{Clear, Add}
use Rattle.plan.specs.Step.{unpack}
use Rattle.slots.specs.Slots.{RunIn}

-- the step that a number is decoded to, if it is one; a well-formed plan has no other number
abbrev pub step_in : Option Step → Step
step_in none = Clear 0
step_in (some x) = x

abbrev pub is_clear : Step → Bool
is_clear (Clear to) = true
is_clear (Add to from) = false

-- the slot that is written
abbrev pub target_of : Step → ℕ
target_of (Clear to) = to
target_of (Add to from) = to

-- a number that is no slot's: slots are below it
abbrev pub no_slot : ℕ
no_slot = 4096

-- the slot that is added into slot to; no slot, for a step that adds nothing there
abbrev pub source_into : Step → ℕ → ℕ
source_into (Clear t) to = no_slot
source_into (Add t from) to = cond (eqb t to) from no_slot

-- the steps of a run: a clear of slot to, or none, and then add steps from the slots fs into it
abbrev pub adding : ℕ → List ℕ → List Step
adding to fs = map (Add to) fs

abbrev pub run_steps : Bool → ℕ → List ℕ → List Step
run_steps fresh to fs = cond fresh (Clear to ∷ adding to fs) (adding to fs)

-- ---- the add steps into slot to with which some numbers begin
-- the source of a step, and the others after it, if it is such a step
abbrev pub source_before : Step → ℕ → List ℕ → List ℕ
source_before (Clear t) to fs = []
source_before (Add t from) to fs = cond (eqb t to) (from ∷ fs) []

-- their sources
abbrev pub sources_in : ℕ → List ℕ → List ℕ
sources_in to [] = []
sources_in to (w ∷ ws) = source_before (step_in (unpack w)) to (sources_in to ws)

-- among the numbers of w from first on, up to end
abbrev pub sources_of : List ℕ → ℕ → ℕ → ℕ → List ℕ
sources_of w first end to = sources_in to (take (end - first) (drop first w))

-- the run of such steps into slot to: its slots lie within a block of b bytes and a scratch of c bytes
pub record RunAt (w : List ℕ) (first end to n s b c : ℕ) : Type 0 where
  pub order : first ≤ end
  pub inside : end ≤ length w
  pub slots : RunIn n s b c to (sources_of w first end to)

-- the sources fs stand in front in a list of sources, and are r
pub record Listed (fs : List ℕ) (r : ℕ) (sources : List ℕ) : Type 0 where
  pub count : r ≡ length fs
  pub front : take r sources ≡ fs
