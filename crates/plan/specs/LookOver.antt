-- The look-over's own words: information places as marks, a byte a slot, so that "an information place written" is one look.
use Rattle.std.specs.Prelude.{◌≡◌, Bool, true, false, cond, not, ◌&&◌, List, ℕ, ◌+◌, ◌<◌, eqb, ltb, length, get_or}
use Rattle.std.proofs.Math.Option.{Option, none, some}
use Rattle.lists.specs.Lists.{has}
use Rattle.table.specs.Table.{most_places, rising}
use Rattle.plan.specs.declared.Step.{Step}
use Rattle.plan.specs.declared.Step.TheVariants.{Clear, Add}
use Rattle.plan.specs.Layout.{most_aside}

-- places and scratch slots
abbrev pub most_slots : ℕ
most_slots = most_places + most_aside

-- a marked slot
abbrev pub is_marked : List ℕ → ℕ → Bool
is_marked marks p = eqb (get_or marks p 0) 1

-- the marks of the places of I: 1 at each, 0 elsewhere
pub record Marks (I marks : List ℕ) : Type 0 where
  pub each : (p : ℕ) → p < length marks → get_or marks p 0 ≡ cond (has p I) 1 0

-- what the marking of the places of I answers: that they ascend below n, and then their marks
pub record Marking (n : ℕ) (I : List ℕ) (answer : Bool) (marks : List ℕ) : Type 0 where
  pub rises : answer ≡ rising n 0 I
  pub marked : answer ≡ true → Marks I marks

-- a slot below k that may be written
abbrev pub writable : ℕ → (ℕ → Bool) → ℕ → Bool
writable k kept to = ltb to k && not (kept to)

-- good_step with a test for the slots that are not to be written
abbrev pub good_step_by : ℕ → (ℕ → Bool) → Option Step → Bool
good_step_by k kept none = false
good_step_by k kept (some (Clear to)) = writable k kept to
good_step_by k kept (some (Add to from)) = ltb to k && (ltb from k && (not (eqb to from) && not (kept to)))
