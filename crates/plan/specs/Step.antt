-- A step as a plan number (document 01, "The plan"): "kind × 16,777,216 + to × 4,096 + from; kind 0 is clear with from 0,
-- kind 1 is add".
use Rattle.std.specs.Prelude.{List, [], ◌∷◌, ℕ, zero, suc, ◌+◌, ◌*◌, ◌/◌, ◌%◌, ◌<◌}
use Rattle.std.proofs.Math.Option.{Option, none, some}
use Rattle.std.specs.declared.option.Option.{Option as Optional}
use Rattle.std.specs.declared.option.Option.TheVariants.{Some, None}
use Rattle.plan.specs.declared.Step.{Step}
use Rattle.plan.specs.declared.Step.TheVariants.{Clear, Add}

abbrev pub pack : Step → ℕ
pack (Clear to) = to * 4096
pack (Add to from) = 16777216 + to * 4096 + from

-- the step of a kind, if there is one: a clear has from 0
abbrev pub step_of : ℕ → ℕ → ℕ → Option Step
step_of zero to zero = some (Clear to)
step_of zero to (suc from) = none
step_of (suc zero) to from = some (Add to from)
step_of (suc (suc kind)) to from = none

-- the step of a plan number
abbrev pub unpack : ℕ → Option Step
unpack w = step_of (w / 16777216) (w / 4096 % 4096) (w % 4096)

-- the steps of a list of plan numbers; a number that is no step gives none
abbrev pub unpack_all : List ℕ → List Step
unpack_all [] = []
unpack_all (w ∷ ws) = elim (unpack w) [ some x ↦ x ∷ unpack_all ws | none ↦ unpack_all ws ]

-- the number of add steps
abbrev pub add_steps : List Step → ℕ
add_steps [] = 0
add_steps (Clear to ∷ xs) = add_steps xs
add_steps (Add to from ∷ xs) = suc (add_steps xs)

-- a step as code has it, or none
abbrev pub decoded_of : Option Step → Optional Step
decoded_of none = None
decoded_of (some x) = Some x

-- the slots of a step are below k; below 4,096 they can be packed
abbrev pub SlotsBelow : ℕ → Step → Type 0
SlotsBelow k (Clear to) = to < k
SlotsBelow k (Add to from) = (to < k) × (from < k)
