-- What the first steps of a plan give.
use Rattle.std.specs.Prelude.{◌≡◌, List, ℕ, ◌+◌, length, take}
use Rattle.plan.specs.Layout.{plan_places, plan_gap, steps_of}
use Rattle.plan.specs.Step.{add_steps}
use Rattle.plan.specs.Steps.{carry_out_all}
use Rattle.slots.specs.Slots.{Holds}

-- what the first k steps of plan w give: their part of the count, and the slots after them
pub record Ran (w : List ℕ) (s k r : ℕ) (b c b' c' : List ℕ) : Type 0 where
  pub count : r ≡ add_steps (take k (steps_of w))
  pub slots : (st : List (List ℕ)) → Holds (plan_places w) s st b c → length st ≡ plan_places w + plan_gap w
      → Holds (plan_places w) s (carry_out_all s st (take k (steps_of w))) b' c'
