-- The block that planning and then encoding gives, on lists of packets.
use Rattle.std.specs.Prelude.{List, ℕ, ◌+◌}
use Rattle.plan.specs.Steps.{carry_out_all, at_start}
use Rattle.rule.specs.Rule.{Plan}

abbrev pub encode : ℕ → ℕ → Plan → List (List ℕ) → List (List ℕ)
encode n s P ps = carry_out_all s (at_start (n + P.g) s P.info ps) P.steps
