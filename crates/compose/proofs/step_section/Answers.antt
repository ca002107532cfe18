-- `compose::step_section` meets its contract: the steps, and then their count.
use mathlib.Core.Path.{ap}
use mathlib.Core.List.{map, ◌∷◌}
use native.Mathlib.Omega.{arith}
use Rattle.table.specs.Table.{places}
use Rattle.plan.specs.Step.{pack}
use Rattle.rule.specs.Rule.{plan_steps}
use Rattle.emit.specs.Emit.{solved_in, aside_in}
use Rattle.lists.specs.WroteLaws.{wrote_count, wrote-is}
use Rattle.emit.specs.PackedLaws.{packed-length}
use Rattle.compose.proofs.step_section.Goals as goal

pub returns : goal.returns
returns c =
    let a = c.args in
    let steps = plan_steps (places a.located.now.table.words.now) (solved_in a.located.now.table.words.now a.order.now a.owns.now a.taken) (aside_in a.located.now.table.words.now a.aside.now a.g) in
    let l = packed-length steps in
    wrote-is (wrote_count (omega (arith, c.requires.room)) c.write_steps-e.ensures) (ap (λ n. n ∷ map pack steps) l)
