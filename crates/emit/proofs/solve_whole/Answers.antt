-- `emit::solve_whole` meets its contract: no place is marked.
use mathlib.Core.Path.{refl, ap}
use mathlib.Core.List.{map}
use Prim.Native.Nat.{ℕ}
use native.Mathlib.Omega.{arith}
use lib.ListN.{length-replicate}
use Rattle.lists.specs.Lists.{rev}
use Rattle.table.specs.Table.{most_places}
use Rattle.plan.specs.Step.{pack}
use Rattle.emit.specs.Emit.{solved_in}
use Rattle.lists.specs.WroteLaws.{wrote-is}
use Rattle.emit.proofs.Passes.{whole_is}
use Rattle.emit.proofs.solve_whole.Goals as goal

pub solve_all-requires : goal.solve_all-requires
solve_all-requires c =
    let a = c.args in
    let k = a.located.now.table.accepted in
    let w = whole_is (rev (solved_in a.located.now.table.words.now a.order.now a.owns.now a.taken)) in
    record { room = rw w c.requires.room; table = record { located = record { table = record { accepted = k.accepted; number_is = refl; places-are = refl; size_is = refl }; starts-at = rw k.number_is at a.located.now.starts_at }; all = omega (arith, length-replicate {A = ℕ} most_places 0) }; checks = c.requires.checks; own = c.requires.own }

pub returns : goal.returns
returns c =
    let a = c.args in
    let w = whole_is (rev (solved_in a.located.now.table.words.now a.order.now a.owns.now a.taken)) in
    wrote-is c.solve_all.ensures (ap (map pack) w)
