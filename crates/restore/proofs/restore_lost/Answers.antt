-- `restore::restore_lost` meets its contract.
use Rattle.lists.specs.ListLaws.{get_d-zeros}
use Rattle.chains.specs.LinkedLaws.{linked_of}
use Rattle.restore.proofs.Passing.{spent-start, judges}
use Rattle.table.specs.Accepted.{few-places, few-checks, few_words}
use native.Mathlib.Omega.{arith}
use mathlib.Core.Path.{◌≡◌}
use mathlib.Core.Bool.{true, false}
use lib.ListN.{get_or}
use Rattle.std.proofs.Common.{rules}
use Rattle.erasure.specs.Restoring.{none_lost}
use Rattle.restore.proofs.restore_lost.Goals as goal

pub link_all-requires : goal.link_all-requires
link_all-requires c =
    let p = c.requires in
    let a = c.args in
    (few-places a.located.now.table.words.now a.located.now.table.checks a.located.now.table.places a.located.now.table.size a.located.now.table.accepted, few_words a.located.now.table.words.now a.located.now.table.checks a.located.now.table.places a.located.now.table.size a.located.now.table.accepted, few_words a.located.now.table.words.now a.located.now.table.checks a.located.now.table.places a.located.now.table.size a.located.now.table.accepted, omega arith, λ q. get_d-zeros 1024 q)

pub restore_all-adds-requires : goal.restore_all-adds-requires
restore_all-adds-requires c =
    let p = c.requires in
    let a = c.args in
    let e = c.link_all.ensures in (
      linked_of a.located.now.table.words.now a.located.now.table.checks a.located.now.table.places _ _ _ (omega (arith, e.0, few-places a.located.now.table.words.now a.located.now.table.checks a.located.now.table.places a.located.now.table.size a.located.now.table.accepted)) (omega (arith, e.1, e.2)) (omega (arith, e.1, few_words a.located.now.table.words.now a.located.now.table.checks a.located.now.table.places a.located.now.table.size a.located.now.table.accepted)) e.3,
      c.count_all.ensures,
      p.0,
      p.1,
      spent-start _ _ _ _ _ _ (few-checks a.located.now.table.words.now a.located.now.table.checks a.located.now.table.places a.located.now.table.size a.located.now.table.accepted),
    )

pub returns : goal.returns
returns c =
    let e = c.restore_all-adds.ensures in
    let k = c.args.located.now.table.accepted in
    let new = c.restore_all-adds.new in (
      e.0,
      c.lowest_failing-fault.ensures (none_lost new.map) (λ j r h p.
          let q : (r ≡ true → get_or new.count j 0 ≡ 0) × (r ≡ false → get_or new.count j 0 ≡ 0 → get_or new.used j 0 ≡ 1) = search rules in
          judges _ _ _ _ k new.block new.map new.count new.used e.1 e.2 j h r q),
    )
