-- `peel::enter` meets its contract.
use Rattle.table.specs.Accepted.{few-checks}
use Rattle.lists.specs.ListLaws.{all_of}
use Rattle.live.specs.TurnLaws.{check-apart, check-low}
use mathlib.Core.Path.{refl}
use native.Mathlib.Omega.{arith}
use Rattle.peel.proofs.enter.Goals as goal

pub note-requires : goal.note-requires
note-requires c =
    let p = c.requires in
    let a = c.args.located.now.table.accepted in
    let few = few-checks _ _ _ _ a in
    let low = check-low a c.args.j p.room.0 in
    rw c.check.ensures (record { places = rw p.counts low; apart = check-apart a c.args.j p.room.0; names = p.room.2; room = all_of (λ q. omega (arith, p.few q)) _ })

pub returns : goal.returns
returns c = record { flags = refl; noted = rw c.check.ensures at c.note.ensures }
