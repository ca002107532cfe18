-- `blame::is_suspect` meets its contract: one byte position is enough to say no.
use mathlib.Core.Path.{refl, sym, ◌∙◌}
use native.Mathlib.Omega.{arith}
use Rattle.blame.proofs.Narrowing.{places-same, narrow-cleared, none-narrow}
use Rattle.blame.proofs.is_suspect.Goals as goal

pub try_place-requires : goal.try_place-requires
try_place-requires c =
    let a = c.args in
    let p = c.requires in
    let k = a.table.now.accepted in record {
      block = narrow-cleared _ _ _ _ k a.block.now _ _ p.narrow _ _ _ a.small.now.accepted a.map.now p.block;
      place = omega (arith, places-same _ _ _ _ k a.block.now _ _ p.narrow _ _ _ a.small.now.accepted, p.place);
    }

pub returns : goal.returns
returns c =
    let a = c.args in
    let p = c.requires in
    let e = c.try_place.ensures in
    let w = p.narrow in
    record { suspect = none-narrow a.table.now.words.now a.table.now.checks a.table.now.places a.table.now.size c.args.table.now.accepted a.block.now a.small.now.words.now a.column.now w a.map.now p.block a.p p.place (sym c.if-try_place.false ∙ e.suspect); block = refl; map = e.map; column = e.block }
