-- `tracing::take_check` meets its contract.
use mathlib.Core.Path.{sym, ap, ◌∙◌, subst}
use mathlib.Core.List.{map}
use Rattle.bits.specs.Front.{front-taken}
use Rattle.bits.specs.RowLaws.{put_is}
use Rattle.gf2.specs.Gf2.{row_of}
use Rattle.rows.specs.LeadsLaws.{lowered-as, put-reducible, put-path}
use Rattle.reasons.specs.Mirror.{mirror_row, mirror-short}
use Rattle.tracing.specs.Tracing.{number_in, Led}
use Rattle.tracing.specs.TracingLaws.{path-led}
use Rattle.tracing.proofs.take_check.Goals as goal

pub reduce-r-requires : goal.reduce-r-requires
reduce-r-requires c =
    let a = c.args in
    let p = c.requires in
    record { rows = put-reducible p.rows.7 c.load_lost.ensures a.table.now.places (mirror-short a.table.now.places a.lost.now p.check) p.rows.0 p.rows.2 p.rows.3; room = p.rows.4 }

pub note_feeders-requires : goal.note_feeders-requires
note_feeders-requires c =
    let a = c.args in
    let p = c.requires in
    let x = mirror_row a.table.now.places a.lost.now a.places.now in
    let f = c.reduce-r.ensures.path in
    let is = front-taken f ∙ put-path p.rows.7 c.load_lost.ensures a.table.now.places in
    record { room = p.rows.1; led = subst (Led a.owner.now) (sym is) (path-led a.w.now a.owner.now p.rows.6 a.table.now.places x p.rows.3 p.rows.5) }

pub returns : goal.returns
returns c =
    let a = c.args in
    let p = c.requires in
    let d = c.load_lost.ensures in
    let r = c.reduce-r.ensures in
    record { row = lowered-as p.rows.7 d r.row; feeders = put_is c.note_feeders.ensures (ap (λ ps. row_of (map (number_in a.owner.now) ps)) (front-taken r.path ∙ put-path p.rows.7 d a.table.now.places)) }
