-- `trials::try_place` meets its contract.
use Prim.Native.Nat.{◌+◌, ◌*◌, ◌≤◌}
use mathlib.Core.Path.{◌≡◌, sym, ◌∙◌}
use mathlib.Core.Bool.{not, ◌&&◌}
use lib.Dec.{eqb}
use Rattle.lists.specs.Tests.{and-false}
use native.Mathlib.Omega.{arith}
use borrow.Author.Tests.{eq-eqb}
use lib.ListN.{length, get_or, length-set}
use Rattle.table.specs.Accepted.{few-places, few_bytes}
use Rattle.table.specs.BufferLaws.{place-fits}
use Rattle.restore.specs.SavedLaws.{part-saved, put_back}
use Rattle.erasure.specs.Restoring.{agreeing}
use Rattle.restore.specs.Mending.{counts_of}
use Rattle.restore.specs.MendsLaws.{agrees-told}
use Rattle.suspects.specs.Blame.{lost_too}
use Rattle.trials.proofs.Undoing.{told, both, received-says, block_back}
use Rattle.trials.proofs.try_place.Goals as goal
use Rattle.trials.proofs.try_place.Goals.{then-agrees, else-agrees}

pub returns : goal.returns
returns c =
    let a = c.args in
    let k = c.args.table.now.accepted in
    let cl = c.requires.block in
    let done = c.restore_packets.ensures in
    let f = place-fits a.p a.table.now.places a.table.now.size c.requires.place in
    let few = few_bytes a.table.now.words.now a.table.now.checks a.table.now.places a.table.now.size k in
    let room : a.p * a.table.now.size + a.table.now.size ≤ length a.block.now = omega (arith, f, cl.bytes) in
    let back = put_back _ a.map.now _ _ _ a.table.now.places (few-places a.table.now.words.now a.table.now.checks a.table.now.places a.table.now.size k) cl.marks (omega (arith, length-set a.map.now a.p 1, cl.marks)) c.copy.ensures c.copy-3.ensures in
    let says = received-says a.table.now.words.now a.block.now a.map.now a.p (eq-eqb _ _ c.if-map-p-ne0.false) (counts_of c.restore_packets.result).agrees (agrees-told _ _ _ _ _ _ done) _ done.map_is in
    let r = c.restore_packets.result in
    let found : c.if-agrees.found ≡ (not (eqb (get_or c.restore_packets.new.map a.p 0) 1) && (counts_of r).agrees) =
    elim c.if-agrees.branch [
      | then-agrees w ↦ w.found-is ∙ both _ _ (told r _ _ c.is_ok-agrees.ensures.value w.if-agrees.true)
      | else-agrees w ↦ w.found-is ∙ w.if-agrees.false ∙ sym (and-false _ _ (told r _ _ c.is_ok-agrees.ensures.value w.if-agrees.false))
    ] in
    let part = part-saved _ a.block.now _ (a.p * a.table.now.size) a.table.now.size few room c.copy-2.ensures in record { suspect = found ∙ says; block = block_back a.table.now.words.now a.table.now.checks a.table.now.places a.table.now.size k a.block.now a.map.now cl a.p c.requires.place (agreeing a.table.now.words.now a.block.now (lost_too a.map.now a.p)) _ (omega (arith, cl.bytes)) done.block-is _ back _ c.zero_lost.ensures _ part _ c.copy-4.ensures; map = back }
