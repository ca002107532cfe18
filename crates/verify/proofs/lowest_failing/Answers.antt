-- `verify::lowest_failing` meets its contract.
use Rattle.table.specs.Packets.{packets}
use Rattle.table.specs.Table.{checks}
use Rattle.faults.proofs.FaultLaws.{fault-hit, fault-zero, fault-end}
use Rattle.table.specs.Accepted.{has-weights, few_bytes, check-count, check-is, check-fits, check-in, offset-more}
use Rattle.table.specs.ChecksLaws.{offset-none}
use Rattle.table.specs.CodewordLaws.{sum-byte, sum-zero, sum-nonzero}
use Rattle.table.specs.SumLaws.{sum-length}
use Rattle.packets.specs.GivenLaws.{of-check}
use Rattle.std.proofs.Math.Option.{some}
use mathlib.Core.Path.{refl, sym, ap, ◌∙◌}
use native.Mathlib.Omega.{arith}
use Prim.Native.Nat.{◌<◌}
use lib.ListN.{length}
use Rattle.verify.proofs.Sparing.{fault-spared}
use Rattle.verify.proofs.lowest_failing.Goals as goal
use Rattle.verify.proofs.lowest_failing.Goals.{then-judged+in_default, else-judged}

pub loop-j-init : goal.loop-j-init
loop-j-init g c = (omega (arith, offset-none c.args.table.now.words.now c.args.table.now.checks), λ counts h. refl)

pub offset_bounds-table-j : goal.offset_bounds-table-j
offset_bounds-table-j g c = omega (arith, has-weights _ _ _ _ c.args.table.now.accepted)

pub bounds-table-j : goal.bounds-table-j
bounds-table-j g c = omega (arith, has-weights _ _ _ _ c.args.table.now.accepted)

pub run-places-requires : goal.run-places-requires
run-places-requires g c = let s = c.loop-j in check-fits _ _ _ _ c.args.table.now.accepted s.j c.loop-j-test.true _ _ s.invariant.0 c.from-w.ensures

pub sum_of_check-requires : goal.sum_of_check-requires
sum_of_check-requires g c =
    let s = c.loop-j in
    rw c.run-places.ensures (of-check _ _ _ _ _ _ (check-in _ _ _ _ c.args.table.now.accepted s.j c.loop-j-test.true _ _ s.invariant.0 c.from-w.ensures _ c.requires.bytes))

pub overflow_cast-result-in-Some : goal.overflow_cast-result-in-Some
overflow_cast-result-in-Some g c =
    let k = c.args.table.now.accepted in
    let s = c.loop-j in
    let inside = check-in c.args.table.now.words.now _ _ _ k s.j c.loop-j-test.true _ _ s.invariant.0 c.from-w.ensures c.args.block.now c.requires.bytes in
    let h = rw c.run-places.ensures at c.in-Some.ensures in
    omega (arith, h.1, sum-length _ _ _ _ _ _ inside, few_bytes _ _ _ _ k)

pub returns-in-Some : goal.returns-in-Some
returns-in-Some g c = λ counts h.
    let k = c.args.table.now.accepted in
    let t = c.args.table.now.words.now in
    let n = c.args.table.now.places in
    let z = c.args.table.now.size in
    let b = c.args.block.now in
    let s = c.loop-j in
    let more = c.loop-j-test.true in
    let is = check-is t _ _ _ k s.j more _ _ s.invariant.0 c.from-w.ensures in
    let inside = check-in t _ _ _ k s.j more _ _ s.invariant.0 c.from-w.ensures b c.requires.bytes in
    let low = rw c.run-places.ensures at c.in-Some.ensures in
    let nz = sum-nonzero t b n z _ _ inside _ is _ (sym low.0) (λ e. omega (arith, e, low.1, sum-length _ _ _ _ _ _ inside)) in
    let y = sum-byte t b n z _ _ inside _ is _ (sym low.0) in
    let q = (h s.j _ more c.judged.ensures).judged c.if-judged.true in
    ap (λ k. some (record { check = s.j; byte = k })) y
    ∙ sym (s.invariant.1 counts h ∙ fault-hit counts z (packets z n b) (checks t) s.j (rw (check-count _ _ _ _ k) more) q nz)

pub overflow_add-at-in-loop-j : goal.overflow_add-at-in-loop-j
overflow_add-at-in-loop-j g c =
    let s = c.loop-j in
    let f = check-fits _ _ _ _ c.args.table.now.accepted s.j c.loop-j-test.true _ _ s.invariant.0 c.from-w.ensures in
    omega (arith, f, c.well_formed)

pub loop-j-preserved : goal.loop-j-preserved
loop-j-preserved g c =
    let k = c.args.table.now.accepted in
    let t = c.args.table.now.words.now in
    let n = c.args.table.now.places in
    let z = c.args.table.now.size in
    let b = c.args.block.now in
    let s = c.loop-j in
    let more = c.loop-j-test.true in
    let is = check-is t _ _ _ k s.j more _ _ s.invariant.0 c.from-w.ensures in
    let inside = check-in t _ _ _ k s.j more _ _ s.invariant.0 c.from-w.ensures b c.requires.bytes in
    let in_list : s.j < length (checks t) = rw (check-count _ _ _ _ k) more in (
      offset-more _ _ _ _ _ s.invariant.0 c.from-w.ensures,
      λ counts h. s.invariant.1 counts h ∙ elim c.if-judged.branch [
        | then-judged+in_default u ↦ fault-zero counts z (packets z n b) (checks t) s.j in_list ((h s.j _ more c.judged.ensures).judged u.if-judged.true)
            (sum-zero t b n z _ _ inside _ is _ refl ((rw u.run-places.ensures at u.in_default.ensures) ∙ sum-length _ _ _ _ _ _ inside))
        | else-judged u ↦ fault-spared counts z (packets z n b) (checks t) s.j in_list ((h s.j _ more c.judged.ensures).spared u.if-judged.false)
      ],
    )

pub returns : goal.returns
returns g c = λ counts h.
    let z = c.args.table.now.size in
    let s = c.loop-j in
    sym (s.invariant.1 counts h ∙ fault-end counts z (packets z c.args.table.now.places c.args.block.now) (checks c.args.table.now.words.now) s.j (rw (check-count _ _ _ _ c.args.table.now.accepted) c.loop-j-test.false))
