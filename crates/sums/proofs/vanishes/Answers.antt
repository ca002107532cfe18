-- `sums::vanishes` meets its contract: where all bytes or-ed are zero, the bytes of the sum passed are.
use mathlib.Core.Path.{refl, sym, ap, ◌∙◌}
use mathlib.Core.Bool.{false≢true, not}
use native.Mathlib.Omega.{arith}
use lib.ListN.{drop, length-drop}
use Rattle.packets.specs.Given.{sum_at}
use Rattle.packets.specs.GivenLaws.{sum-long}
use Rattle.sums.proofs.Sums.{passed}
use Rattle.sums.specs.LowestLaws.{none-lowest}
use Rattle.sums.proofs.vanishes.Goals as goal

pub loop-i-init : goal.loop-i-init
loop-i-init c = (omega arith, (refl, λ e. omega arith))

pub slice_bounds-or_chunk-end : goal.slice_bounds-or_chunk-end
slice_bounds-or_chunk-end c = sym c.loop-i.invariant.1.0

pub or_chunk-requires : goal.or_chunk-requires
or_chunk-requires c = (c.requires, (omega arith, c.loop-i.invariant.1.0))

pub loop-i-preserved : goal.loop-i-preserved
loop-i-preserved c =
    let l = c.loop-i in (
      omega arith,
      (
        c.or_chunk.auto.o ∙ l.invariant.1.0,
        λ e.
            let r = c.or_chunk.ensures e in
            passed (sum_at c.args.places.now c.args.block.now c.args.n c.args.s) _ 64 64 (omega (arith, sum-long _ _ _ _ c.requires)) (l.invariant.1.1 r.0) (sym r.1) (omega arith),
      ),
    )

pub slice_bounds-or_of-end : goal.slice_bounds-or_of-end
slice_bounds-or_of-end c = sym c.loop-i.invariant.1.0

pub returns-then-or_of-eq0 : goal.returns-then-or_of-eq0
returns-then-or_of-eq0 c =
    let l = c.loop-i in
    λ e.
    let z = c.or_of.ensures c.if-or_of-eq0.true ∙ l.invariant.1.0 in
    let r = l.invariant.1.1 z in
    let x = sum_at c.args.places.now c.args.block.now c.args.n c.args.s in
    let q = none-lowest (drop l.i x) _ (c.is_none.ensures ∙ ap not e) c.lowest_in_rest.ensures in
    omega (arith, r, q, length-drop l.i x, sum-long _ _ _ _ c.requires)

pub returns : goal.returns
returns c = λ e. absurd (false≢true e)
