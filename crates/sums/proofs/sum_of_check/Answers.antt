-- `sums::sum_of_check` meets its contract: by one test of all pieces, or else the bytes of the sum passed are zero.
use mathlib.Core.Path.{sym, ◌∙◌}
use native.Mathlib.Omega.{arith}
use Rattle.packets.specs.Given.{sum_at}
use Rattle.packets.specs.GivenLaws.{sum-long}
use Rattle.sums.proofs.Sums.{some-found, none-passed, rest-none, rest-lowest}
use Rattle.sums.proofs.sum_of_check.Goals as goal

pub vanishes-requires : goal.vanishes-requires
vanishes-requires c = c.requires

pub returns-then-vanishes : goal.returns-then-vanishes
returns-then-vanishes c = c.vanishes.ensures c.if-vanishes.true ∙ sym (sum-long _ _ _ _ c.requires)

pub loop-i-init : goal.loop-i-init
loop-i-init c = (omega arith, omega arith)

pub lowest_in_chunk-requires : goal.lowest_in_chunk-requires
lowest_in_chunk-requires c = (c.requires, omega arith)

pub overflow_add-result : goal.overflow_add-result
overflow_add-result c =
    let r = some-found (sum_at c.args.places.now c.args.block.now c.args.n c.args.s) _ 64 _ (omega (arith, sum-long _ _ _ _ c.requires)) c.loop-i.invariant.1 c.in-Some.ensures in
    omega (arith, r.1, sum-long _ _ _ _ c.requires)

pub returns-in-Some : goal.returns-in-Some
returns-in-Some c = some-found (sum_at c.args.places.now c.args.block.now c.args.n c.args.s) _ 64 _ (omega (arith, sum-long _ _ _ _ c.requires)) c.loop-i.invariant.1 c.in-Some.ensures

pub loop-i-preserved : goal.loop-i-preserved
loop-i-preserved c = (
  omega arith,
  none-passed (sum_at c.args.places.now c.args.block.now c.args.n c.args.s) _ 64 (omega (arith, sum-long _ _ _ _ c.requires)) c.loop-i.invariant.1 c.in_default.ensures,
)

pub returns-in_err-r : goal.returns-in_err-r
returns-in_err-r c = rw c.from_residual.ensures (rest-none (sum_at c.args.places.now c.args.block.now c.args.n c.args.s) _ (omega (arith, sum-long _ _ _ _ c.requires)) c.loop-i.invariant.1 c.in_err-r.ensures)

pub overflow_add-result-2 : goal.overflow_add-result-2
overflow_add-result-2 c =
    let r = rest-lowest (sum_at c.args.places.now c.args.block.now c.args.n c.args.s) _ _ (omega (arith, sum-long _ _ _ _ c.requires)) c.loop-i.invariant.1 c.in_ok-r.ensures in
    omega (arith, r.1, sum-long _ _ _ _ c.requires)

pub returns : goal.returns
returns c = rest-lowest (sum_at c.args.places.now c.args.block.now c.args.n c.args.s) _ _ (omega (arith, sum-long _ _ _ _ c.requires)) c.loop-i.invariant.1 c.in_ok-r.ensures
