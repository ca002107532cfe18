-- `runs::run_rest` meets its contract: a part of 64 bytes of zeros.
use Prim.Native.Nat.{ℕ, ◌+◌, ◌-◌}
use mathlib.Core.Path.{◌≡◌, sym, ap, ◌∙◌}
use lib.ListN.{length, take, replicate}
use lib.Seq.{length-take-le}
use Rattle.table.specs.SumLaws.{part-zeros}
use Rattle.runs.specs.GatherLaws.{gathers-as}
use native.Mathlib.Omega.{arith}
use Rattle.runs.proofs.run_rest.Goals as goal

pub slice_bounds-run_part-end : goal.slice_bounds-run_part-end
slice_bounds-run_part-end c = let a = c.args in sym (length-take-le (a.s - a.off) (replicate 64 0) (omega arith))

pub run_part-requires : goal.run_part-requires
run_part-requires c =
    let a = c.args in
    let p = c.requires in
    let k = a.s - a.off in
    let e = length-take-le k (replicate {A = ℕ} 64 0) (omega arith) in
    record { slots = p.slots; room = omega (arith, e); zero = part-zeros 0 k 64 (omega arith) ∙ ap (λ (j : ℕ). replicate j 0) (sym e) }

pub returns : goal.returns
returns c =
    let a = c.args in
    let k = a.s - a.off in
    let e = length-take-le k (replicate {A = ℕ} 64 0) (omega arith) in
    let d : a.off + length (take k (replicate {A = ℕ} 64 0)) ≡ a.s = omega arith in
    gathers-as d c.run_part.ensures
