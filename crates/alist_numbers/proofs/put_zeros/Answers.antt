-- `put_zeros` meets its contract: what is left to put are the zeros left.
use mathlib.Core.Path.{◌≡◌, refl, ap}
use mathlib.Core.List.{[], ◌∷◌}
use Prim.Native.Nat.{suc, ◌+◌, ◌-◌}
use native.Mathlib.Omega.{arith}
use lib.ListN.{replicate}
use Rattle.alist_numbers.specs.PutLaws.{put-none, on_both, part_none, part-more, part-all}
use Rattle.alist_numbers.proofs.put_zeros.Goals as goal

pub loop-i-init : goal.loop-i-init
loop-i-init c = (omega arith, part_none (put-none _ _) refl)

pub loop-i-preserved : goal.loop-i-preserved
loop-i-preserved c =
    let a = c.args in
    let s = c.loop-i in
    let p = c.put_next-next.ensures in
    let h = p.1 in
    let e : a.most - s.i ≡ suc (a.most - (s.i + 1)) = omega arith in
    (omega arith, part-more (0 ∷ []) _ s.invariant.1 (ap (λ x. replicate x 0) e) (λ l q. on_both a.start l (0 ∷ []) (omega arith) q p.0))

pub shape_of-text : goal.shape_of-text
shape_of-text c = c.loop-i.invariant.1.holds.long

pub returns : goal.returns
returns c =
    let a = c.args in
    let s = c.loop-i in
    let e : a.most - s.i ≡ 0 = omega arith in
    (part-all s.invariant.1 (ap (λ x. replicate x 0) e), omega arith)
