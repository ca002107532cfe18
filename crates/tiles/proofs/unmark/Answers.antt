-- `unmark` meets its contract.
use mathlib.Core.Path.{◌≡◌, refl, ap, ◌∙◌}
use native.Mathlib.Omega.{arith}
use lib.ListN.{take}
use Rattle.walks.specs.WalksLaws.{step_value, step-next}
use Rattle.tiles.specs.Board.{named}
use Rattle.tiles.proofs.Flipping.{flips-as, named-next, named_none}
use Rattle.tiles.proofs.unmark.Goals as goal

pub loop-i-init : goal.loop-i-init
loop-i-init c = (refl, λ l e h. (e, named_none _))

pub flip-requires : goal.flip-requires
flip-requires c = let h = c.loop-i.invariant.0 in let g = c.requires in let v = c.read-spot.ensures.small in (omega arith, omega arith)

pub loop-i-preserved : goal.loop-i-preserved
loop-i-preserved c = let s = c.loop-i in let q = c.read-spot.ensures in (
  c.flip.ensures.len ∙ s.invariant.0,
  λ l e h. let v = s.invariant.1 l e h in
      (step-next l s.i q v.0 (omega arith), named-next l s.i _ (omega arith) (step_value l s.i q v.0 (omega arith)) v.1 c.flip.ensures),
)

pub shape_of-board : goal.shape_of-board
shape_of-board c = c.loop-i.invariant.0

pub returns : goal.returns
returns c = let s = c.loop-i in let a = c.args in let k : a.count ≡ s.i = omega arith in record { len = s.invariant.0; flips = λ l e h. let v = s.invariant.1 l e h in (rw k v.0, flips-as v.1 (λ i q a b. ap (λ x. named (take x l) i q) k)) }
