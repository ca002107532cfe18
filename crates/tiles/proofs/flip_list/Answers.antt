-- `flip_list` meets its contract.
use mathlib.Core.Path.{◌≡◌, refl, ap, ◌∙◌}
use native.Mathlib.Omega.{arith}
use lib.ListN.{take}
use Rattle.lists.specs.Lists.{par}
use Rattle.walks.specs.WalksLaws.{step_value, step-next}
use Rattle.tiles.specs.Board.{in_column}
use Rattle.tiles.proofs.Flipping.{flips-as, turned_as, turned-both, turned_none, column-next, column-none}
use Rattle.tiles.specs.Board.{by_columns}
use Rattle.tiles.proofs.flip_list.Goals as goal

pub loop-i-init : goal.loop-i-init
loop-i-init c = let a = c.args in (refl, λ l e h. (e, turned_none _ (by_columns a.axis) _ (column-none a.low a.span a.j)))

pub flip_entry-requires : goal.flip_entry-requires
flip_entry-requires c = let h = c.loop-i.invariant.0 in let g = c.requires in (omega arith, omega arith, omega arith)

pub loop-i-preserved : goal.loop-i-preserved
loop-i-preserved c = let s = c.loop-i in let a = c.args in let q = c.read-spot.ensures in (
  c.flip_entry.ensures.len ∙ s.invariant.0,
  λ l e h. let v = s.invariant.1 l e h in (
    step-next l s.i q v.0 (omega arith),
    turned-both (by_columns a.axis) _ _ _ v.1 c.flip_entry.ensures
        (column-next l s.i _ a.low a.span a.j (omega arith) (step_value l s.i q v.0 (omega arith))),
  ),
)

pub shape_of-board : goal.shape_of-board
shape_of-board c = c.loop-i.invariant.0

pub returns : goal.returns
returns c = let s = c.loop-i in let a = c.args in let k : a.weight ≡ s.i = omega arith in record { len = s.invariant.0; flips = λ l e h. let v = s.invariant.1 l e h in (rw k v.0, flips-as v.1 (turned_as (by_columns a.axis) (λ i q. ap (λ x. in_column a.low a.span a.j (λ y. par y (take x l)) i q) k))) }
