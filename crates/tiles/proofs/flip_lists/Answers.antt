-- `flip_lists` meets its contract.
use mathlib.Core.Path.{◌≡◌, refl, ap, ◌∙◌}
use native.Mathlib.Omega.{arith}
use lib.ListN.{take, drop, length-drop}
use Rattle.walks.specs.Walks.{after, list_at}
use Rattle.walks.specs.WalksLaws.{weight_is, weight-next, weight-within, after_next}
use Rattle.tiles.specs.Board.{in_columns}
use Rattle.tiles.proofs.Flipping.{flips-as, turned_as, turned-both, turned_none, columns-next, columns-none}
use Rattle.tiles.specs.Board.{by_columns}
use Rattle.tiles.proofs.flip_lists.Goals as goal

pub loop-j-init : goal.loop-j-init
loop-j-init c = let a = c.args in (refl, λ ws l g. (g.weights-ahead, g.lists-ahead, turned_none _ (by_columns a.axis) _ (columns-none (list_at a.lists.width ws l) a.low a.span)))

pub flip_list-padding-requires : goal.flip_list-padding-requires
flip_list-padding-requires c = let h = c.loop-j.invariant.0 in let g = c.requires in (omega arith, omega arith, omega arith)

pub loop-j-preserved : goal.loop-j-preserved
loop-j-preserved c = let s = c.loop-j in let a = c.args in let q = c.read-spot.ensures in let v = c.read-spot.result.value in (
  c.flip_list-padding.ensures.len ∙ s.invariant.0,
  λ ws l g. let y = s.invariant.1 ws l g in
      let x = weight_is g s.j (omega arith) q y.0 in
      let w = weight-within g s.j v (omega arith) x in
      let room = g.room s.j (omega arith) in
      let f = c.flip_list-padding.ensures.flips (after s.j a.lists.width l) y.1 (omega arith) in
      let e = c.saturating_sub.ensures in
      let d = length-drop v (after s.j a.lists.width l) in (
        weight-next g s.j (omega arith) q y.0,
        after_next a.text.now c.skip_numbers-next.result s.j a.lists.width v l w (rw e at (c.skip_numbers-next.ensures (drop v (after s.j a.lists.width l)) f.0 (omega arith))),
        turned-both (by_columns a.axis) _ _ _ y.2 f.1 (columns-next (list_at a.lists.width ws l) a.low a.span s.j (take v (after s.j a.lists.width l)) (ap (λ k. take k (after s.j a.lists.width l)) x)),
      ),
)

pub shape_of-board : goal.shape_of-board
shape_of-board c = c.loop-j.invariant.0

pub returns : goal.returns
returns c = let s = c.loop-j in let a = c.args in let k : a.lists.count ≡ s.j = omega arith in record { len = s.invariant.0; flips = λ ws l g. let y = s.invariant.1 ws l g in (rw k y.0, rw k y.1, flips-as y.2 (turned_as (by_columns a.axis) (λ i q. ap (λ x. in_columns a.low a.span x (list_at a.lists.width ws l) i q) k))) }
