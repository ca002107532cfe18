-- `good_lists` meets its contract.
use mathlib.Core.Path.{◌≡◌, refl, sym, ap, ◌∙◌, subst}
use mathlib.Core.Bool.{false≢true, true≢false}
use native.Mathlib.Numerals.{add-one}
use native.Mathlib.Omega.{arith}
use borrow.Author.Tests.{ltb-true, ltb-false}
use lib.Dec.{ltb}
use lib.ListN.{get_or, take}
use Rattle.lists.specs.Tests.{by_bool}
use Rattle.numbers.specs.Cursor.{Ahead}
use Rattle.alist.specs.Alist.{good_list, good_lists, chunks}
use Rattle.walks.specs.Walks.{after}
use Rattle.walks.specs.WalksLaws.{weight_is, weight-next, weight-within}
use Rattle.alist_read.proofs.Lists.{good-all, good-each}
use Rattle.alist_read.proofs.good_lists.Goals as goal

pub loop-i-init : goal.loop-i-init
loop-i-init c = (refl, λ z ws l g. (z, g.weights-ahead, g.lists-ahead, λ k h. absurd (omega arith)))

pub good_list-requires : goal.good_list-requires
good_list-requires c = let h = c.loop-i.invariant.0 in let g = c.requires in omega arith

pub shape_of-board-in_default : goal.shape_of-board-in_default
shape_of-board-in_default c = c.good_list.ensures.len ∙ c.loop-i.invariant.0

pub returns-in_default : goal.returns-in_default
returns-in_default c = let s = c.loop-i in let a = c.args in record {
  len = c.good_list.ensures.len ∙ s.invariant.0;
  good = λ z ws l g.
      let y = s.invariant.1 z ws l g in
      let x = weight_is g s.i (omega arith) c.read-spot.ensures y.1 in
      let w = weight-within g s.i _ (omega arith) x in
      let d = c.in_default.ensures.good y.0 (after s.i a.lists.width l) y.2 (g.room s.i (omega arith)) w in
      let f = ap (λ k. good_list a.most k (take a.lists.width (after s.i a.lists.width l))) x in (
        by_bool (good_lists a.most (take a.lists.count ws) (chunks a.lists.count a.lists.width l))
            (λ t. absurd (true≢false (sym (good-each a.most a.lists.count a.lists.width ws l g.enough t s.i (omega arith)) ∙ sym f ∙ sym d.0)))
            (λ t. sym t),
        λ t. absurd (false≢true t),
      );
}

pub loop-i-preserved : goal.loop-i-preserved
loop-i-preserved c = let s = c.loop-i in let a = c.args in (
  c.good_list.ensures.len ∙ s.invariant.0,
  λ z ws l g.
      let y = s.invariant.1 z ws l g in
      let x = weight_is g s.i (omega arith) c.read-spot.ensures y.1 in
      let w = weight-within g s.i _ (omega arith) x in
      let d = c.in-Some.ensures.good y.0 (after s.i a.lists.width l) y.2 (g.room s.i (omega arith)) w in
      let f = ap (λ k. good_list a.most k (take a.lists.width (after s.i a.lists.width l))) x in (
        d.1.1,
        weight-next g s.i (omega arith) c.read-spot.ensures y.1,
        subst (λ k. Ahead a.text.now c.in-Some.end (after k a.lists.width l)) (sym (add-one s.i)) d.1.0,
        λ k h. by_bool (ltb k s.i)
            (λ e. y.3 k (ltb-true k s.i e))
            (λ e. let b = ltb-false k s.i e in let q : k ≡ s.i = omega arith in
            ap (λ j. good_list a.most (get_or ws j 0) (take a.lists.width (after j a.lists.width l))) q ∙ sym f ∙ sym d.0),
      ),
)

pub shape_of-board : goal.shape_of-board
shape_of-board c = c.loop-i.invariant.0

pub returns : goal.returns
returns c = let s = c.loop-i in let a = c.args in record { len = s.invariant.0; good = λ z ws l g. let y = s.invariant.1 z ws l g in (sym (good-all a.most a.lists.count a.lists.width ws l g.enough (λ k h. y.3 k (omega arith))), λ t. y.0) }
