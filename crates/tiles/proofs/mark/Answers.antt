-- `mark` meets its contract.
use mathlib.Core.Path.{◌≡◌, refl, sym, ap, ap₂, ◌∙◌}
use mathlib.Core.Bool.{◌&&◌, false≢true}
use native.Mathlib.Omega.{arith}
use lib.ListN.{take}
use Rattle.lists.specs.Lists.{all_pass, all_differ}
use Rattle.alist.specs.Alist.{in_range}
use Rattle.walks.specs.WalksLaws.{step_value, step-next, pass-next}
use Rattle.tiles.specs.Board.{named}
use Rattle.tiles.proofs.Flipping.{flips-as, named-next, named_none}
use Rattle.tiles.proofs.Marking.{outside-fails, repeat-fails, differ-next, range-in, range-zero, range-over, bit-tells}
use Rattle.tiles.proofs.mark.Goals as goal

pub loop-i-init : goal.loop-i-init
loop-i-init c = (refl, λ z l e h. (e, refl, refl, named_none _))

pub shape_of-board-then-x-eq0 : goal.shape_of-board-then-x-eq0
shape_of-board-then-x-eq0 c = c.loop-i.invariant.0

pub returns-then-x-eq0 : goal.returns-then-x-eq0
returns-then-x-eq0 c = let s = c.loop-i in let a = c.args in record {
  len = s.invariant.0;
  marks = λ z l e h. let v = s.invariant.1 z l e h in let x = step_value l s.i c.read-spot.ensures v.0 (omega arith) in
      (outside-fails l a.count s.i _ a.most h (omega arith) x (range-zero a.most _ c.if-x-eq0.true), λ f. absurd (false≢true f));
}

pub shape_of-board-then-most-x : goal.shape_of-board-then-most-x
shape_of-board-then-most-x c = c.loop-i.invariant.0

pub returns-then-most-x : goal.returns-then-most-x
returns-then-most-x c = let s = c.loop-i in let a = c.args in record {
  len = s.invariant.0;
  marks = λ z l e h. let v = s.invariant.1 z l e h in let x = step_value l s.i c.read-spot.ensures v.0 (omega arith) in
      (outside-fails l a.count s.i _ a.most h (omega arith) x (range-over a.most _ c.if-most-x.true), λ f. absurd (false≢true f));
}

pub has_place-requires : goal.has_place-requires
has_place-requires c = let h = c.loop-i.invariant.0 in let g = c.requires in let v = c.read-spot.ensures.small in (omega arith, omega arith)

pub shape_of-board-then-has_place : goal.shape_of-board-then-has_place
shape_of-board-then-has_place c = c.loop-i.invariant.0

pub returns-then-has_place : goal.returns-then-has_place
returns-then-has_place c = let s = c.loop-i in let a = c.args in record {
  len = s.invariant.0;
  marks = λ z l e h. let v = s.invariant.1 z l e h in let x = step_value l s.i c.read-spot.ensures v.0 (omega arith) in (
    repeat-fails l a.count s.i _ a.most h (omega arith) x
        (sym (bit-tells (take s.i l) _ c.read-spot.ensures.small z v.3 v.2) ∙ sym c.has_place.ensures ∙ c.if-has_place.true),
    λ f. absurd (false≢true f),
  );
}

pub flip-requires : goal.flip-requires
flip-requires c = let h = c.loop-i.invariant.0 in let g = c.requires in let v = c.read-spot.ensures.small in (omega arith, omega arith)

pub loop-i-preserved : goal.loop-i-preserved
loop-i-preserved c = let s = c.loop-i in let a = c.args in let q = c.read-spot.ensures in (
  c.flip.ensures.len ∙ s.invariant.0,
  λ z l e h. let v = s.invariant.1 z l e h in let x = step_value l s.i q v.0 (omega arith) in (
    step-next l s.i q v.0 (omega arith),
    pass-next (in_range a.most) l s.i _ (omega arith) x v.1 (range-in a.most _ c.if-x-eq0.false c.if-most-x.false),
    differ-next l a.count s.i _ a.most h (omega arith) x v.2
        (sym (bit-tells (take s.i l) _ q.small z v.3 v.2) ∙ sym c.has_place.ensures ∙ c.if-has_place.false),
    named-next l s.i _ (omega arith) x v.3 c.flip.ensures,
  ),
)

pub shape_of-board : goal.shape_of-board
shape_of-board c = c.loop-i.invariant.0

pub returns : goal.returns
returns c = let s = c.loop-i in let a = c.args in let k : a.count ≡ s.i = omega arith in record {
  len = s.invariant.0;
  marks = λ z l e h. let v = s.invariant.1 z l e h in
      (sym (ap₂ ◌&&◌ (ap (λ x. all_pass (in_range a.most) (take x l)) k ∙ v.1) (ap (λ x. all_differ (take x l)) k ∙ v.2)), λ t. flips-as v.3 (λ i q a b. ap (λ x. named (take x l) i q) k));
}
