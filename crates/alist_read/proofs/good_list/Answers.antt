-- `good_list` meets its contract.
use mathlib.Core.Path.{◌≡◌, refl, sym, ap, ◌∙◌, subst}
use mathlib.Core.Bool.{◌&&◌}
use Prim.Native.Nat.{◌+◌, ◌-◌}
use native.Mathlib.Omega.{arith}
use lib.Dec.{eqb}
use lib.ListN.{take, drop, length-drop}
use lib.Seq.{drop-drop}
use Rattle.lists.specs.Lists.{all_pass}
use Rattle.numbers.specs.Cursor.{Ahead}
use Rattle.tiles.specs.BoardLaws.{blank-again}
use Rattle.alist_read.proofs.Lists.{good-is}
use Rattle.alist_read.proofs.good_list.Goals as goal

pub returns-then-width-weight : goal.returns-then-width-weight
returns-then-width-weight c = record { len = refl; good = λ z l e h k. absurd (let t = c.if-width-weight.true in omega arith) }

pub shape_of-board-then-not-mark : goal.shape_of-board-then-not-mark
shape_of-board-then-not-mark c = c.mark.ensures.len

pub returns-then-not-mark : goal.returns-then-not-mark
returns-then-not-mark c = let a = c.args in record {
  len = c.mark.ensures.len;
  good = λ z l e h k. let m = c.mark.ensures.marks z l e (omega arith) in
      (sym (good-is a.most a.weight a.width l k ∙ ap (λ t. t && all_pass (λ x. eqb x 0) (take (a.width - a.weight) (drop a.weight l))) (sym m.0 ∙ c.if-not-mark.true)), tt);
}

pub shape_of-board-then-not-all_zero : goal.shape_of-board-then-not-all_zero
shape_of-board-then-not-all_zero c = c.unmark-padding.ensures.len ∙ c.mark.ensures.len

pub returns-then-not-all_zero : goal.returns-then-not-all_zero
returns-then-not-all_zero c = let a = c.args in record {
  len = c.unmark-padding.ensures.len ∙ c.mark.ensures.len;
  good = λ z l e h k. let m = c.mark.ensures.marks z l e (omega arith) in let u = c.unmark-padding.ensures.flips l e (omega arith) in let d = length-drop a.weight l in
      let y = c.all_zero.ensures (drop a.weight l) u.0 (omega arith) in
      (sym c.if-not-all_zero.true ∙ y ∙ sym (good-is a.most a.weight a.width l k ∙ ap (λ x. x && all_pass (λ x. eqb x 0) (take (a.width - a.weight) (drop a.weight l))) (sym m.0 ∙ c.if-not-mark.false)), tt);
}

pub shape_of-board : goal.shape_of-board
shape_of-board c = c.unmark-padding.ensures.len ∙ c.mark.ensures.len

pub returns : goal.returns
returns c = let a = c.args in record {
  len = c.unmark-padding.ensures.len ∙ c.mark.ensures.len;
  good = λ z l e h k. let m = c.mark.ensures.marks z l e (omega arith) in let u = c.unmark-padding.ensures.flips l e (omega arith) in let d = length-drop a.weight l in
      let y = c.all_zero.ensures (drop a.weight l) u.0 (omega arith) in
      let t = c.if-not-mark.false in
      let q : a.weight + (a.width - a.weight) ≡ a.width = omega arith in (
        sym c.if-not-all_zero.false ∙ y ∙ sym (good-is a.most a.weight a.width l k ∙ ap (λ x. x && all_pass (λ x. eqb x 0) (take (a.width - a.weight) (drop a.weight l))) (sym m.0 ∙ t)),
        (
          subst (λ x. Ahead a.text.now c.skip_numbers.result x) (drop-drop (a.width - a.weight) a.weight l ∙ ap (λ x. drop x l) q) (c.skip_numbers.ensures (drop a.weight l) u.0 (omega arith)),
          blank-again z (m.1 t) u.1,
        ),
      );
}
