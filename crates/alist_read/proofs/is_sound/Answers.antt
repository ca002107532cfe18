-- `is_sound` meets its contract.
use mathlib.Core.Path.{refl, sym, ap, ◌∙◌}
use mathlib.Core.Bool.{◌&&◌, false≢true}
use Prim.Native.Nat.{◌*◌}
use lib.ListN.{take, drop}
use Rattle.alist.specs.Alist.{chunks, good_lists}
use Rattle.alist_read.proofs.Cursors.{enough-columns, enough-rows, columns-lie, rows_lie, column-wrong, row-wrong, sound-is}
use Rattle.alist_read.proofs.is_sound.Goals as goal

pub returns-then-greatest-columns : goal.returns-then-greatest-columns
returns-then-greatest-columns c = let a = c.args in record { len = refl; sound = λ z l p. (column-wrong a.columns.count a.rows.count a.columns.width a.rows.width l (λ e. c.if-greatest-columns.true (c.greatest.ensures l p.column-weights (enough-columns p) ∙ e)), λ t. absurd (false≢true t)) }

pub returns-then-greatest-rows : goal.returns-then-greatest-rows
returns-then-greatest-rows c = let a = c.args in record {
  len = refl;
  sound = λ z l p. let u = sym (c.greatest.ensures l p.column-weights (enough-columns p)) ∙ c.if-greatest-columns.false in
      (row-wrong a.columns.count a.rows.count a.columns.width a.rows.width l u (λ e. c.if-greatest-rows.true (c.greatest-2.ensures (drop a.columns.count l) p.row-weights (enough-rows p) ∙ e)), λ t. absurd (false≢true t));
}

pub returns-then-not-good_lists : goal.returns-then-not-good_lists
returns-then-not-good_lists c = let a = c.args in record {
  len = c.good_lists.ensures.len;
  sound = λ z l p. let u = sym (c.greatest.ensures l p.column-weights (enough-columns p)) ∙ c.if-greatest-columns.false in
      let v = sym (c.greatest-2.ensures (drop a.columns.count l) p.row-weights (enough-rows p)) ∙ c.if-greatest-rows.false in
      let d = c.good_lists.ensures.good z l (drop a.rows.count (drop a.columns.count l)) (columns-lie p u) in (
        sym (sound-is a.columns.count a.rows.count a.columns.width a.rows.width l u v
            ∙ ap (λ t. t && good_lists a.columns.count (take a.rows.count (drop a.columns.count l)) (chunks a.rows.count a.rows.width (drop (a.columns.count * a.columns.width) (drop a.rows.count (drop a.columns.count l))))) (sym d.0 ∙ c.if-not-good_lists.true)),
        λ t. absurd (false≢true t),
      );
}

pub returns : goal.returns
returns c = let a = c.args in record {
  len = c.good_lists-2.ensures.len ∙ c.good_lists.ensures.len;
  sound = λ z l p. let u = sym (c.greatest.ensures l p.column-weights (enough-columns p)) ∙ c.if-greatest-columns.false in
      let v = sym (c.greatest-2.ensures (drop a.columns.count l) p.row-weights (enough-rows p)) ∙ c.if-greatest-rows.false in
      let d = c.good_lists.ensures.good z l (drop a.rows.count (drop a.columns.count l)) (columns-lie p u) in
      let t = c.if-not-good_lists.false in
      let o = c.good_lists-2.ensures.good (d.1 t) (drop a.columns.count l) (drop (a.columns.count * a.columns.width) (drop a.rows.count (drop a.columns.count l))) (rows_lie p v) in (
        o.0 ∙ sym (sound-is a.columns.count a.rows.count a.columns.width a.rows.width l u v
            ∙ ap (λ x. x && good_lists a.columns.count (take a.rows.count (drop a.columns.count l)) (chunks a.rows.count a.rows.width (drop (a.columns.count * a.columns.width) (drop a.rows.count (drop a.columns.count l))))) (sym d.0 ∙ t)),
        o.1,
      );
}
