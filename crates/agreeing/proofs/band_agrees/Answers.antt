-- `band_agrees` meets its contract.
use mathlib.Core.Path.{refl, sym, ◌∙◌, subst}
use mathlib.Core.Bool.{false≢true, true≢false}
use native.Mathlib.Omega.{arith}
use lib.ListN.{drop}
use lib.Seq.{drop-drop}
use lib.Seq.{drop-drop}
use lib.Seq.{drop-drop}
use Rattle.numbers.specs.Cursor.{Ahead}
use Rattle.walks.specs.Walks.{after, list_at}
use Rattle.walks.specs.WalksLaws.{after_more, lists-from, list-from}
use Rattle.agreeing.proofs.Tile.{tile-blank, blank-tile, band-tile, tile-band}
use Rattle.agreeing.proofs.band_agrees.Goals as goal

pub loop-c-init : goal.loop-c-init
loop-c-init c = (omega arith, refl, λ z. z, λ z ws l vs q g h. (g.weights-ahead, g.lists-ahead, λ i j a b. absurd (omega arith)))

pub flip_lists-ends-requires : goal.flip_lists-ends-requires
flip_lists-ends-requires c = let h = c.loop-c.invariant.1 in let g = c.requires in let e = c.min-span.ensures in (omega arith, omega arith, omega arith)

pub flip_lists-requires : goal.flip_lists-requires
flip_lists-requires c = let h = c.loop-c.invariant.1 in let g = c.requires in let e = c.min-span.ensures in let l = c.flip_lists-ends.ensures.len in (omega arith, omega arith, omega arith)

pub is_blank-requires : goal.is_blank-requires
is_blank-requires c = let h = c.loop-c.invariant.1 in let g = c.requires in let l = c.flip_lists-ends.ensures.len in let k = c.flip_lists.ensures.len in omega arith

pub shape_of-board-then-not-is_blank : goal.shape_of-board-then-not-is_blank
shape_of-board-then-not-is_blank c = let s = c.loop-c in c.flip_lists.ensures.len ∙ c.flip_lists-ends.ensures.len ∙ s.invariant.1

pub returns-then-not-is_blank : goal.returns-then-not-is_blank
returns-then-not-is_blank c = let s = c.loop-c in let a = c.args in record {
  len = c.flip_lists.ensures.len ∙ c.flip_lists-ends.ensures.len ∙ s.invariant.1;
  agrees = λ z ws l vs q g h.
      let y = s.invariant.3 z ws l vs q g h in
      let e = c.min-span.ensures in
      let sub = lists-from g s.c c.min-span.result (omega arith) y.0 y.1 in
      let f = c.flip_lists-ends.ensures.flips (drop s.c ws) (after s.c a.columns.width l) sub in
      let o = c.flip_lists.ensures.flips vs q h in (
        record {
          yes = λ t. absurd (false≢true t);
          no = λ p. absurd (true≢false (sym (c.is_blank.ensures.no (tile-blank a.r a.rows.count s.c c.min-span.result (list_at a.columns.width (drop s.c ws) (after s.c a.columns.width l)) (list_at a.rows.width vs q) (s.invariant.2 z) f.2 o.2
              (band-tile a.r a.rows.count s.c c.min-span.result (list_at a.columns.width ws l) (list_at a.columns.width (drop s.c ws) (after s.c a.columns.width l)) (list_at a.rows.width vs q) (λ j. list-from s.c j a.columns.width ws l) a.columns.count (omega arith) p))) ∙ c.if-not-is_blank.true));
        },
        λ t. absurd (false≢true t),
      );
}

pub overflow_add-c : goal.overflow_add-c
overflow_add-c c = let e = c.min-span.ensures in omega arith

pub loop-c-smaller : goal.loop-c-smaller
loop-c-smaller c = let e = c.min-span.ensures in omega arith

pub loop-c-preserved : goal.loop-c-preserved
loop-c-preserved c = let s = c.loop-c in let a = c.args in let e = c.min-span.ensures in let blank = c.is_blank.ensures.yes c.if-not-is_blank.false in (
  omega arith,
  c.flip_lists.ensures.len ∙ c.flip_lists-ends.ensures.len ∙ s.invariant.1,
  λ z. blank,
  λ z ws l vs q g h.
      let y = s.invariant.3 z ws l vs q g h in
      let e = c.min-span.ensures in
      let sub = lists-from g s.c c.min-span.result (omega arith) y.0 y.1 in
      let f = c.flip_lists-ends.ensures.flips (drop s.c ws) (after s.c a.columns.width l) sub in
      let o = c.flip_lists.ensures.flips vs q h in (
        subst (λ x. Ahead a.text.now c.flip_lists-ends.result.weights x) (drop-drop c.min-span.result s.c ws) f.0,
        subst (λ x. Ahead a.text.now c.flip_lists-ends.result.lists x) (after_more s.c c.min-span.result a.columns.width l) f.1,
        tile-band a.r a.rows.count s.c c.min-span.result (list_at a.columns.width ws l) (list_at a.columns.width (drop s.c ws) (after s.c a.columns.width l)) (list_at a.rows.width vs q) (λ j. list-from s.c j a.columns.width ws l) y.2
            (blank-tile a.r a.rows.count s.c c.min-span.result (list_at a.columns.width (drop s.c ws) (after s.c a.columns.width l)) (list_at a.rows.width vs q) (s.invariant.2 z) f.2 o.2 (omega arith) (omega arith) blank),
      ),
)

pub shape_of-board : goal.shape_of-board
shape_of-board c = c.loop-c.invariant.1

pub returns : goal.returns
returns c = let s = c.loop-c in let a = c.args in record { len = s.invariant.1; agrees = λ z ws l vs q g h. (record { yes = λ t i j p r. (s.invariant.3 z ws l vs q g h).2 i j p (omega arith); no = λ p. refl }, λ t. s.invariant.2 z) }
