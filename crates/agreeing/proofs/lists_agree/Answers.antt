-- `lists_agree` meets its contract.
use mathlib.Core.Path.{refl, sym, ◌∙◌, subst}
use mathlib.Core.Bool.{false≢true, true≢false}
use Prim.Native.Nat.{◌*◌, ◌≤◌}
use native.Mathlib.Nat.{mul-le-mul}
use native.Mathlib.Omega.{arith}
use lib.ListN.{drop}
use lib.Seq.{drop-drop}
use lib.Seq.{drop-drop}
use lib.Seq.{drop-drop}
use Rattle.numbers.specs.Cursor.{Ahead}
use Rattle.walks.specs.Walks.{after, list_at}
use Rattle.walks.specs.WalksLaws.{after_more, after_is, room-all, lists-from, list-from}
use Rattle.agreeing.proofs.Tile.{rows-band, band-rows}
use Rattle.agreeing.proofs.lists_agree.Goals as goal

pub loop-r-init : goal.loop-r-init
loop-r-init c = (omega arith, refl, λ z ws l vs q g h. (z, h.weights-ahead, h.lists-ahead, λ i j a b. absurd (omega arith)))

pub band_agrees-requires : goal.band_agrees-requires
band_agrees-requires c = let h = c.loop-r.invariant.1 in let g = c.requires in let e = c.min-k.ensures in (omega arith, omega arith)

pub shape_of-board-then-not-band_agrees : goal.shape_of-board-then-not-band_agrees
shape_of-board-then-not-band_agrees c = c.band_agrees.ensures.len ∙ c.loop-r.invariant.1

pub returns-then-not-band_agrees : goal.returns-then-not-band_agrees
returns-then-not-band_agrees c = let s = c.loop-r in let a = c.args in record {
  len = c.band_agrees.ensures.len ∙ s.invariant.1;
  agrees = λ z ws l vs q g h.
      let y = s.invariant.2 z ws l vs q g h in
      let e = c.min-k.ensures in
      let sub = lists-from h s.r c.min-k.result (omega arith) y.1 y.2 in
      let d = c.band_agrees.ensures.agrees y.0 ws l (drop s.r vs) (after s.r a.rows.width q) g sub in (
        record {
          yes = λ t. absurd (false≢true t);
          no = λ p. absurd (true≢false (sym (d.0.no (rows-band a.columns.count s.r c.min-k.result a.rows.count (list_at a.columns.width ws l) (list_at a.rows.width vs q) (list_at a.rows.width (drop s.r vs) (after s.r a.rows.width q)) (λ i. list-from s.r i a.rows.width vs q) (omega arith) p)) ∙ c.if-not-band_agrees.true));
        },
        λ t. absurd (false≢true t),
      );
}

pub overflow_mul-k : goal.overflow_mul-k
overflow_mul-k c = let e = c.min-k.ensures in let b = c.args.rows.width in let g = c.requires.1 in
    let p : c.min-k.result * b ≤ 1024 * 1000000 = mul-le-mul {n₁ = c.min-k.result} {m₁ = b} {n₂ = 1024} {m₂ = 1000000} (omega arith) (omega arith) in omega arith

pub overflow_add-r : goal.overflow_add-r
overflow_add-r c = let e = c.min-k.ensures in omega arith

pub loop-r-smaller : goal.loop-r-smaller
loop-r-smaller c = let e = c.min-k.ensures in omega arith

pub loop-r-preserved : goal.loop-r-preserved
loop-r-preserved c = let s = c.loop-r in let a = c.args in let e = c.min-k.ensures in (
  omega arith,
  c.band_agrees.ensures.len ∙ s.invariant.1,
  λ z ws l vs q g h.
      let y = s.invariant.2 z ws l vs q g h in
      let e = c.min-k.ensures in
      let sub = lists-from h s.r c.min-k.result (omega arith) y.1 y.2 in
      let d = c.band_agrees.ensures.agrees y.0 ws l (drop s.r vs) (after s.r a.rows.width q) g sub in
      let t = c.if-not-band_agrees.false in (
        d.1 t,
        subst (λ x. Ahead a.text.now c.skip_numbers-weight.result x) (drop-drop c.min-k.result s.r vs) (c.skip_numbers-weight.ensures (drop s.r vs) y.1 sub.enough),
        subst (λ x. Ahead a.text.now c.skip_numbers-next.result x)
            (sym (after_is c.min-k.result a.rows.width (after s.r a.rows.width q)) ∙ after_more s.r c.min-k.result a.rows.width q)
            (c.skip_numbers-next.ensures (after s.r a.rows.width q) y.2 (room-all c.min-k.result a.rows.width (after s.r a.rows.width q) sub.room)),
        band-rows a.columns.count s.r c.min-k.result a.rows.count (list_at a.columns.width ws l) (list_at a.rows.width vs q) (list_at a.rows.width (drop s.r vs) (after s.r a.rows.width q)) (λ i. list-from s.r i a.rows.width vs q) y.3 (d.0.yes t),
      ),
)

pub shape_of-board : goal.shape_of-board
shape_of-board c = c.loop-r.invariant.1

pub returns : goal.returns
returns c = let s = c.loop-r in let a = c.args in record { len = s.invariant.1; agrees = λ z ws l vs q g h. let y = s.invariant.2 z ws l vs q g h in (record { yes = λ t i j p r. y.3 i j (omega arith) r; no = λ p. refl }, λ t. y.0) }
