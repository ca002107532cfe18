-- `flip_entry` meets its contract.
use native.Mathlib.Omega.{arith}
use mathlib.Core.Path.{refl}
use Rattle.tiles.proofs.Flipping.{turned_none, entry-columns, entry-rows, entry-low, entry-high}
use Rattle.std.proofs.Common.{ap}
use Rattle.tiles.specs.Board.{by_columns}
use Rattle.tiles.proofs.flip_entry.Goals as goal

pub returns-then-x-low : goal.returns-then-x-low
returns-then-x-low c = let a = c.args in turned_none _ (by_columns a.axis) _ (λ i q. entry-low a.x a.low a.span a.j i q (let t = c.if-x-low.true in omega arith))

pub returns-then-span-k : goal.returns-then-span-k
returns-then-span-k c = let a = c.args in turned_none _ (by_columns a.axis) _ (λ i q. entry-high a.x a.low a.span _ a.j i q c.if-x-low.false refl (let t = c.if-span-k.true in omega arith))

pub returns-in-Columns : goal.returns-in-Columns
returns-in-Columns c = let a = c.args in entry-columns (by_columns a.axis) a.x a.low a.span _ a.j c.if-x-low.false refl c.if-span-k.false (ap by_columns c.in-Columns.is) c.flip.ensures

pub returns-in-Rows : goal.returns-in-Rows
returns-in-Rows c = let a = c.args in entry-rows (by_columns a.axis) a.x a.low a.span _ a.j c.if-x-low.false refl c.if-span-k.false (ap by_columns c.in-Rows.is) c.flip-in-Rows.ensures
