-- `making::write_weights` meets its contract: what is left to write are the weights of the rows left.
use mathlib.Core.Path.{◌≡◌, sym, ap, subst}
use mathlib.Core.List.{List, [], ◌∷◌, map}
use Prim.Native.Nat.{ℕ, ◌+◌, ◌≤◌}
use native.Mathlib.Omega.{arith}
use lib.ListN.{length, set, length-map}
use Rattle.lists.specs.Lists.{Wrote}
use Rattle.lists.specs.WroteLaws.{Left, left-all, left_is, left-done, left-length, left_one}
use Rattle.bits.specs.Row.{row, places_in, rows_in}
use Rattle.making.specs.MakingLaws.{rows-length}
use Rattle.making.specs.Rows.{rows_from, rows_all, rows_next, rows_none}
use Rattle.making.proofs.write_weights.Goals as goal

-- the weights have room
room : (l w : List ℕ) (m : ℕ) → 4 + m ≤ length l → 4 + length (map length (rows_in w m)) ≤ length l
room l w m h = let e = rows-length w m in let f = length-map (rows_in w m) length in omega arith

-- one more weight
turn : {l ws : List ℕ} (rest e : List ℕ) (i v x : ℕ) → 4 + length ws ≤ length l → v ≡ x → Left l 4 ws (x ∷ rest) e (4 + i) → Left l 4 ws rest (set e (4 + i) v) (4 + (i + 1))
turn {l} {ws} rest e i v x h q w =
    let z : 4 + i + 1 ≡ 4 + (i + 1) = omega arith in
    subst (λ k. Left l 4 ws rest (set e (4 + i) v) k) z (subst (λ y. Left l 4 ws rest (set e (4 + i) y) (4 + i + 1)) (sym q) (left_one h w))

pub loop-i-init : goal.loop-i-init
loop-i-init c = let a = c.args in left_is _ (left-all _ _ _) (ap (map length) (rows_all a.w.now a.m))

pub overflow_cast-table : goal.overflow_cast-table
overflow_cast-table c = let z = c.ones_of.ensures.1 in omega arith

pub bounds-table-i : goal.bounds-table-i
bounds-table-i c =
    let a = c.args in
    let l = left-length (room a.table.now a.w.now a.m c.requires.0) c.loop-i.invariant in
    omega arith

pub loop-i-preserved : goal.loop-i-preserved
loop-i-preserved c =
    let a = c.args in
    let s = c.loop-i in
    let h = room a.table.now a.w.now a.m c.requires.0 in
    let n = ap (map length) (rows_next a.w.now a.m s.i c.loop-i-test.true) in
    turn (map length (rows_from a.w.now a.m (s.i + 1))) s.table s.i _ (length (places_in (row a.w.now s.i))) h c.ones_of.ensures.0 (left_is _ s.invariant n)

pub shape_of-table : goal.shape_of-table
shape_of-table c =
    let a = c.args in
    left-length (room a.table.now a.w.now a.m c.requires.0) c.loop-i.invariant

pub returns : goal.returns
returns c =
    let a = c.args in
    let s = c.loop-i in
    let e : s.i ≡ a.m = omega arith in
    subst (λ i. Wrote a.table.now 4 (map length (rows_in a.w.now a.m)) s.table (4 + i)) e
    (left-done (left_is [] s.invariant (ap (map length) (rows_none a.w.now a.m s.i c.loop-i-test.false))))
