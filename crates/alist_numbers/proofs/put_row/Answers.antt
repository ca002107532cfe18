-- `put_row` meets its contract: what is left to put are the places of the words left.
use mathlib.Core.Path.{ap, ◌∙◌}
use mathlib.Core.List.{map, map-append}
use Prim.Native.Nat.{suc, ◌+◌, ◌-◌, ◌*◌}
use native.Mathlib.Omega.{arith}
use lib.ListN.{get_or}
use Rattle.bits.specs.WordPlaces.{places_of, places_from, row-places, words-next, words-none}
use Rattle.alist_numbers.specs.PutLaws.{put-none, on_both, part_none, part-more, part-all}
use Rattle.alist_numbers.proofs.put_row.Goals as goal

pub loop-i-init : goal.loop-i-init
loop-i-init c = let a = c.args in (omega arith, part_none (put-none _ _) (ap (map suc) (row-places a.w.now a.r)))

pub put_word-k-requires : goal.put_word-k-requires
put_word-k-requires c = let e = c.loop-i.invariant.1.holds.ends in omega arith

pub loop-i-preserved : goal.loop-i-preserved
loop-i-preserved c =
    let a = c.args in
    let s = c.loop-i in
    let p = c.put_word-k.ensures in
    let h = p.1 in
    let word = places_of (s.i * 64) 64 (get_or a.w.now (a.r * 16 + s.i) 0) in
    let rest = places_from a.w.now a.r (s.i + 1) (16 - (s.i + 1)) in
    let n = words-next a.w.now a.r s.i c.loop-i-test.true in
    (omega arith, part-more (map suc word) (map suc rest) s.invariant.1 (ap (map suc) n ∙ map-append suc word rest) (λ l q. on_both a.start l (map suc word) (omega arith) q p.0))

pub shape_of-text : goal.shape_of-text
shape_of-text c = c.loop-i.invariant.1.holds.long

pub returns : goal.returns
returns c =
    let a = c.args in
    let s = c.loop-i in
    (part-all s.invariant.1 (ap (map suc) (words-none a.w.now a.r s.i c.loop-i-test.false)), omega arith)
