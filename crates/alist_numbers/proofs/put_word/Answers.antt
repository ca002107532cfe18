-- `put_word` meets its contract: what is left to put are the places of the digits left.
use mathlib.Core.Path.{refl, sym, ap, ◌∙◌}
use mathlib.Core.List.{[], ◌∷◌, map}
use Prim.Native.Nat.{suc, ◌+◌, ◌-◌}
use native.Mathlib.Nat.{pos_of_ne-zero}
use native.Mathlib.Numerals.{add-one}
use native.Mathlib.Omega.{arith}
use lib.Bits.{bit_and, and_le_l}
use lib.Count.{ones-le, count_trailing_zeros, trailing_le}
use lib.ListN.{length}
use Rattle.bits.specs.WordPlaces.{places_of, places-length, places-next, places-none}
use Rattle.alist_numbers.specs.PutLaws.{put-none, on_both, part_none, part-more, part-all}
use Rattle.alist_numbers.proofs.put_word.Goals as goal

pub loop-y-init : goal.loop-y-init
loop-y-init c =
    let a = c.args in
    let f = c.ranges.x.fits in
    let l = places-length a.base 64 a.x f in
    let o = ones-le 64 a.x f in
    (f, omega arith, part_none (put-none _ _) refl)

pub overflow_cast-y : goal.overflow_cast-y
overflow_cast-y c = let z = trailing_le 64 c.loop-y.y in omega arith

pub overflow_add-base : goal.overflow_add-base
overflow_add-base c = let z = trailing_le 64 c.loop-y.y in omega arith

pub overflow_add-base-in-loop-y : goal.overflow_add-base-in-loop-y
overflow_add-base-in-loop-y c = let z = trailing_le 64 c.loop-y.y in omega arith

pub put_next-k-requires : goal.put_next-k-requires
put_next-k-requires c = let z = trailing_le 64 c.loop-y.y in omega arith

pub loop-y-smaller : goal.loop-y-smaller
loop-y-smaller c =
    let s = c.loop-y in
    let n = ap length (places-next c.args.base 64 s.y (pos_of_ne-zero c.loop-y-test.true) s.invariant.0) in
    omega arith

pub loop-y-preserved : goal.loop-y-preserved
loop-y-preserved c =
    let a = c.args in
    let s = c.loop-y in
    let l = and_le_l s.y (s.y - 1) in
    let n = places-next a.base 64 s.y (pos_of_ne-zero c.loop-y-test.true) s.invariant.0 in
    let m = ap length n in
    let p = c.put_next-k.ensures in
    let h = p.1 in
    let one = (a.base + count_trailing_zeros 64 s.y + 1) ∷ [] in
    let rest = map suc (places_of a.base 64 (bit_and s.y (s.y - 1))) in
    (omega arith, omega arith, part-more one rest s.invariant.2 (ap (map suc) n ∙ ap (λ v. v ∷ rest) (sym (add-one _))) (λ l q. on_both a.start l one (omega arith) q p.0))

pub shape_of-text : goal.shape_of-text
shape_of-text c = c.loop-y.invariant.2.holds.long

pub returns : goal.returns
returns c =
    let a = c.args in
    let s = c.loop-y in
    (part-all s.invariant.2 (ap (λ y. map suc (places_of a.base 64 y)) c.loop-y-test.false ∙ ap (map suc) (places-none a.base 64)), omega arith)
