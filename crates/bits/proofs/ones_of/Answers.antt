-- `bits::ones_of` meets its contract: the places counted so far and those of the words left are all.
use mathlib.Core.Path.{◌≡◌, ap, ◌∙◌}
use mathlib.Core.List.{List}
use Prim.Native.Nat.{ℕ, ◌<◌, ◌+◌, ◌-◌, ◌*◌, ◌≤◌}
use native.Mathlib.Omega.{arith}
use lib.Count.{ones, ones-le}
use lib.ListN.{length, get_or, take, drop, length-append, length-take, length-drop}
use Rattle.std.proofs.lemmas.List.{get_or-take, get_or-drop}
use Rattle.bits.specs.WordPlaces.{places_of, places_from, places-length, row-places, words-next, words-none}
use Rattle.bits.proofs.ones_of.Goals as goal

pub loop-x-init : goal.loop-x-init
loop-x-init c = let a = c.args in let e = ap length (row-places a.w.now a.r) in record { few = omega arith; rest = omega arith }

-- word i of a row
word : (w : List ℕ) (r n i : ℕ) → i < n → get_or (take n (drop (r * 16) w)) i 0 ≡ get_or w (r * 16 + i) 0
word w r n i h = get_or-take n (drop (r * 16) w) i 0 h ∙ get_or-drop (r * 16) w i 0

pub loop-x-preserved : goal.loop-x-preserved
loop-x-preserved c =
    let w = c.args.w.now in
    let r = c.args.r in
    let i = c.loop-x.x-index in
    let few : i < 16 = omega (arith, c.loop-x-test.true, length-take {A = ℕ}) in
    let x = get_or w (r * 16 + i) 0 in
    let f = (c.type_inv.w (r * 16 + i)).fits in
    let n = ap length (words-next w r i few) ∙ length-append (places_of (i * 64) 64 x) (places_from w r (i + 1) (16 - (i + 1))) in
    let l = places-length (i * 64) 64 x f in
    let z = ones-le 64 x f in
    let e = ap ones (word w r (r * 16 + 16 - r * 16) i (omega arith)) in
    record { few = omega arith; rest = omega arith }

pub returns : goal.returns
returns c =
    let d : 16 ≤ c.loop-x.x-index = omega (arith, c.loop-x-test.false, length-take {A = ℕ}, length-drop {A = ℕ}) in
    let n = ap length (words-none c.args.w.now c.args.r c.loop-x.x-index d) in
    (omega arith, omega arith)
