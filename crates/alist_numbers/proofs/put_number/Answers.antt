-- `put_number` meets its contract: at most two digits, or those before the last two.
use mathlib.Core.Path.{◌≡◌}
use Prim.Native.Nat.{◌/◌, ◌≤◌}
use native.Mathlib.Omega.{arith}
use Rattle.alist_numbers.specs.PutLaws.{put_last, put_same}
use Rattle.alist_numbers.proofs.put_number.Goals as goal

pub put_byte-next-requires : goal.put_byte-next-requires
put_byte-next-requires c = let h = c.requires.1 in let p = (c.put_two-next.ensures 1 (omega arith)).1 in omega arith

pub put_byte-requires : goal.put_byte-requires
put_byte-requires c = let h = c.requires.1 in let p = (c.put_two-next.ensures 1 (omega arith)).1 in let e = c.put_byte-next.ensures.ends in omega arith

pub returns : goal.returns
returns c =
    let x = c.args.x in
    let h : 100 ≤ x = c.if-x-lt100.false in
    let d : x / 100 ≡ x / 10 / 10 = omega arith in
    put_last _ x c.digit-2.ensures (omega arith) (put_last _ (x / 10) c.digit.ensures (omega arith) (put_same d c.put_two-next.ensures) c.put_byte-next.ensures) c.put_byte.ensures
