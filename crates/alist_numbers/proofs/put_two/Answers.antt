-- `put_two` meets its contract: one digit, or two.
use Prim.Native.Nat.{◌/◌}
use native.Mathlib.Omega.{arith}
use Rattle.alist_numbers.specs.PutLaws.{put_first, put_last}
use Rattle.alist_numbers.proofs.put_two.Goals as goal

pub returns-then-x-lt10 : goal.returns-then-x-lt10
returns-then-x-lt10 c = put_first _ _ c.digit.ensures c.if-x-lt10.true c.put_byte.ensures

pub returns : goal.returns
returns c =
    let x = c.args.x in
    let h = c.requires.1 in
    put_last _ x c.digit-3.ensures c.if-x-lt10.false (put_first _ (x / 10) c.digit-2.ensures (omega arith) c.put_byte-next.ensures) c.put_byte-2.ensures
