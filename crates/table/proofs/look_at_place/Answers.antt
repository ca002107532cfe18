-- `packet_refusal` meets its contract: n times s is formed once n and s are within their limits.
use native.Mathlib.Omega.{arith}
use Rattle.table.proofs.Calling.{product, refuse-places, refuse-bytes, refuse-length, refuse-place, refuse-none}
use Rattle.table.proofs.look_at_place.Goals as goal

pub returns-then-outside : goal.returns-then-outside
returns-then-outside c = refuse-places c.args.n c.args.s c.args.place c.args.len _ c.outside.ensures c.if-outside.true

pub returns-then-outside-2 : goal.returns-then-outside-2
returns-then-outside-2 c = refuse-bytes c.args.n c.args.s c.args.place c.args.len _ c.outside-2.ensures c.if-outside-2.true

pub overflow_mul-bytes : goal.overflow_mul-bytes
overflow_mul-bytes c = let p = product c.args.n c.args.s _ _ c.outside.ensures c.if-outside.false c.outside-2.ensures c.if-outside-2.false in omega arith

pub returns-then-len-bytes : goal.returns-then-len-bytes
returns-then-len-bytes c = refuse-length c.args.n c.args.s c.args.place c.args.len _ _ c.outside.ensures c.if-outside.false c.outside-2.ensures c.if-outside-2.false c.if-len-bytes.true

pub returns-then-n-place : goal.returns-then-n-place
returns-then-n-place c = refuse-place c.args.n c.args.s c.args.place c.args.len _ _ c.outside.ensures c.if-outside.false c.outside-2.ensures c.if-outside-2.false c.if-len-bytes.false c.if-n-place.true

pub returns : goal.returns
returns c = refuse-none c.args.n c.args.s c.args.place c.args.len _ _ c.outside.ensures c.if-outside.false c.outside-2.ensures c.if-outside-2.false c.if-len-bytes.false c.if-n-place.false
