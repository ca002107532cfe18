-- `encode_file::encode_by` is safe: the sizes of the buffers.
use mathlib.Core.Path.{sym, ◌∙◌}
use Prim.Native.Nat.{◌*◌, ◌≤◌}
use native.Mathlib.Nat.{le_trans}
use native.Mathlib.Omega.{arith}
use Rattle.encode_file.proofs.Sizes.{sizes}
use Rattle.encode_file.proofs.encode_by.Goals as goal

pub overflow_mul-whole : goal.overflow_mul-whole
overflow_mul-whole g c = rw c.places.ensures (let z = (sizes c.args.plan.now.words.now c.args.s c.args.plan.now.formed (sym c.outside.ensures ∙ c.if-outside.false)).block in omega arith)

pub overflow_mul-info_count : goal.overflow_mul-info_count
overflow_mul-info_count g c = rw c.info_count.ensures (let z = sizes c.args.plan.now.words.now c.args.s c.args.plan.now.formed (sym c.outside.ensures ∙ c.if-outside.false) in omega (arith, z.block, z.information))

pub overflow_mul-gap : goal.overflow_mul-gap
overflow_mul-gap g c = rw c.gap.ensures (let z = sizes c.args.plan.now.words.now c.args.s c.args.plan.now.formed (sym c.outside.ensures ∙ c.if-outside.false) in omega (arith, z.block, z.scratch))

pub encode_within-requires : goal.encode_within-requires
encode_within-requires g c =
    let z = sizes c.args.plan.now.words.now c.args.s c.args.plan.now.formed (sym c.outside.ensures ∙ c.if-outside.false) in
    let s = c.args.s in
    let n = c.places in
    let k = c.info_count in
    let most : n.result * s ≤ 32768 = c.if-whole-gt-MOST_BLOCK.false in
    let i : k.result * s ≤ n.result * s = rw (k.ensures, n.ensures) z.information in
    let g : c.gap.result * s ≤ n.result * s = rw (c.gap.ensures, n.ensures) z.scratch in
    (le_trans i most, most, le_trans g most)
