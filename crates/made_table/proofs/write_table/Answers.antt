-- `made_table::write_table` is safe: the bytes of an accepted table lie within the file's buffer.
use mathlib.Core.Path.{sym}
use native.Mathlib.Omega.{arith}
use Rattle.made_table.proofs.Long.{long, file-part}
use Rattle.made_table.proofs.write_table.Goals as goal

pub slice_bounds-file-end : goal.slice_bounds-file-end
slice_bounds-file-end g c = let l = (long c.args.table.now c.requires).most in omega arith

pub slice_bounds-write_bytes-end : goal.slice_bounds-write_bytes-end
slice_bounds-write_bytes-end g c = file-part c.args.table.now 0 c.requires

pub write_bytes-requires : goal.write_bytes-requires
write_bytes-requires g c = record { accepted = c.requires; room = sym (file-part c.args.table.now 0 c.requires) }
