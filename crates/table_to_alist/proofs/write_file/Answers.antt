-- `table_to_alist::write_file` is safe: its buffer holds the longest text.
use mathlib.Core.Path.{sym}
use Prim.Native.Nat.{ℕ}
use native.Mathlib.Omega.{arith}
use lib.ListN.{length-replicate}
use Rattle.table_to_alist.proofs.TextWritten.{long-enough}
use Rattle.table_to_alist.proofs.write_file.Goals as goal

pub slice_bounds-write_text-end : goal.slice_bounds-write_text-end
slice_bounds-write_text-end g c = sym (length-replicate {0} {A = ℕ} _ 0)

pub write_text-requires : goal.write_text-requires
write_text-requires g c = long-enough 1200000 0 (omega arith)
