-- `alist_to_table::by_file` is safe: its buffer has its length.
use mathlib.Core.Path.{sym}
use Prim.Native.Nat.{ℕ}
use lib.ListN.{length-replicate}
use Rattle.alist_to_table.proofs.by_file.Goals as goal

pub slice_bounds-by_buffer-end : goal.slice_bounds-by_buffer-end
slice_bounds-by_buffer-end g c = sym (length-replicate {0} {A = ℕ} _ 0)
