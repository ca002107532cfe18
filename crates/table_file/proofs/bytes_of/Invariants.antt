-- `table_file::bytes_of` meets its contract. The loop's invariant: the first i words stand in the file.
use Prim.Native.Nat.{◌-◌}
use lib.ListN.{length}
use Rattle.table_file.proofs.Laws.{Bytes}
use Rattle.table_file.proofs.bytes_of.Given as goal

abbrev pub invariant-loop-i : goal.invariant-loop-i
invariant-loop-i l = Bytes l.words l.file l.i
