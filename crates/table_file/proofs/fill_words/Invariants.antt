-- `table_file::fill_words` meets its contract. The loop's invariant: the first i words are the file's.
use mathlib.Core.Path.{◌≡◌}
use Prim.Native.Nat.{ℕ, ◌+◌, ◌-◌, ◌*◌, ◌≤◌, ◌<◌}
use lib.ListN.{length, get_or}
use Rattle.table_file.proofs.fill_words.Given as goal

abbrev pub invariant-loop-i : goal.invariant-loop-i
invariant-loop-i l = (length l.words ≡ length l.initial.words) × ((k : ℕ) → k < l.i → get_or l.words k 0 ≡ get_or l.file (2 * k) 0 + get_or l.file (2 * k + 1) 0 * 256)
