-- What loops fill: a table with packets of one byte, one byte position of a block.
use mathlib.Core.Path.{◌≡◌, sym, ◌∙◌}
use mathlib.Core.List.{List}
use Prim.Native.Nat.{ℕ, ◌+◌, ◌*◌, ◌<◌}
use native.Mathlib.Omega.{arith}
use lib.ListN.{length, get_or}
use lib.Seq.{ext_get_or}
use Rattle.table.specs.ByteLaws.{bytes-length, byte_at}
use Rattle.table.specs.Packets.{bytes_at}

pub filled-table : (t small : List ℕ) → length small ≡ length t → ((k : ℕ) → k < length t → get_or small k 0 ≡ get_or t k 0) → small ≡ t
filled-table t small long all = ext_get_or 0 small t long (λ k h. all k (omega arith))

pub filled-column : (b column : List ℕ) (n s j : ℕ) → length column ≡ n → j < s → ((k : ℕ) → k < n → get_or column k 0 ≡ get_or b (k * s + j) 0) → column ≡ bytes_at s n j b
filled-column b column n s j long below all = ext_get_or 0 column (bytes_at s n j b) (long ∙ sym (bytes-length s n j b)) (λ k h. let l : k < n = omega arith in all k l ∙ sym (byte_at s n j b k l below))
