-- What was read of a file is no longer than its buffer.
use mathlib.Core.Path.{◌≡◌}
use mathlib.Core.List.{List}
use Prim.Native.Nat.{ℕ, ◌≤◌}
use native.Mathlib.Omega.{arith}
use lib.ListN.{length, take}
use Rattle.text.specs.Files.{ReadInto, read_count}
use Rattle.std.specs.declared.option.Option.{Option}
use Rattle.std.specs.declared.option.Option.TheVariants.{Some}

pub read-within : {r : Option ℕ} {n : ℕ} (buf : List ℕ) (k : ℕ) → ReadInto r buf → r ≡ Some n → length buf ≡ k → length (take n buf) ≤ k
read-within {r} {n} buf k h e l = let a = read_count buf h e in let b = a.0 in let d = a.1 in omega arith
