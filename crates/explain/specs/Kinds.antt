-- What is told of a lost place, in numbers.
use Rattle.std.specs.Prelude.{ℕ}
use Rattle.explain.specs.declared.Told.{Told}
use Rattle.explain.specs.declared.Told.TheVariants.{Received, Restored, Lost}

-- the kind's number, and the list's length
abbrev pub kind_of : Told → ℕ
kind_of Received = 1
kind_of (Restored n) = 2
kind_of (Lost n) = 3

abbrev pub length_of : Told → ℕ
length_of Received = 0
length_of (Restored n) = n
length_of (Lost n) = n
