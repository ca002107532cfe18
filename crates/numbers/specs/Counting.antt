-- Counting the numbers of a text.
use Rattle.std.specs.Prelude.{Some, None, true, false, List, ℕ, zero, suc, ◌+◌, length}
use Rattle.std.specs.declared.option.Option.{Option as Counted}
use Rattle.std.proofs.Math.Option.{Option, none, some}
use Rattle.numerals.specs.Numerals.{is_digit}
use Rattle.numbers.specs.Numbers.{is_gap}

-- after d digits of a number and byte b: how many digits; 7 for what is no number
unfoldable pub digits_after : ℕ → ℕ → ℕ
digits_after d b = elim (is_digit b) [ true ↦ d + 1 | false ↦ elim (is_gap b) [ true ↦ 0 | false ↦ 7 ] ]

-- 1 if a number of d digits ends where e digits are next, else 0
abbrev pub ends_here : ℕ → ℕ → ℕ
ends_here zero e = 0
ends_here (suc d) zero = 1
ends_here (suc d) (suc e) = 0

-- how many numbers were read, if they could be
abbrev pub count_of : Option (List ℕ) → Counted ℕ
count_of none = None
count_of (some l) = Some (length l)
