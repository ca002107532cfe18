-- A number in decimal digits, read and written.
use Rattle.std.specs.Prelude.{Option, Some, None, Bool, true, false, not, ◌&&◌, List, [], ◌∷◌, ◌++◌, ℕ, zero, suc, ◌+◌, ◌-◌, ◌*◌, ◌/◌, ◌%◌, eqb, ltb, leb, length}
use Rattle.lists.specs.Lists.{all_pass}

-- ---- read
-- the greatest number that is read: 2^64 − 1
abbrev pub most_number : ℕ
most_number = 18446744073709551615

-- the bytes of the digits 0 to 9
abbrev pub is_digit : ℕ → Bool
is_digit byte = leb 48 byte && leb byte 57

-- what digits come to after x
abbrev pub value_after : ℕ → List ℕ → ℕ
value_after x [] = x
value_after x (byte ∷ text) = value_after (x * 10 + (byte - 48)) text

-- a number: digits, at least one, that come to at most 2^64 − 1
abbrev pub is_number : List ℕ → Bool
is_number text = not (eqb (length text) 0) && (all_pass is_digit text && leb (value_after 0 text) most_number)

-- the number, or none
unfoldable pub number_of : List ℕ → Option ℕ
number_of text = elim (is_number text) [ true ↦ Some (value_after 0 text) | false ↦ None ]

-- ---- written
-- the decimal digits of x, the most significant first, where x has at most k of them
unfoldable pub digits_within : ℕ → ℕ → List ℕ
digits_within zero x = []
digits_within (suc k) x = elim (ltb x 10) [ true ↦ (48 + x) ∷ [] | false ↦ digits_within k (x / 10) ++ ((48 + x % 10) ∷ []) ]

-- a number below 2 ^ 64 in decimal: it has at most 20 digits
abbrev pub decimal : ℕ → List ℕ
decimal x = digits_within 20 x
