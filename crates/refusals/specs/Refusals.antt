-- The causes and their numbers (document 01, the table of causes, and document 02).
use Rattle.std.specs.Prelude.{ℕ}
use Rattle.std.specs.declared.result.Result.{Result}
use Rattle.std.specs.declared.result.Result.TheVariants.{Ok, Err}
use Rattle.refusals.specs.declared.Refusal.{Refusal}
use Rattle.refusals.specs.declared.Refusal.TheVariants.{ShortTable, Limits, Lengths, Places, Buffer, Aside, Map, Contradiction, NoCodeword, Plan, NoPlace, Staircase, AlistText, AlistLists, NoReason, NotLonger, OldMap}

abbrev pub number_of : Refusal → ℕ
number_of ShortTable = 1
number_of Limits = 2
number_of Lengths = 3
number_of Places = 4
number_of Buffer = 5
number_of Aside = 6
number_of Map = 7
number_of (Contradiction f) = 8
number_of NoCodeword = 8
number_of Plan = 9
number_of NoPlace = 10
number_of Staircase = 11
number_of AlistText = 12
number_of AlistLists = 13
number_of NoReason = 14
number_of NotLonger = 15
number_of OldMap = 16

-- the check and the byte that a refusal hands on, 0 where there are none
abbrev pub check_of : Refusal → ℕ
check_of (Contradiction f) = f.check
check_of _ = 0

abbrev pub byte_of : Refusal → ℕ
byte_of (Contradiction f) = f.byte
byte_of _ = 0

-- the number of what a call answers: 0 where it doesn't refuse
abbrev pub refusal_of : {T : Type 0} → Result T Refusal → ℕ
refusal_of (Ok x) = 0
refusal_of (Err r) = number_of r
