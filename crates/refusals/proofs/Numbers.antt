-- Laws of the causes' numbers.
use Rattle.std.specs.Prelude.{◌≡◌, ℕ, List, [], ◌∷◌, get_or}
use Rattle.refusals.specs.declared.Refusal.{Refusal}
use Rattle.refusals.specs.declared.Refusal.TheVariants.{ShortTable, Limits, Lengths, Places, Buffer, Aside, Map, Contradiction, NoCodeword, Plan, NoPlace, Staircase, AlistText, AlistLists, NoReason, NotLonger, OldMap}
use Rattle.refusals.specs.Refusals.{number_of, check_of, byte_of}
use Rattle.std.proofs.Common.{refl, sym, ap, ◌∙◌, arith}

-- no cause has number 0
pub number-some : (r : Refusal) → number_of r ≡ 0 → ⊥
number-some ShortTable h = omega arith
number-some Limits h = omega arith
number-some Lengths h = omega arith
number-some Places h = omega arith
number-some Buffer h = omega arith
number-some Aside h = omega arith
number-some Map h = omega arith
number-some (Contradiction f) h = omega arith
number-some NoCodeword h = omega arith
number-some Plan h = omega arith
number-some NoPlace h = omega arith
number-some Staircase h = omega arith
number-some AlistText h = omega arith
number-some AlistLists h = omega arith
number-some NoReason h = omega arith
number-some NotLonger h = omega arith
number-some OldMap h = omega arith

-- only 8 hands on a check and a byte
pub nothing-on : (r : Refusal) → (number_of r ≡ 8 → ⊥) → (check_of r ≡ 0) × (byte_of r ≡ 0)
nothing-on (Contradiction f) h = absurd (h refl)
nothing-on _ h = (refl, refl)

-- the cause with a number
abbrev cause_of : ℕ → Refusal
cause_of n = get_or (NoCodeword ∷ ShortTable ∷ Limits ∷ Lengths ∷ Places ∷ Buffer ∷ Aside ∷ Map ∷ NoCodeword ∷ Plan ∷ NoPlace ∷ Staircase ∷ AlistText ∷ AlistLists ∷ NoReason ∷ NotLonger ∷ OldMap ∷ []) n NoCodeword

cause_is : (r : Refusal) → (number_of r ≡ 8 → ⊥) → cause_of (number_of r) ≡ r
cause_is (Contradiction f) h = absurd (h refl)
cause_is NoCodeword h = absurd (h refl)
cause_is ShortTable h = refl
cause_is Limits h = refl
cause_is Lengths h = refl
cause_is Places h = refl
cause_is Buffer h = refl
cause_is Aside h = refl
cause_is Map h = refl
cause_is Plan h = refl
cause_is NoPlace h = refl
cause_is Staircase h = refl
cause_is AlistText h = refl
cause_is AlistLists h = refl
cause_is NoReason h = refl
cause_is NotLonger h = refl
cause_is OldMap h = refl

-- but for 8, which has two, a number tells the cause
pub number-tells : (r q : Refusal) → (number_of r ≡ 8 → ⊥) → number_of r ≡ number_of q → r ≡ q
number-tells r q h e = sym (cause_is r h) ∙ ap cause_of e ∙ cause_is q (λ z. h (e ∙ z))
