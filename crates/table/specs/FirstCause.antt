-- The first cause that holds (document 01, the table of causes): "Order: by number, except that 9 comes before 5." A call has a list
-- of causes in its order, each a test and its number; its refusal is the number of the first that holds, 0 for none.
use Rattle.std.specs.Prelude.{◌≡◌, Bool, true, false, cond, not, List, [], ◌∷◌, ◌++◌, map, ◌↔◌, ℕ, eqb}
use Rattle.lists.specs.Lists.{has, All}

abbrev pub first_cause : List (Bool × ℕ) → ℕ
first_cause [] = 0
first_cause (c ∷ cs) = cond c.0 c.1 (first_cause cs)

-- 5, in every call: "a lent buffer of wrong length"
abbrev pub wrong_length : ℕ → ℕ → Bool
wrong_length found exact = not (eqb found exact)

-- ---- what is said of every refusal
-- none of some causes holds
abbrev pub NoneHolds : List (Bool × ℕ) → Type 0
NoneHolds cs = All (λ c. c.0 ≡ false) cs

abbrev pub cause_numbers : List (Bool × ℕ) → List ℕ
cause_numbers cs = map (λ c. c.1) cs

-- r is the refusal by the causes cs: 0 exactly if none holds, a number exactly if its cause holds and none before it, and no other
pub record RefusedBy (r : ℕ) (cs : List (Bool × ℕ)) : Type 0 where
  pub none : (r ≡ 0) ↔ NoneHolds cs
  pub each : (before after : List (Bool × ℕ)) (b : Bool) (k : ℕ) → before ++ ((b, k) ∷ after) ≡ cs → (r ≡ k) ↔ (NoneHolds before × (b ≡ true))
  pub only : has r (0 ∷ cause_numbers cs) ≡ true
