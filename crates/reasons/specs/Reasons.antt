-- The reason for one place after full repair (document 02, C-21): checks cs over n places, the map as it was lent ("lost" is 1 there), a place p.
use Rattle.std.specs.Prelude.{◌≡◌, Bool, true, false, List, [], ◌∷◌, map, ℕ, ◌%◌, ◌^◌, ◌<◌, eqb, length, get_or}
use Rattle.decided.specs.Decided.{lost_row, decided}
use Rattle.erasure.specs.Restoring.{is_lost}
use Rattle.gf2.specs.Gf2.{xor_group, bool_group, sum_over, is_zero, choose, mask_for}
use Rattle.lists.specs.Lists.{has, par, count, from, All, Up}

-- ---- the used checks
-- the lost places of check j, as a row
abbrev pub row_at : List ℕ → List (List ℕ) → ℕ → ℕ
row_at lost cs j = lost_row lost (get_or cs j [])

-- "A check is used if its lost places aren't the sum of those of lower used checks": their numbers, ascending
abbrev pub used : List ℕ → List (List ℕ) → List ℕ
used lost cs = choose xor_group is_zero (row_at lost cs) [] (from 0 (length cs))

-- ---- a restored place
-- what a mask names
abbrev pub named : {X : Type 0} → List Bool → List X → List X
named m [] = []
named [] (x ∷ xs) = []
named (true ∷ m) (x ∷ xs) = x ∷ named m xs
named (false ∷ m) (x ∷ xs) = named m xs

-- the used checks whose lost places sum to this place alone
abbrev pub restored_by : List ℕ → List (List ℕ) → ℕ → List ℕ
restored_by lost cs p = named (mask_for (map (row_at lost cs) (used lost cs)) (2 ^ p)) (used lost cs)

-- the same in the words of the request: "it lists used checks only, ascending, whose sum holds that place and otherwise only received places"
pub record Restores (lost : List ℕ) (cs : List (List ℕ)) (p : ℕ) (L : List ℕ) : Type 0 where
  pub used-only : All (λ j. has j (used lost cs) ≡ true) L
  pub ascending : Up 0 L
  pub sum : (q : ℕ) → is_lost lost q ≡ true → sum_over bool_group (λ j. par q (get_or cs j [])) L ≡ eqb q p

-- ---- a lost place
-- "a set of lost places with this one in it that every check meets an even number of times"
pub record EvenSet (n : ℕ) (cs : List (List ℕ)) (lost : List ℕ) (p : ℕ) (S : ℕ → Bool) : Type 0 where
  pub low : (q : ℕ) → S q ≡ true → q < n
  pub within : (q : ℕ) → S q ≡ true → is_lost lost q ≡ true
  pub holds : S p ≡ true
  pub even : All (λ c. count S c % 2 ≡ 0) cs

-- "of two such sets, the one without the highest place in which they differ"
pub record LeastEven (n : ℕ) (cs : List (List ℕ)) (lost : List ℕ) (p : ℕ) (S : ℕ → Bool) : Type 0 where
  pub evenly : EvenSet n cs lost p S
  pub least : (T : ℕ → Bool) → EvenSet n cs lost p T → (d : ℕ) → (S d ≡ T d → ⊥) → ((q : ℕ) → d < q → S q ≡ T q) → S d ≡ false

-- ---- the kind of the reason, and its list
-- 1 received, 2 restored, 3 lost
abbrev pub kind_of : List ℕ → List (List ℕ) → ℕ → ℕ
kind_of lost cs p =
    elim (is_lost lost p) [
      | true ↦
          elim (decided lost cs p) [ true ↦ 2 | false ↦ 3 ]
      | false ↦ 1
    ]

-- L is the list for the place
pub record Listed (n : ℕ) (cs : List (List ℕ)) (lost : List ℕ) (p : ℕ) (L : List ℕ) : Type 0 where
  pub received : is_lost lost p ≡ false → L ≡ []
  pub restored : is_lost lost p ≡ true → decided lost cs p ≡ true → L ≡ restored_by lost cs p
  pub lost-up : is_lost lost p ≡ true → decided lost cs p ≡ false → Up 0 L
  pub lost-least : is_lost lost p ≡ true → decided lost cs p ≡ false → LeastEven n cs lost p (λ q. has q L)
