-- For each place, the number of live checks that hold it, and the exclusive-or of their numbers.
use Rattle.std.specs.Prelude.{◌≡◌, cond, List, map, ℕ, ◌+◌, ◌-◌, ◌<◌, ◌≤◌, length, get_or}
use Rattle.std.proofs.Math.Option.{Option, none, some}
use Rattle.std.specs.Int.Bits.{bit_xor}
use Rattle.gf2.specs.Gf2.{xor_group, sum_over}
use Rattle.lists.specs.Lists.{has, count}
use Rattle.std.specs.declared.option.Option.{Option as Optional}
use Rattle.std.specs.declared.option.Option.TheVariants.{Some, None}

-- c is c₀ with f done at each place of ps
pub record Upd (f : ℕ → ℕ) (c₀ ps c : List ℕ) : Type 0 where
  pub len : length c ≡ length c₀
  pub each : (p : ℕ) → get_or c p 0 ≡ cond (has p ps) (f (get_or c₀ p 0)) (get_or c₀ p 0)

-- f is done to the count of each place of ps, and j is added to its name
pub record Marked (f : ℕ → ℕ) (c₀ x₀ ps : List ℕ) (j : ℕ) (c x : List ℕ) : Type 0 where
  pub counts : Upd f c₀ ps c
  pub names : Upd (λ a. bit_xor a j) x₀ ps x

-- check j, with the places ps, becomes live
abbrev pub Noted : (c₀ x₀ ps : List ℕ) (j : ℕ) (c x : List ℕ) → Type 0
Noted = Marked (λ a. a + 1)

-- .. and is no longer live
abbrev pub Forgot : (c₀ x₀ ps : List ℕ) (j : ℕ) (c x : List ℕ) → Type 0
Forgot = Marked (λ a. a - 1)

unfoldable pub found : Option ℕ → Optional ℕ
found (some p) = Some p
found none = None

-- c and x tell of the checks g j, j in JS
pub record Tally (g : ℕ → List ℕ) (JS : List ℕ) (c x : List ℕ) : Type 0 where
  pub counts : (p : ℕ) → get_or c p 0 ≡ count (has p) (map g JS)
  pub names : (p : ℕ) → get_or x p 0 ≡ sum_over xor_group (λ (j : ℕ). cond (has p (g j)) j 0) JS

-- no place from top on lies in exactly one live check
pub record Calm (c : List ℕ) (top : ℕ) : Type 0 where
  pub most : top ≤ length c
  pub above : (p : ℕ) → top ≤ p → get_or c p 0 ≡ 1 → ⊥

-- r is top, raised above each of weight places of t from at that lies in exactly one live check
pub record Raised (c t : List ℕ) (at weight top r : ℕ) : Type 0 where
  pub low : top ≤ r
  pub most : r ≤ length c
  pub above : (i : ℕ) → i < weight → get_or c (get_or t (at + i) 0) 0 ≡ 1 → get_or t (at + i) 0 < r

-- the same of places as a list
pub record RaisedOver (c ps : List ℕ) (top r : ℕ) : Type 0 where
  pub low : top ≤ r
  pub most : r ≤ length c
  pub above : (i : ℕ) → i < length ps → get_or c (get_or ps i 0) 0 ≡ 1 → get_or ps i 0 < r
