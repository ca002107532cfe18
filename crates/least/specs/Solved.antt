-- A set of bits, and what solving leaves of it.
use Rattle.std.specs.Prelude.{◌≡◌, Bool, false, List, ℕ, length, get_or}
use Rattle.gf2.specs.Gf2.{bool_group}
use Rattle.gf2.specs.Solving.{solve}

-- bit q is in the set
abbrev pub in_set : List Bool → ℕ → Bool
in_set set q = get_or set q false

-- set' is the set with every bit below n that leads a row solved
pub record Solved (f : ℕ → ℕ) (n : ℕ) (set set' : List Bool) : Type 0 where
  pub len : length set' ≡ length set
  pub bits : (q : ℕ) → in_set set' q ≡ solve bool_group f (λ p. false) (in_set set) n q
