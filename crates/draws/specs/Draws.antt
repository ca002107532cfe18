-- One draw below max, from the generator's value and the draws left before it to those after it.
use Rattle.std.specs.Prelude.{◌≡◌, ℕ, suc, ◌<◌}
use Rattle.draws.specs.Generator.{modulus, next, drawn}

pub record Draws (max raw left value raw' left' : ℕ) : Type 0 where
  pub value-is : value ≡ drawn max (next raw)
  pub raw-is : raw' ≡ next raw
  pub left_is : left ≡ suc left'
  pub below : value < max
  pub small : raw' < modulus
