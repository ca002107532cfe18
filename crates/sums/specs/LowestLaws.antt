-- Laws of the lowest byte that isn't zero, for a test whether there is one.
use Rattle.std.specs.Prelude.{◌≡◌, true, false, List, ℕ, length}
use Rattle.std.proofs.Common.{sym, arith}
use Rattle.std.proofs.lemmas.Bool.{false≢true}
use Rattle.std.specs.Option.{is_some}
use Rattle.std.specs.declared.option.Option.{Option}
use Rattle.std.specs.declared.option.Option.TheVariants.{None, Some}
use Rattle.sums.specs.Lowest.{LowestByte}
use Rattle.table.specs.Packets.{lowest_nonzero}

pub none-lowest : (x : List ℕ) (r : Option ℕ) → is_some r ≡ false → LowestByte x r → lowest_nonzero x ≡ length x
none-lowest x None e h = h
none-lowest x (Some i) e h = absurd (false≢true (sym e))

pub some-lowest : (x : List ℕ) (r : Option ℕ) → is_some r ≡ true → LowestByte x r → lowest_nonzero x ≡ length x → ⊥
some-lowest x None e h = absurd (false≢true e)
some-lowest x (Some i) e h = λ l. omega (arith, h.0, h.1, l)
