-- Where the lowest byte that isn't zero stands; none where all are zero.
use Rattle.std.specs.Prelude.{◌≡◌, List, ℕ, ◌<◌, length}
use Rattle.std.specs.declared.option.Option.{Option}
use Rattle.std.specs.declared.option.Option.TheVariants.{None, Some}
use Rattle.table.specs.Packets.{lowest_nonzero}

abbrev pub LowestByte : List ℕ → Option ℕ → Type 0
LowestByte x None = lowest_nonzero x ≡ length x
LowestByte x (Some i) = (lowest_nonzero x ≡ i) × (i < length x)
