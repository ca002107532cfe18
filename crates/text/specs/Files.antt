-- What is read of a file.
use Rattle.std.specs.Prelude.{◌≡◌, List, ℕ}
use Rattle.std.proofs.Common.{subst}
use Rattle.io.specs.Counts.{IsPrefixLen}
use Rattle.std.specs.declared.option.Option.{Option}
use Rattle.std.specs.declared.option.Option.TheVariants.{Some, None}

-- the bytes or words said to be read stand at the start of the buffer
abbrev pub ReadInto : Option ℕ → List ℕ → Type 0
ReadInto None buf = Unit {0}
ReadInto (Some n) buf = IsPrefixLen n buf

pub read_count : {r : Option ℕ} {n : ℕ} (buf : List ℕ) → ReadInto r buf → r ≡ Some n → IsPrefixLen n buf
read_count buf h e = subst (λ (r : Option ℕ). ReadInto r buf) e h
