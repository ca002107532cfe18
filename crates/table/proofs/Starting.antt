-- Laws of the list of starts.
use mathlib.Core.Path.{◌≡◌, ◌∙◌}
use mathlib.Core.List.{List}
use Prim.Native.Nat.{ℕ, ◌+◌, ◌<◌, ◌≤◌}
use native.Mathlib.Omega.{arith}
use borrow.Author.Count.{below_more}
use lib.ListN.{length, get_or, set}
use lib.Seq.{get_or-set_same, get_or-set_other}
use Rattle.table.specs.Accepted.{Accepted}
use Rattle.table.specs.Checks.{offset}
use Rattle.table.specs.ChecksLaws.{start_small}
use Rattle.table.specs.Table.{places, size}

-- the first j starts are written
abbrev pub Written : List ℕ → ℕ → ℕ → List ℕ → Type 0
Written t m j starts = (k : ℕ) → k < j → get_or starts k 0 ≡ 5 + m + offset t k

-- one start more
pub written-more : (t : List ℕ) (m j at : ℕ) (starts : List ℕ) → j < length starts → at ≡ 5 + m + offset t j → Written t m j starts → Written t m (j + 1) (set starts j at)
written-more t m j at starts h e w = below_more _ j (λ k l. get_or-set_other starts j k at 0 (λ z. absurd (omega arith)) ∙ w k l) (get_or-set_same starts j at 0 h ∙ e)

-- it fits a word
pub start_fits : (t : List ℕ) (m j at : ℕ) → Accepted t m (places t) (size t) → j ≤ m → at ≡ 5 + m + offset t j → at ≤ 6661
start_fits t m j at k h a = let e = k.number_is in let s = start_small t k.accepted j (omega arith) in omega arith
