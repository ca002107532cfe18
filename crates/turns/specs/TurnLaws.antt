-- What the turns and the look at the checks after them both need: check j by its number.
use Rattle.std.specs.Prelude.{◌≡◌, List, [], ℕ, ◌<◌, get_or}
use Rattle.std.proofs.Common.{sym, ap, ◌∙◌, subst}
use Rattle.table.specs.Accepted.{Accepted}
use Rattle.table.specs.Checks.{check}
use Rattle.table.specs.ChecksLaws.{checks-at}
use Rattle.table.specs.Table.{checks}

pub at-check : (t : List ℕ) (m n s : ℕ) → Accepted t m n s → (j : ℕ) → j < m → get_or (checks t) j [] ≡ check t m j
at-check t m n s k j h = checks-at t k.accepted j (subst (λ x. j < x) k.number_is h) ∙ ap (λ x. check t x j) (sym k.number_is)
