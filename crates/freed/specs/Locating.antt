-- An accepted table, and where the places of its checks start.
use Rattle.std.specs.Prelude.{◌≡◌, List, ℕ, refl}
use Rattle.std.proofs.Common.{◌∙◌}
use Rattle.table.specs.Accepted.{Accepted, Located}
use Rattle.table.specs.Checks.{Starts}
use Rattle.table.specs.Table.{number, places}

pub located : {t : List ℕ} {m n s : ℕ} {starts : List ℕ} → Accepted t m n s → Starts t m starts → Located t m n starts
located k h = record { table = record { accepted = k.accepted; number_is = k.number_is; places-are = k.places-are; size_is = refl }; starts-at = h }

-- for as many counts as places
pub located_for : {t : List ℕ} {m n s k : ℕ} {starts : List ℕ} → k ≡ n → Accepted t m n s → Starts t m starts → Located t m k starts
located_for e k h = record { table = record { accepted = k.accepted; number_is = k.number_is; places-are = e ∙ k.places-are; size_is = refl }; starts-at = h }

-- by the table's own counts
pub located_own : {t : List ℕ} {m n s : ℕ} {starts : List ℕ} → Accepted t m n s → Starts t m starts → Located t (number t) (places t) starts
located_own k h = record { table = record { accepted = k.accepted; number_is = refl; places-are = refl; size_is = refl }; starts-at = rw k.number_is at h }
