-- Places and a block, seen as a run of places in a table that is these places alone.
use Rattle.std.specs.Prelude.{◌≡◌, List, ℕ, ◌+◌, length, get_or, take, drop}
use Rattle.std.proofs.Common.{arith, take_all, refl, ap, ◌∙◌}
use Rattle.lists.specs.ListLaws.{all-at}
use Rattle.packets.specs.Given.{Given, sum_at}
use Rattle.table.specs.PacketLaws.{packets-length, packets-sized, sum_view}
use Rattle.table.specs.Checks.{CheckIn}
use Rattle.table.specs.SumLaws.{check-below}

pub whole : (places : List ℕ) → take (length places) (drop 0 places) ≡ places
whole places = take_all (length places) places (omega arith)

-- place i of the run
pub here : (places : List ℕ) (i q : ℕ) → q ≡ get_or places i 0 → q ≡ get_or places (0 + i) 0
here places i q e = e ∙ ap (λ k. get_or places k 0) {x = i} {y = 0 + i} (omega arith)

pub as-check : (places b : List ℕ) (n s : ℕ) → Given places b n s → CheckIn places 0 (length places) b n s
as-check places b n s g = record { room = omega arith; below = λ i h. rw (← here places i (get_or places i 0) refl) (all-at 0 g.below i h); bytes = g.bytes }

pub sum-long : (places b : List ℕ) (n s : ℕ) → Given places b n s → length (sum_at places b n s) ≡ s
sum-long places b n s g = (sum_view s (packets-sized s n b g.bytes) {c = places} (rw (packets-length s n b) g.below)).0

-- a run of places of a table
pub of-check : (t : List ℕ) (at weight : ℕ) (b : List ℕ) (n s : ℕ) → CheckIn t at weight b n s → Given (take weight (drop at t)) b n s
of-check t at weight b n s ok = record { below = check-below t at weight b n s ok; bytes = ok.bytes }
