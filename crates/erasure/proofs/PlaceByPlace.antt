-- A block made place by place, f the packet of each of n places: its length, and its packets.
use Rattle.std.specs.Prelude.{◌≡◌, List, [], map as each, ℕ, ◌*◌, ◌<◌, length}
use Rattle.std.proofs.Common.{ap, ◌∙◌, arith}
use Rattle.erasure.proofs.OutcomeLaws.{part-joined}
use Rattle.lists.specs.Buffers.{part_length}
use Rattle.lists.specs.ListLaws.{all_map, map-all}
use Rattle.lists.specs.Lists.{from}
use Rattle.lists.specs.Numbers.{from_all, map-from-at, each-length}
use Rattle.table.specs.BufferLaws.{place-fits}
use Rattle.table.specs.PacketCall.{part_at}
use Rattle.table.specs.PacketLaws.{joined_length}
use Rattle.table.specs.Packets.{Packets, joined}

-- the packets of a block that is lent
pub part-sized : (n s : ℕ) (b : List ℕ) → length b ≡ n * s → (p : ℕ) → p < n → length (part_at s p b) ≡ s
part-sized n s b l p h = part_length b (p * s) s (let k = place-fits p n s h in omega arith)

module _ (n s : ℕ) (f : ℕ → List ℕ) (sized : (p : ℕ) → p < n → length (f p) ≡ s) where
  each-sized : Packets s (each f (from 0 n))
  each-sized = map-all f (all_map (λ p h. let k = h.1 in sized p (omega arith)) (from_all 0 n))

  pub block-length : length (joined (each f (from 0 n))) ≡ n * s
  block-length = joined_length s each-sized ∙ ap (λ k. k * s) (each-length f n)

  -- the packet at a place
  pub block-part : (p : ℕ) → p < n → part_at s p (joined (each f (from 0 n))) ≡ f p
  block-part p h = part-joined s n (each f (from 0 n)) (each-length f n) each-sized p h ∙ map-from-at f [] n p h
