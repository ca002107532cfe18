-- A block's packets and bytes after one packet is set.
use Rattle.std.specs.Prelude.{◌≡◌, List, ℕ, ◌*◌, ◌<◌, length, set}
use Rattle.std.proofs.Common.{sym, ap, ◌∙◌, subst, length-set}
use Rattle.lists.specs.ListLaws.{all_set}
use Rattle.lists.specs.Lists.{written}
use Rattle.table.specs.BufferLaws.{set-written}
use Rattle.table.specs.PacketLaws.{packets-length, packets-sized, packets-joined, packets-of, joined_length}
use Rattle.table.specs.Packets.{Packets, packets, joined}

module _ (s n : ℕ) (b : List ℕ) (bytes : length b ≡ n * s) (i : ℕ) (v : List ℕ) (inside : i < n) (long : length v ≡ s) where
  set-sized : Packets s (set (packets s n b) i v)
  set-sized = all_set (packets-sized s n b bytes) i v long

  set-count : length (set (packets s n b) i v) ≡ n
  set-count = length-set (packets s n b) i v ∙ packets-length s n b

  -- written at its place
  pub written-set : written b (i * s) v ≡ joined (set (packets s n b) i v)
  written-set = ap (λ c. written c (i * s) v) (sym (packets-joined s n b bytes)) ∙ sym (set-written s (packets-sized s n b bytes) i v (subst (λ k. i < k) (sym (packets-length s n b)) inside) long)

  pub packets-set : packets s n (joined (set (packets s n b) i v)) ≡ set (packets s n b) i v
  packets-set = packets-of s n set-count set-sized

  pub bytes-set : length (joined (set (packets s n b) i v)) ≡ n * s
  bytes-set = joined_length s set-sized ∙ ap (λ k. k * s) set-count
