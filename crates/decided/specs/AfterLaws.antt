-- Packets and marks afterwards, place by place.
use Rattle.std.specs.Prelude.{◌≡◌, true, false, List, [], ℕ, ◌<◌, get_or, replicate}
use Rattle.decided.specs.Decided.{decided, value, packet_after, mark_after, solved_block, solved_map}
use Rattle.erasure.specs.Restoring.{is_lost}
use Rattle.lists.specs.Numbers.{map-from-at}

module _ (s : ℕ) (cs b : List (List ℕ)) (lost : List ℕ) (p : ℕ) where
  -- decided
  pub after-decided : is_lost lost p ≡ true → decided lost cs p ≡ true → packet_after s cs b lost p ≡ value s cs b lost p
  after-decided e d = rw (e, packet_after, d)

  -- still lost
  pub after-lost : is_lost lost p ≡ true → decided lost cs p ≡ false → packet_after s cs b lost p ≡ replicate s 0
  after-lost e d = rw (e, packet_after, d)

  -- received
  pub after-received : is_lost lost p ≡ false → packet_after s cs b lost p ≡ get_or b p []
  after-received e = rw (e, packet_after)

module _ (cs : List (List ℕ)) (lost : List ℕ) (p : ℕ) where
  -- decided
  pub mark-decided : is_lost lost p ≡ true → decided lost cs p ≡ true → mark_after cs lost p ≡ 2
  mark-decided e d = rw (e, mark_after, d)

  -- still lost
  pub mark-lost : is_lost lost p ≡ true → decided lost cs p ≡ false → mark_after cs lost p ≡ 1
  mark-lost e d = rw (e, mark_after, d)

  -- received
  pub mark-received : is_lost lost p ≡ false → mark_after cs lost p ≡ get_or lost p 0
  mark-received e = rw (e, mark_after)

-- ---- block and map
module _ (n s : ℕ) (cs b : List (List ℕ)) (lost : List ℕ) where
  pub solved-at : (p : ℕ) → p < n → get_or (solved_block n s cs b lost) p [] ≡ packet_after s cs b lost p
  solved-at p h = map-from-at (packet_after s cs b lost) [] n p h

module _ (n : ℕ) (cs : List (List ℕ)) (lost : List ℕ) where
  pub marks-at : (p : ℕ) → p < n → get_or (solved_map n cs lost) p 0 ≡ mark_after cs lost p
  marks-at p h = map-from-at (mark_after cs lost) 0 n p h
