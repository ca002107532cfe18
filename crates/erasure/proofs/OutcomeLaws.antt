-- What restoring comes to: its counts and its shape.
use Rattle.std.specs.Prelude.{◌≡◌, refl, cond, List, [], ◌∷◌, ℕ, suc, ◌-◌, ◌*◌, ◌<◌, ◌≤◌, eqb, length, get_or, replicate}
use Rattle.std.proofs.Common.{sym, ap, ◌∙◌, arith}
use Rattle.std.proofs.lemmas.List.{length-replicate}
use Rattle.lists.specs.Tests.{eqb_comm, by_bool}
use Rattle.lists.specs.Lists.{filter, All, All.nil, All.cons}
use Rattle.table.specs.PacketCall.{part_at}
use Rattle.table.specs.PacketLaws.{packets-length, packets-sized, packets-of, packet-at}
use Rattle.table.specs.Packets.{Packets, packets, joined}
use Rattle.table.specs.Table.{places, size, checks, refusal}
use Rattle.table.specs.TableLaws.{accepted}
use Rattle.erasure.specs.LostLaws.{lost_in}
use Rattle.erasure.specs.Restoring.{zero_lost, tally, outcome}
use Rattle.erasure.proofs.RestoringLaws.{restoring-length, restoring-sized, restoring-fewer}
use Rattle.erasure.proofs.Tally.{restored_in, restored-and-lost}
use Rattle.erasure.proofs.Values.{zero_lost-length}

-- counted either way
pub tally-lost : (l : List ℕ) → tally 1 l ≡ lost_in l
tally-lost [] = refl
tally-lost (x ∷ l) = by_bool (eqb x 1)
    (λ e. rw (eqb_comm 1 x, e, filter, lost_in) (ap suc (tally-lost l)))
    (λ e. rw (eqb_comm 1 x, e, filter, lost_in) (tally-lost l))

pub tally-restored : (l : List ℕ) → tally 2 l ≡ restored_in l
tally-restored [] = refl
tally-restored (x ∷ l) = by_bool (eqb x 2)
    (λ e. rw (eqb_comm 2 x, e, filter, restored_in) (ap suc (tally-restored l)))
    (λ e. rw (eqb_comm 2 x, e, filter, restored_in) (tally-restored l))

-- ---- the shape of zero_lost and of the outcome
pub zero_lost-sized : (s : ℕ) (lost : List ℕ) {b : List (List ℕ)} → Packets s b → Packets s (zero_lost s lost b)
zero_lost-sized s [] w = w
zero_lost-sized s (l ∷ ls) nil = nil
zero_lost-sized s (l ∷ ls) (cons {x = p} h a) = cons {x = cond (eqb l 1) (replicate s 0) p} (by_bool (eqb l 1) (λ e. rw e (length-replicate s 0)) (λ e. rw e h)) (zero_lost-sized s ls a)

module _ (t b map : List ℕ) (ok : refusal t ≡ 0) (fits : length b ≡ places t * size t) where
  -- the packets that repair starts with
  pub start-length : length (zero_lost (size t) map (packets (size t) (places t) b)) ≡ places t
  start-length = zero_lost-length (size t) map (packets (size t) (places t) b) ∙ packets-length (size t) (places t) b

  pub start-sized : Packets (size t) (zero_lost (size t) map (packets (size t) (places t) b))
  start-sized = zero_lost-sized (size t) map (packets-sized (size t) (places t) b fits)

  -- those that it ends with
  pub outcome-length : length (outcome t b map).block ≡ places t
  outcome-length = restoring-length (places t) (size t) (checks t) _ ∙ start-length

  pub outcome-sized : Packets (size t) (outcome t b map).block
  outcome-sized = restoring-sized (places t) (places t) (size t) (checks t) (accepted t ok).low _ start-length start-sized

-- ---- the counts
-- no turn makes a place lost
pub tally-fewer : (t b map : List ℕ) → tally 1 (outcome t b map).map ≤ tally 1 map
tally-fewer t b map = rw (tally-lost (outcome t b map).map, tally-lost map) (restoring-fewer (places t) (size t) (checks t) _)

-- of a map of bytes 0 and 1, lost before less lost after are those marked 2
pub tally-two : (t b map : List ℕ) → All (λ x. x ≤ 1) map → tally 1 map - tally 1 (outcome t b map).map ≡ tally 2 (outcome t b map).map
tally-two t b map a = rw (tally-lost map, tally-lost (outcome t b map).map, tally-restored (outcome t b map).map)
    (omega (arith, restored-and-lost (places t) (size t) (checks t) (packets (size t) (places t) b) map a))

-- the packet of a place among packets in a row
pub part-joined : (s n : ℕ) (ps : List (List ℕ)) → length ps ≡ n → Packets s ps → (p : ℕ) → p < n → part_at s p (joined ps) ≡ get_or ps p []
part-joined s n ps l w p h = sym (packet-at s n (joined ps) p h) ∙ ap (λ q. get_or q p []) (packets-of s n l w)
