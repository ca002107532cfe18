-- What is decided, over a call that none of 1 to 7 refuses: when no codeword agrees with what was received, when one does, and what they have where.
use Rattle.std.specs.Prelude.{◌≡◌, true, false, List, [], ℕ, ◌<◌, eqb, get_or}
use Rattle.std.proofs.Common.{ap}
use Rattle.decided.specs.Decided.{decided, value, clashes}
use Rattle.decided.proofs.DecidedTheorems.{none-agrees, one-agrees, all_have, decided-exactly}
use Rattle.decided.proofs.PeeledLaws.{beyond-peeling}
use Rattle.erasure.proofs.OfferedLaws.{agree-there}
use Rattle.erasure.specs.Offered.{Fitting, Agree}
use Rattle.erasure.specs.Restoring.{is_lost, outcome, AgreeThere}
use Rattle.lists.specs.Lists.{All}
use Rattle.table.specs.Codewords.{IsCodeword}
use Rattle.table.specs.PacketCall.{part_at}
use Rattle.table.specs.Packets.{packets}
use Rattle.table.specs.Table.{places, size, checks}

module _ (t b map : List ℕ) (f : Fitting t b map) where
  -- not lost and received are the same
  pub there-agree : (w : List ℕ) → AgreeThere t b map w → Agree t b map w
  there-agree w a p h e = a p h (ap (λ x. eqb x 1) e)

  -- "refusal 8 means that no codeword agrees with them"
  pub clash-word : clashes (size t) (checks t) (packets (size t) (places t) b) map ≡ true → (w : List ℕ) → IsCodeword t w → Agree t b map w → ⊥
  clash-word h w c a = none-agrees t b map f.table f.block h w c (agree-there t b map f w a)

  -- else one of bytes does
  pub calm-one : clashes (size t) (checks t) (packets (size t) (places t) b) map ≡ false → All (λ x. x < 256) b
      → (w : List ℕ) × (IsCodeword t w × (Agree t b map w × All (λ x. x < 256) w))
  calm-one h bytes = let e = one-agrees t b map f.table f.block h bytes in (e.0, (e.1.0, (there-agree e.0 e.1.1.0, e.1.1.1)))

  -- a decided place: "all codewords that agree with the received packets agree there", and have its packet
  pub has_value : (p : ℕ) → p < places t → decided map (checks t) p ≡ true → (w : List ℕ) → IsCodeword t w → Agree t b map w
      → part_at (size t) p w ≡ value (size t) (checks t) (packets (size t) (places t) b) map p
  has_value p h d w c a = all_have t b map f.table f.block p h d w c (agree-there t b map f w a)

  -- and the other way: a lost place where all of bytes agree is decided
  pub exactly-decided : clashes (size t) (checks t) (packets (size t) (places t) b) map ≡ false → All (λ x. x < 256) b → (p : ℕ) → p < places t → get_or map p 0 ≡ 1
      → ((u w : List ℕ) → IsCodeword t u → Agree t b map u → All (λ x. x < 256) u → IsCodeword t w → Agree t b map w → All (λ x. x < 256) w → part_at (size t) p u ≡ part_at (size t) p w)
      → decided map (checks t) p ≡ true
  exactly-decided h bytes p l e one = decided-exactly t b map f.table f.block h bytes p l (ap (λ x. eqb x 1) e)
      (λ u w c a x d k y. one u w c (there-agree u a) x d (there-agree w k) y)

  -- what the old repair restores is decided, with the same packet
  pub old-decided : clashes (size t) (checks t) (packets (size t) (places t) b) map ≡ false → (p : ℕ) → p < places t → get_or map p 0 ≡ 1 → is_lost (outcome t b map).map p ≡ false
      → (decided map (checks t) p ≡ true) × (value (size t) (checks t) (packets (size t) (places t) b) map p ≡ get_or (outcome t b map).block p [])
  old-decided calm p h e r = beyond-peeling t b map f.table f.block calm p h (ap (λ x. eqb x 1) e) r
