-- What is offered, by its tests; a map of 0 and 1 byte by byte; what is handed on.
use Rattle.std.specs.Prelude.{◌≡◌, false, List, [], ◌∷◌, ℕ, ◌*◌, ◌<◌, ◌≤◌, eqb, ltb, length, get_or}
use Rattle.std.proofs.Common.{sym, subst, arith, eq-eqb, ltb-false}
use Rattle.std.proofs.Math.Option.{Option, none}
use Rattle.std.proofs.lemmas.Bool.{not-false}
use Rattle.erasure.specs.Offered.{wrong_lengths, byte_over, handed_on, Fitting, Agree}
use Rattle.erasure.proofs.OutcomeLaws.{outcome-length, outcome-sized}
use Rattle.erasure.specs.Restoring.{outcome, is_lost, AgreeThere}
use Rattle.faults.specs.Faults.{Fault}
use Rattle.lists.specs.ListLaws.{all_read}
use Rattle.lists.specs.Lists.{any_of, All, All.nil, All.cons}
use Rattle.lists.specs.Tests.{eqb-true, eqb-false, or-false-l, or-false-r}
use Rattle.table.specs.FirstCause.{wrong_length}
use Rattle.table.specs.Packets.{Packets}
use Rattle.table.specs.Table.{places, size, checks, refusal}
use Rattle.table.specs.TableLaws.{accepted}

-- ---- no cause up to 7
pub lengths-right : (t b map : List ℕ) → length b ≡ places t * size t → length map ≡ places t → wrong_lengths t b map ≡ false
lengths-right t b map lb lm = rw (eq-eqb (length b) (places t * size t) lb, eq-eqb (length map) (places t) lm)

pub lengths-fit : (t b map : List ℕ) → wrong_lengths t b map ≡ false → (length b ≡ places t * size t) × (length map ≡ places t)
lengths-fit t b map w = (
  eqb-true (length b) (places t * size t) (not-false (eqb (length b) (places t * size t)) (or-false-l (wrong_length (length b) (places t * size t)) _ w)),
  eqb-true (length map) (places t) (not-false (eqb (length map) (places t)) (or-false-r (wrong_length (length b) (places t * size t)) _ w)),
)

pub offer-fits : (t b map : List ℕ) → refusal t ≡ 0 → wrong_lengths t b map ≡ false → byte_over map ≡ false → Fitting t b map
offer-fits t b map ok w o = let l = lengths-fit t b map w in record { table = ok; block = l.0; map-length = l.1; map-bytes = o }

-- ---- the map's bytes
pub bytes-all : (map : List ℕ) → any_of (ltb 1) map ≡ false → All (λ x. x ≤ 1) map
bytes-all [] h = nil
bytes-all (x ∷ l) h = cons (ltb-false 1 x (or-false-l (ltb 1 x) (any_of (ltb 1) l) h)) (bytes-all l (or-false-r (ltb 1 x) (any_of (ltb 1) l) h))

pub byte_at : {map : List ℕ} → All (λ x. x ≤ 1) map → (p : ℕ) → get_or map p 0 ≤ 1
byte_at a p = all_read 0 a (omega arith) p

-- one that isn't lost is received
pub lost-byte : {map : List ℕ} → All (λ x. x ≤ 1) map → (p : ℕ) → is_lost map p ≡ false → get_or map p 0 ≡ 0
lost-byte {map} a p e = let k = byte_at a p in let z = eqb-false (get_or map p 0) 1 e in omega arith

pub agree-there : (t b map : List ℕ) → Fitting t b map → (w : List ℕ) → Agree t b map w → AgreeThere t b map w
agree-there t b map f w a p h e = a p h (lost-byte (bytes-all map f.map-bytes) p e)

-- ---- the restored packets, and the places of the checks
module _ (t b map : List ℕ) (f : Fitting t b map) where
  pub sized : Packets (size t) (outcome t b map).block
  sized = outcome-sized t b map f.table f.block

  pub low : All (λ c. All (λ p. p < length (outcome t b map).block) c) (checks t)
  low = subst (λ k. All (λ c. All (λ p. p < k) c) (checks t)) (sym (outcome-length t b map f.table f.block)) (accepted t f.table).low

-- ---- what is handed on
pub none-handed : (r : ℕ) (f : Option Fault) → eqb r 8 ≡ false → handed_on r f ≡ none
none-handed r f e = rw (e, handed_on)
