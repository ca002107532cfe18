-- The largest stopping set among the lost places: there is one and only one, and it is what stays lost.
use Rattle.std.specs.Prelude.{◌≡◌, refl, Bool, true, List, [], ℕ, length}
use Rattle.std.proofs.Common.{sym, ap, ◌∙◌, arith}
use Rattle.erasure.specs.LostLaws.{lost-most}
use Rattle.erasure.proofs.OrderLaws.{restoring-turns, restoring-ends, turns-within, turns-never}
use Rattle.erasure.specs.Orders.{Turns, Ended}
use Rattle.erasure.specs.Restoring.{State, start, repaired, outcome, is_lost, Largest}
use Rattle.lists.specs.ListLaws.{all_map, all_of, filter_same}
use Rattle.lists.specs.Tests.{both_ways}
use Rattle.table.specs.Packets.{packets}
use Rattle.table.specs.Table.{places, size, checks}

-- what turns in any order leave lost at their end
pub ended-largest : (t : List ℕ) {s : ℕ} {m e : State} → Turns s (checks t) m e → Ended (checks t) e → Largest t m.map (is_lost e.map)
ended-largest t u end = record { among = record { stopping = end; lost = turns-within u }; holds = λ S a. turns-never u S a.stopping a.lost }

-- restoring comes to the end, with a turn for each of n places
pub repaired-ends : (n s : ℕ) (cs b : List (List ℕ)) (map : List ℕ) → length map ≡ n → Ended cs (repaired n s cs b map)
repaired-ends n s cs b map long = restoring-ends n s cs (start s b map) (let h = lost-most map in omega arith)

left : (n : ℕ) (t : List ℕ) (b : List (List ℕ)) (map : List ℕ) → length map ≡ n → Largest t map (is_lost (repaired n (size t) (checks t) b map).map)
left n t b map long = ended-largest t (restoring-turns n (size t) (checks t) (start (size t) b map)) (repaired-ends n (size t) (checks t) b map long)

-- what stays lost, whatever was received
pub stays-lost : (t b map : List ℕ) → length map ≡ places t → Largest t map (is_lost (outcome t b map).map)
stays-lost t b map l = left (places t) t (packets (size t) (places t) b) map l

-- there is one, for every table and every map
pub largest-exists : (t map : List ℕ) → (L : ℕ → Bool) × Largest t map L
largest-exists t map = (is_lost (repaired (length map) (size t) (checks t) [] map).map, left (length map) t [] map refl)

-- by another test for the same places
pub largest-same : (t map : List ℕ) (L K : ℕ → Bool) → ((p : ℕ) → L p ≡ K p) → Largest t map L → Largest t map K
largest-same t map L K e l = record {
  among = record {
    stopping = all_map (λ c ne z. ne (ap length (filter_same L K (all_of e c)) ∙ z)) l.among.stopping;
    lost = λ p h. l.among.lost p (e p ∙ h);
  };
  holds = λ S a p h. sym (e p) ∙ l.holds S a p h;
}

-- and only one
pub largest-only : (t map : List ℕ) (L K : ℕ → Bool) → Largest t map L → Largest t map K → (p : ℕ) → L p ≡ K p
largest-only t map L K l k p = both_ways (L p) (K p) (k.holds L l.among p) (l.holds K k.among p)

-- with fewer places lost no other place stays lost
pub largest-within : (t few many : List ℕ) (L K : ℕ → Bool) → Largest t few L → Largest t many K → ((p : ℕ) → is_lost few p ≡ true → is_lost many p ≡ true) → (p : ℕ) → L p ≡ true → K p ≡ true
largest-within t few many L K l k within p h = k.holds L (record { stopping = l.among.stopping; lost = λ q e. within q (l.among.lost q e) }) p h
