-- Restoring, as one order of turns: it keeps the shape of block and map, writes no received place and marks what it restores.
use Rattle.std.specs.Prelude.{◌≡◌, refl, true, false, List, [], ℕ, zero, suc, ◌<◌, ◌≤◌, length, get_or}
use Rattle.std.proofs.Math.Option.{none, some}
use Rattle.std.proofs.Common.{arith}
use Rattle.erasure.specs.LostLaws.{lost_in}
use Rattle.erasure.proofs.OrderLaws.{ready-is, restoring-turns, turns-length, turns-map, turns-sized, turns-within, turns_same, turns-kept, turns-left, turns-mark, turns-taken}
use Rattle.erasure.specs.Restoring.{State, is_lost, lost_places, ready, turn, restoring}
use Rattle.erasure.specs.Turn.{turn_one}
use Rattle.lists.specs.Lists.{All}
use Rattle.lists.specs.Tests.{by_opt}
use Rattle.table.specs.Packets.{Packets}

-- a ready check has one lost place
pub ready-one : (lost : List ℕ) (cs : List (List ℕ)) (c : List ℕ) → ready lost cs ≡ some c → length (lost_places lost c) ≡ 1
ready-one lost cs c r = (ready-is lost cs c r).1

-- without a ready check no turn is taken
pub restoring_none : (k s : ℕ) (cs : List (List ℕ)) (m : State) → ready m.map cs ≡ none → restoring k s cs m ≡ m
restoring_none zero s cs m r = refl
restoring_none (suc k) s cs m r = rw (r, restoring)

module _ (k s : ℕ) (cs : List (List ℕ)) (m : State) where
  -- as many packets and map bytes
  pub restoring-length : length (restoring k s cs m).block ≡ length m.block
  restoring-length = turns-length (restoring-turns k s cs m)

  pub restoring-map : length (restoring k s cs m).map ≡ length m.map
  restoring-map = turns-map (restoring-turns k s cs m)

  -- nothing becomes lost
  pub restoring-within : (p : ℕ) → is_lost (restoring k s cs m).map p ≡ true → is_lost m.map p ≡ true
  restoring-within = turns-within (restoring-turns k s cs m)

  pub restoring-fewer : lost_in (restoring k s cs m).map ≤ lost_in m.map
  restoring-fewer = let h = turns-taken (restoring-turns k s cs m) in omega arith

  -- a place that was not lost keeps its mark and its packet
  pub restoring-same : (p : ℕ) → is_lost m.map p ≡ false → get_or (restoring k s cs m).map p 0 ≡ get_or m.map p 0
  restoring-same = turns_same (restoring-turns k s cs m)

  pub restoring-kept : (p : ℕ) → is_lost m.map p ≡ false → get_or (restoring k s cs m).block p [] ≡ get_or m.block p []
  restoring-kept = turns-kept (restoring-turns k s cs m)

  -- a place that stays lost is not written
  pub restoring-left : (p : ℕ) → is_lost (restoring k s cs m).map p ≡ true → get_or (restoring k s cs m).block p [] ≡ get_or m.block p []
  restoring-left = turns-left (restoring-turns k s cs m)

  -- a lost place stays lost or is marked 2
  pub restoring-mark : (p : ℕ) → is_lost m.map p ≡ true → is_lost (restoring k s cs m).map p ≡ false → get_or (restoring k s cs m).map p 0 ≡ 2
  restoring-mark = turns-mark (restoring-turns k s cs m)

-- packets of s bytes
pub restoring-sized : (n k s : ℕ) (cs : List (List ℕ)) → All (λ c. All (λ p. p < n) c) cs → (m : State) → length m.block ≡ n → Packets s m.block → Packets s (restoring k s cs m).block
restoring-sized n k s cs low m = turns-sized n low (restoring-turns k s cs m)

-- more turns than lost places change nothing
pub restoring-enough : (k s : ℕ) (cs : List (List ℕ)) (m : State) → lost_in m.map ≤ k → restoring k s cs m ≡ restoring (lost_in m.map) s cs m
restoring-enough k s cs m h = go k (lost_in m.map) m h refl
  where
    go : (k j : ℕ) (m : State) → j ≤ k → j ≡ lost_in m.map → restoring k s cs m ≡ restoring j s cs m
    go zero zero m h e = refl
    go zero (suc j) m h e = absurd (omega arith)
    go (suc k) zero m h e = by_opt (ready m.map cs)
        (λ c r. let one = turn_one s c m (ready-one m.map cs c r) in absurd (omega arith))
        (λ r. rw (r, restoring))
    go (suc k) (suc j) m h e = by_opt (ready m.map cs)
        (λ c r. let one = turn_one s c m (ready-one m.map cs c r) in
        rw (r, restoring) (go k j (turn s c m) (omega arith) (omega arith)))
        (λ r. rw (r, restoring))
