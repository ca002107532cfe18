-- Turns in any order: what every order keeps, how long it goes, and where it ends. Restoring is one of the orders.
use Rattle.std.specs.Prelude.{◌≡◌, refl, Bool, true, false, List, [], ◌∷◌, ◌⊎◌, ℕ, zero, suc, ◌+◌, ◌<◌, ◌≤◌, eqb, length, get_or}
use Rattle.std.proofs.Common.{sym, ap, ◌∙◌, subst, true≢false, inl, inr, arith}
use Rattle.std.proofs.Math.Option.{Option, none, some}
use Rattle.erasure.specs.LostLaws.{lost_in, no-lost}
use Rattle.erasure.specs.Orders.{Ready, Turns, Turns.stay, Turns.more, taken, spent, Ended}
use Rattle.erasure.specs.Restoring.{State, is_lost, lost_places, ready, turn, restoring, Stopping}
use Rattle.erasure.specs.Turn.{turn-length, turn-map, turn-sized, turn-within, turn-left, place-lost, turn-kept, turn-same, turn-mark, turn_one, turn-never}
use Rattle.lists.specs.ListLaws.{all-member}
use Rattle.lists.specs.Lists.{In, In.here, In.there, All, All.nil, All.cons}
use Rattle.lists.specs.Tests.{eqb-true, eqb-false, by_bool, by_opt}
use Rattle.table.specs.Packets.{Packets}

-- ---- the end
-- where every check has none or at least two lost places, no turn can be taken
pub ended-stays : {s : ℕ} {cs : List (List ℕ)} {m e : State} → Ended cs m → Turns s cs m e → e ≡ m
ended-stays end stay = refl
ended-stays end (more c i one t) = absurd (omega (arith, all-member end i))

-- the lowest ready check is one of the checks, and ready
pub ready-is : (map : List ℕ) (cs : List (List ℕ)) (c : List ℕ) → ready map cs ≡ some c → In c cs × Ready map c
ready-is map [] c e = absurd (let z : ◌≡◌ {A = ℕ} 0 1 = cc in omega arith)
ready-is map (x ∷ cs) c e = by_bool (eqb (length (lost_places map x)) 1)
    (λ t. subst (λ y. In y (x ∷ cs) × Ready map y) (inj (rw (t, ready) at e)) (here, eqb-true (length (lost_places map x)) 1 t))
    (λ t. let r = ready-is map cs c (rw (t, ready) at e) in (there r.0, r.1))
  where
    inj : {u v : List ℕ} → ◌≡◌ {A = Option (List ℕ)} (some u) (some v) → u ≡ v
    inj k = cc

-- if there is none, the turns have ended
pub none-ended : (cs : List (List ℕ)) (m : State) → ready m.map cs ≡ none → Ended cs m
none-ended [] m e = nil
none-ended (c ∷ cs) m e = by_bool (eqb (length (lost_places m.map c)) 1)
    (λ t. absurd (clash (rw (t, ready) at e)))
    (λ t. cons (eqb-false (length (lost_places m.map c)) 1 t) (none-ended cs m (rw (t, ready) at e)))
  where
    clash : ◌≡◌ {A = Option (List ℕ)} (some c) none → ⊥
    clash p = let z : ◌≡◌ {A = ℕ} 0 1 = cc in omega arith

-- so a turn can be taken, or they have
pub goes_on : (cs : List (List ℕ)) (m : State) → ((c : List ℕ) × (In c cs × Ready m.map c)) ⊎ Ended cs m
goes_on cs m = by_opt (ready m.map cs) (λ c r. inl (c, ready-is m.map cs c r)) (λ r. inr (none-ended cs m r))

-- ---- restoring is one of the orders
pub restoring-turns : (k s : ℕ) (cs : List (List ℕ)) (m : State) → Turns s cs m (restoring k s cs m)
restoring-turns zero s cs m = stay
restoring-turns (suc k) s cs m = by_opt (ready m.map cs)
    (λ c r. let w = ready-is m.map cs c r in rw (r, restoring) (more c w.0 w.1 (restoring-turns k s cs (turn s c m))))
    (λ r. rw (r, restoring) stay)

-- with a turn for each lost place it comes to the end
pub restoring-ends : (k s : ℕ) (cs : List (List ℕ)) (m : State) → lost_in m.map ≤ k → Ended cs (restoring k s cs m)
restoring-ends zero s cs m h = by_opt (ready m.map cs)
    (λ c r. absurd (true≢false (sym (place-lost m.map c (ready-is m.map cs c r).1) ∙ no-lost m.map (omega arith) _)))
    (λ r. none-ended cs m r)
restoring-ends (suc k) s cs m h = by_opt (ready m.map cs)
    (λ c r. let one = turn_one s c m (ready-is m.map cs c r).1 in rw (r, restoring) (restoring-ends k s cs (turn s c m) (omega arith)))
    (λ r. rw (r, restoring) (none-ended cs m r))

-- ---- turns after turns, and among more checks
pub turns_then : {s : ℕ} {cs : List (List ℕ)} {m e f : State} → Turns s cs m e → Turns s cs e f → Turns s cs m f
turns_then stay u = u
turns_then (more c i one t) u = more c i one (turns_then t u)

pub turns-among : {s : ℕ} {cs ds : List (List ℕ)} → ((c : List ℕ) → In c cs → In c ds) → {m e : State} → Turns s cs m e → Turns s ds m e
turns-among h stay = stay
turns-among h (more c i one t) = more c (h c i) one (turns-among h t)

-- ---- what every order keeps
module _ {s : ℕ} {cs : List (List ℕ)} where
  -- as many packets and map bytes
  pub turns-length : {m e : State} → Turns s cs m e → length e.block ≡ length m.block
  turns-length stay = refl
  turns-length {m} (more c i one t) = turns-length t ∙ turn-length s c m

  pub turns-map : {m e : State} → Turns s cs m e → length e.map ≡ length m.map
  turns-map stay = refl
  turns-map {m} (more c i one t) = turns-map t ∙ turn-map s c m

  -- packets of s bytes
  pub turns-sized : {m e : State} (n : ℕ) → All (λ c. All (λ p. p < n) c) cs → Turns s cs m e → length m.block ≡ n → Packets s m.block → Packets s e.block
  turns-sized n low stay l w = w
  turns-sized {m} n low (more c i one t) l w =
      turns-sized n low t (turn-length s c m ∙ l) (turn-sized s c m (subst (λ k. All (λ p. p < k) c) (sym l) (all-member low i)) w)

  -- nothing becomes lost
  pub turns-within : {m e : State} → Turns s cs m e → (p : ℕ) → is_lost e.map p ≡ true → is_lost m.map p ≡ true
  turns-within stay p h = h
  turns-within {m} (more c i one t) p h = turn-within s c m p (turns-within t p h)

  -- a known place keeps its mark and its packet
  pub turns_same : {m e : State} → Turns s cs m e → (p : ℕ) → is_lost m.map p ≡ false → get_or e.map p 0 ≡ get_or m.map p 0
  turns_same stay p h = refl
  turns_same {m} (more c i one t) p h = let same = turn-same s c m one p h in turns_same t p (ap (λ v. eqb v 1) same ∙ h) ∙ same

  pub turns-kept : {m e : State} → Turns s cs m e → (p : ℕ) → is_lost m.map p ≡ false → get_or e.block p [] ≡ get_or m.block p []
  turns-kept stay p h = refl
  turns-kept {m} (more c i one t) p h = turns-kept t p (ap (λ v. eqb v 1) (turn-same s c m one p h) ∙ h) ∙ turn-kept s c m one p h

  -- a place that stays lost is not written
  pub turns-left : {m e : State} → Turns s cs m e → (p : ℕ) → is_lost e.map p ≡ true → get_or e.block p [] ≡ get_or m.block p []
  turns-left stay p h = refl
  turns-left {m} (more c i one t) p h = turns-left t p h ∙ turn-left s c m p (turns-within t p h)

  -- a lost place that is no longer lost is marked 2
  pub turns-mark : {m e : State} → Turns s cs m e → (p : ℕ) → is_lost m.map p ≡ true → is_lost e.map p ≡ false → get_or e.map p 0 ≡ 2
  turns-mark stay p h z = absurd (true≢false (sym h ∙ z))
  turns-mark {m} (more c i one t) p h z = by_bool (is_lost (turn s c m).map p)
      (λ y. turns-mark t p y z)
      (λ y. turns_same t p y ∙ turn-mark s c m one p h y)

  -- a stopping set within the lost places stays lost
  pub turns-never : {m e : State} → Turns s cs m e → (S : ℕ → Bool) → Stopping cs S → ((p : ℕ) → S p ≡ true → is_lost m.map p ≡ true)
      → (p : ℕ) → S p ≡ true → is_lost e.map p ≡ true
  turns-never stay S st h = h
  turns-never {m} (more c i one t) S st h = turns-never t S st (turn-never s c m one S (all-member st i) h)

  -- every turn restores one lost place
  pub turns-taken : {m e : State} (t : Turns s cs m e) → length (taken t) + lost_in e.map ≡ lost_in m.map
  turns-taken stay = omega arith
  turns-taken {m} (more c i one t) = let h = turns-taken t in let k = turn_one s c m one in omega arith

  -- and costs its check's weight less 1
  pub turns-spend : {m e : State} (t : Turns s cs m e) → e.adds ≡ m.adds + spent (taken t)
  turns-spend stay = omega arith
  turns-spend (more c i one t) = let h = turns-spend t in omega arith
