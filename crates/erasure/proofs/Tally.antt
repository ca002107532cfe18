-- Repair's counts: what is restored and what stays lost together is what was lost.
use Rattle.std.specs.Prelude.{◌≡◌, refl, true, false, List, [], ◌∷◌, ℕ, zero, suc, ◌+◌, ◌≤◌, eqb, set}
use Rattle.std.proofs.Common.{ap, ◌∙◌, arith}
use Rattle.std.proofs.lemmas.Bool.{false≢true}
use Rattle.erasure.specs.LostLaws.{lost_in}
use Rattle.erasure.proofs.OrderLaws.{restoring-turns}
use Rattle.erasure.specs.Orders.{Turns, Turns.stay, Turns.more}
use Rattle.erasure.specs.Restoring.{State, is_lost, start, repaired}
use Rattle.erasure.specs.Turn.{place-lost, turn_one}
use Rattle.lists.specs.Lists.{All, All.nil, All.cons}
use Rattle.lists.specs.Tests.{eqb-true, by_bool}

-- places whose map byte is 2
abbrev pub restored_in : List ℕ → ℕ
restored_in [] = 0
restored_in (x ∷ l) = elim (eqb x 2) [ true ↦ suc (restored_in l) | false ↦ restored_in l ]

-- a restored place counts
restore-two : (l : List ℕ) (p : ℕ) → is_lost l p ≡ true → restored_in (set l p 2) ≡ suc (restored_in l)
restore-two [] p h = absurd (false≢true h)
restore-two (x ∷ l) zero h = let f : eqb x 2 ≡ false = ap (λ y. eqb y 2) (eqb-true x 1 h) in rw (f, restored_in)
restore-two (x ∷ l) (suc p) h = let ih = restore-two l p h in by_bool (eqb x 2) (λ e. rw (e, restored_in) (omega arith)) (λ e. rw (e, restored_in) ih)

-- no turn changes the sum
pub turns-tally : {s : ℕ} {cs : List (List ℕ)} {m e : State} → Turns s cs m e → restored_in e.map + lost_in e.map ≡ restored_in m.map + lost_in m.map
turns-tally stay = refl
turns-tally {s} {m} (more c i one t) =
    let less = turn_one s c m one in
    let two = restore-two m.map _ (place-lost m.map c one) in
    turns-tally t ∙ (omega arith)

pub repaired-tally : (n s : ℕ) (cs b : List (List ℕ)) (lost : List ℕ)
    → restored_in (repaired n s cs b lost).map + lost_in (repaired n s cs b lost).map ≡ restored_in lost + lost_in lost
repaired-tally n s cs b lost = turns-tally (restoring-turns n s cs (start s b lost))

-- at the start there is none
pub none-restored : {l : List ℕ} → All (λ x. x ≤ 1) l → restored_in l ≡ 0
none-restored nil = refl
none-restored (cons {x = x} h a) = by_bool (eqb x 2) (λ e. let q = eqb-true x 2 e in absurd (omega arith)) (λ e. rw (e, restored_in) (none-restored a))

-- for a map of bytes 0 and 1
pub restored-and-lost : (n s : ℕ) (cs b : List (List ℕ)) (lost : List ℕ) → All (λ x. x ≤ 1) lost
    → restored_in (repaired n s cs b lost).map + lost_in (repaired n s cs b lost).map ≡ lost_in lost
restored-and-lost n s cs b lost h = repaired-tally n s cs b lost ∙ let z = none-restored h in omega arith
