-- The additions of turns in any order (document 02, C-23): "at most W0 less the number of checks that aren't empty".
use Rattle.std.specs.Prelude.{◌≡◌, true, false, cond, List, [], ◌∷◌, ℕ, suc, ◌+◌, ◌-◌, ◌≤◌, eqb, length}
use Rattle.std.proofs.Common.{ap, arith}
use Rattle.erasure.specs.Orders.{Ready, Turns, Turns.stay, Turns.more, non_empty}
use Rattle.erasure.specs.Passing.{filter-mono}
use Rattle.erasure.specs.Restoring.{State, is_lost, lost_places, none_lost, turn}
use Rattle.erasure.specs.Turn.{turn-within, turn-none}
use Rattle.lists.specs.Lists.{In, In.here, In.there, count}
use Rattle.lists.specs.Tests.{eqb-true, eqb-false, eqb-gt, by_bool}
use Rattle.table.specs.Table.{ones}

-- what check c may still cost: nothing without a lost place, else weight − 1
abbrev cost_of : List ℕ → List ℕ → ℕ
cost_of map c = cond (none_lost map c) 0 (length c - 1)

-- and all checks
abbrev cost : List ℕ → List (List ℕ) → ℕ
cost map [] = 0
cost map (c ∷ cs) = cost_of map c + cost map cs

-- with fewer lost places no more
module _ (few many : List ℕ) (within : (p : ℕ) → is_lost few p ≡ true → is_lost many p ≡ true) where
  check-less : (c : List ℕ) → cost_of few c ≤ cost_of many c
  check-less c = let k = filter-mono (is_lost few) (is_lost many) within c in
      by_bool (none_lost few c)
      (λ e. rw e (omega arith))
      (λ e. by_bool (none_lost many c)
      (λ z. absurd (let a = eqb-false (length (lost_places few c)) 0 e in let b = eqb-true (length (lost_places many c)) 0 z in omega arith))
      (λ z. rw (e, z) (omega arith)))

  checks-less : (cs : List (List ℕ)) → cost few cs ≤ cost many cs
  checks-less [] = omega arith
  checks-less (c ∷ cs) = let a = check-less c in let b = checks-less cs in omega arith

-- a turn pays for itself: its check has no lost place left
turn-pays : (s : ℕ) (c : List ℕ) (m : State) → Ready m.map c → {cs : List (List ℕ)} → In c cs → (length c - 1) + cost (turn s c m).map cs ≤ cost m.map cs
turn-pays s c m one (here {l = cs}) =
    let after : none_lost (turn s c m).map c ≡ true = ap (λ x. eqb x 0) (turn-none s c m one) in
    let before : none_lost m.map c ≡ false = ap (λ x. eqb x 0) one in
    let k = checks-less (turn s c m).map m.map (turn-within s c m) cs in
    rw (after, before) (omega arith)
turn-pays s c m one (there {y = x} {l = cs} i) =
    let k = check-less (turn s c m).map m.map (turn-within s c m) x in
    let h = turn-pays s c m one i in omega arith

-- what was added and what may still be: never more
turns-pay : {s : ℕ} {cs : List (List ℕ)} {m e : State} → Turns s cs m e → e.adds + cost e.map cs ≤ m.adds + cost m.map cs
turns-pay stay = omega arith
turns-pay {s} {cs} {m} (more c i one t) = let h = turns-pay t in let k = turn-pays s c m one i in omega arith

-- an empty check costs nothing, another at most its weight less 1
cost-most : (map : List ℕ) (cs : List (List ℕ)) → cost map cs + non_empty cs ≤ ones cs
cost-most map [] = omega arith
cost-most map ([] ∷ cs) = let h = cost-most map cs in omega arith
cost-most map ((p ∷ c) ∷ cs) = let h = cost-most map cs in
    let some-place = eqb-gt (length (p ∷ c)) 0 (omega arith) in
    let counts : non_empty ((p ∷ c) ∷ cs) ≡ suc (non_empty cs) = rw (some-place, count) in
    by_bool (none_lost map (p ∷ c))
    (λ e. rw e (omega arith))
    (λ e. rw e (omega arith))

-- the additions of all turns
pub turns-most : {s : ℕ} {cs : List (List ℕ)} {m e : State} → Turns s cs m e → e.adds + non_empty cs ≤ m.adds + ones cs
turns-most {cs} {m} t = let h = turns-pay t in let k = cost-most m.map cs in omega arith
