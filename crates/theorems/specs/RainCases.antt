-- Small cases of the facts for the planning desk (document 02, C-23): the bound is met, and what another order may change.
use Rattle.std.specs.Prelude.{◌≡◌, refl, List, [], ◌∷◌, ◌≢◌, ℕ, ◌+◌, get_or}
use Rattle.std.proofs.Common.{ap, arith}
use Rattle.std.proofs.Math.Option.{some}
use Rattle.erasure.specs.Orders.{Turns.stay, Turns.more, Ended, non_empty, FromStart}
use Rattle.erasure.specs.Restoring.{State, contradiction, outcome}
use Rattle.lists.specs.Lists.{In.here, In.there, All.nil, All.cons}
use Rattle.table.specs.Packets.{lowest_nonzero}
use Rattle.table.specs.Table.{checks, ones_count, refusal}

-- ---- the bound is met, with packets of any content: of the checks {0, 1, 2}, {}, {0} and {1} three aren't empty; places 0 and 1 are lost
abbrev four_checks : List ℕ
four_checks = 2 ∷ 3 ∷ 1 ∷ 4 ∷ 3 ∷ 0 ∷ 1 ∷ 1 ∷ 5 ∷ 0 ∷ 1 ∷ 2 ∷ 0 ∷ 1 ∷ []

pub bound-met : (b : List ℕ) → (refusal four_checks ≡ 0) × ((outcome four_checks b (1 ∷ 1 ∷ 0 ∷ [])).adds + non_empty (checks four_checks) ≡ ones_count four_checks)
bound-met b = (refl, refl)

-- ---- two orders from one start, each to its end
pub record TwoOrders (t b map : List ℕ) (e f : State) : Type 0 where
  pub accepted : refusal t ≡ 0
  pub one : FromStart t b map e
  pub one_ended : Ended (checks t) e
  pub other : FromStart t b map f
  pub other-ended : Ended (checks t) f

-- a check without a lost place hasn't exactly one
not-one : ◌≡◌ {A = ℕ} 0 1 → ⊥
not-one z = omega arith

-- where packets contradict, another order may end with another block: checks {0, 1} and {0, 2}, place 0 lost, packets 1 and 2 received
abbrev halves : List ℕ
halves = 2 ∷ 3 ∷ 1 ∷ 2 ∷ 2 ∷ 2 ∷ 4 ∷ 0 ∷ 1 ∷ 0 ∷ 2 ∷ []

abbrev ended_with : ℕ → State
ended_with x = record { block = (x ∷ []) ∷ (1 ∷ []) ∷ (2 ∷ []) ∷ []; map = 2 ∷ 0 ∷ 0 ∷ []; adds = 1 }

pub blocks-differ : TwoOrders halves (9 ∷ 1 ∷ 2 ∷ []) (1 ∷ 0 ∷ 0 ∷ []) (ended_with 1) (ended_with 2) × ((ended_with 1).block ≢ (ended_with 2).block)
blocks-differ = (
  record {
    accepted = refl;
    one = more (0 ∷ 1 ∷ []) here refl stay;
    one_ended = cons not-one (cons not-one nil);
    other = more (0 ∷ 2 ∷ []) (there here) refl stay;
    other-ended = cons not-one (cons not-one nil);
  },
  λ z. let k : ◌≡◌ {A = ℕ} 1 2 = ap (λ b. get_or (get_or b 0 []) 0 0) z in omega arith,
)

-- .. and another check fails
pub faults-differ : (contradiction 1 (checks halves) (ended_with 1) ≡ some (record { check = 1; byte = 0 }))
    × (contradiction 1 (checks halves) (ended_with 2) ≡ some (record { check = 0; byte = 0 }))
unfolding lowest_nonzero
faults-differ = (refl, refl)

-- another order may cost other additions: checks {0} and {0, 1}, place 0 lost
abbrev alone : List ℕ
alone = 2 ∷ 2 ∷ 1 ∷ 2 ∷ 1 ∷ 2 ∷ 3 ∷ 0 ∷ 0 ∷ 1 ∷ []

abbrev ended_at : ℕ → State
ended_at x = record { block = (0 ∷ []) ∷ (0 ∷ []) ∷ []; map = 2 ∷ 0 ∷ []; adds = x }

pub additions-differ : TwoOrders alone (9 ∷ 0 ∷ []) (1 ∷ 0 ∷ []) (ended_at 0) (ended_at 1)
additions-differ = record {
  accepted = refl;
  one = more (0 ∷ []) here refl stay;
  one_ended = cons not-one (cons not-one nil);
  other = more (0 ∷ 1 ∷ []) (there here) refl stay;
  other-ended = cons not-one (cons not-one nil);
}

-- ---- with more received repair may cost more: one check {0, 1, 2, 3}, places 0 and 1 lost, or 0 alone
abbrev one_check : List ℕ
one_check = 2 ∷ 4 ∷ 1 ∷ 1 ∷ 4 ∷ 4 ∷ 0 ∷ 1 ∷ 2 ∷ 3 ∷ []

pub more-may-cost : (b : List ℕ) → ((outcome one_check b (1 ∷ 1 ∷ 0 ∷ 0 ∷ [])).adds ≡ 0) × ((outcome one_check b (1 ∷ 0 ∷ 0 ∷ 0 ∷ [])).adds ≡ 3)
more-may-cost b = (refl, refl)
