-- One turn, by any check with exactly one lost place: what stays lost, what is kept, what is restored. The laws of every order of turns cite
-- these, and restoring is one of the orders.
use Rattle.std.specs.Prelude.{◌≡◌, Bool, true, false, cond, not, List, [], ◌∷◌, ◌≢◌, ℕ, suc, ◌<◌, eqb, length, get_or, set}
use Rattle.std.proofs.Common.{sym, ap, ◌∙◌, subst, true≢false, arith, length-set, get_or-set_same, get_or-set_other}
use Rattle.erasure.specs.LostLaws.{lost_in, lost-inside, set-gone, set-lost, restore-one}
use Rattle.erasure.specs.Orders.{Ready}
use Rattle.erasure.specs.Passing.{first_passes, filter-one}
use Rattle.erasure.specs.Restoring.{State, is_lost, lost_places, turn}
use Rattle.lists.specs.ListLaws.{all_filter, all_set}
use Rattle.lists.specs.Lists.{has, filter, minus, All}
use Rattle.lists.specs.Tests.{eqb-true, eqb-false, by_bool}
use Rattle.table.specs.PacketLaws.{sum_view}
use Rattle.table.specs.Packets.{Packets, packet_sum}

-- the place that a check restores is lost
pub place-lost : (map c : List ℕ) → Ready map c → is_lost map (get_or (lost_places map c) 0 0) ≡ true
place-lost map c one = first_passes (is_lost map) c (omega (arith, one))

module _ (s : ℕ) (c : List ℕ) (m : State) where
  -- as many packets and map bytes
  pub turn-length : length (turn s c m).block ≡ length m.block
  turn-length = length-set m.block _ _

  pub turn-map : length (turn s c m).map ≡ length m.map
  turn-map = length-set m.map _ 2

  -- packets of s bytes: the one that is restored, and all
  pub turn-packet : All (λ p. p < length m.block) c → Packets s m.block → length (packet_sum s m.block (minus c (get_or (lost_places m.map c) 0 0 ∷ []))) ≡ s
  turn-packet low w = (sum_view s w (all_filter (λ p. not (has p (get_or (lost_places m.map c) 0 0 ∷ []))) low)).0

  pub turn-sized : All (λ p. p < length m.block) c → Packets s m.block → Packets s (turn s c m).block
  turn-sized low w = all_set w _ _ (turn-packet low w)

  -- nothing becomes lost
  pub turn-within : (p : ℕ) → is_lost (turn s c m).map p ≡ true → is_lost m.map p ≡ true
  turn-within p h = set-lost m.map _ p h

  -- a place that stays lost is not written
  pub turn-left : (p : ℕ) → is_lost (turn s c m).map p ≡ true → get_or (turn s c m).block p [] ≡ get_or m.block p []
  turn-left p h = get_or-set_other m.block _ p _ [] (λ e. true≢false (sym h ∙ ap (is_lost (turn s c m).map) e ∙ set-gone m.map _))

  module _ (one : Ready m.map c) where
    -- the place that is restored
    abbrev place : ℕ
    place = get_or (lost_places m.map c) 0 0

    -- a known place is another
    known-other : (p : ℕ) → is_lost m.map p ≡ false → p ≢ place
    known-other p h e = true≢false (sym (place-lost m.map c one) ∙ ap (is_lost m.map) (sym e) ∙ h)

    -- a known place keeps its packet and its mark
    pub turn-kept : (p : ℕ) → is_lost m.map p ≡ false → get_or (turn s c m).block p [] ≡ get_or m.block p []
    turn-kept p h = get_or-set_other m.block place p _ [] (known-other p h)

    pub turn-same : (p : ℕ) → is_lost m.map p ≡ false → get_or (turn s c m).map p 0 ≡ get_or m.map p 0
    turn-same p h = get_or-set_other m.map place p 2 0 (known-other p h)

    -- a lost place that is no longer lost is marked 2
    pub turn-mark : (p : ℕ) → is_lost m.map p ≡ true → is_lost (turn s c m).map p ≡ false → get_or (turn s c m).map p 0 ≡ 2
    turn-mark p h e = by_bool (eqb p place)
        (λ z. subst (λ x. get_or (set m.map place 2) x 0 ≡ 2) (sym (eqb-true p place z)) (get_or-set_same m.map place 2 0 (lost-inside m.map place (place-lost m.map c one))))
        (λ z. absurd (true≢false (sym h ∙ ap (λ v. eqb v 1) (sym (get_or-set_other m.map place p 2 0 (eqb-false p place z))) ∙ e)))

    -- one lost place less
    pub turn_one : suc (lost_in (turn s c m).map) ≡ lost_in m.map
    turn_one = restore-one m.map place (place-lost m.map c one)

    -- and none is left in the check
    pub turn-none : length (lost_places (turn s c m).map c) ≡ 0
    turn-none = filter-one (is_lost m.map) (is_lost (turn s c m).map) c (omega (arith, one)) turn-within ∙ ap (λ v. cond v 1 0) (set-gone m.map place)

    -- a set within the lost places that the check doesn't meet in exactly one stays lost
    pub turn-never : (S : ℕ → Bool) → length (filter S c) ≢ 1 → ((p : ℕ) → S p ≡ true → is_lost m.map p ≡ true)
        → (p : ℕ) → S p ≡ true → is_lost (turn s c m).map p ≡ true
    turn-never S ne h p e = ap (λ v. eqb v 1) (get_or-set_other m.map place p 2 0 (λ z. true≢false (sym e ∙ ap S z ∙ out))) ∙ h p e
      where
        out : S place ≡ false
        out = by_bool (S place) (λ t. absurd (ne (filter-one (is_lost m.map) S c (omega (arith, one)) h ∙ ap (λ v. cond v 1 0) t))) (λ t. t)
