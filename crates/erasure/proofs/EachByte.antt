-- Restoring packets of s bytes is, at each byte position, restoring packets of one byte: same map, same additions, and the bytes there. It
-- meets no contradiction exactly if none is met at any byte position.
use Rattle.std.specs.Prelude.{◌≡◌, refl, true, List, [], ◌∷◌, ℕ, zero, suc, ◌*◌, ◌<◌, eqb, length, get_or, set}
use Rattle.std.proofs.Common.{sym, ap, ap₂, ◌∙◌, subst, arith}
use Rattle.lists.specs.ListLaws.{all_map}
use Rattle.lists.specs.Lists.{minus, All, All.nil, All.cons}
use Rattle.lists.specs.Tests.{by_bool, by_opt}
use Rattle.table.specs.AnySize.{size-at, places-at, checks-at}
use Rattle.table.specs.ByteLaws.{each_byte, bytes-packets}
use Rattle.table.specs.ChecksLaws.{limits}
use Rattle.table.specs.EachByteLaws.{each_set, each-sum, each-zero, every-zero}
use Rattle.table.specs.Packets.{Packets, packets, bytes_at}
use Rattle.table.specs.SumLaws.{part-zeros}
use Rattle.table.specs.Table.{places, size, at_size, checks, refusal}
use Rattle.table.specs.TableLaws.{accepted}
use Rattle.erasure.specs.ContradictionLaws.{Sums, sums-of, of-sums}
use Rattle.erasure.proofs.OutcomeLaws.{outcome-length, outcome-sized}
use Rattle.erasure.specs.Restoring.{State, lost_places, ready, turn, restoring, zero_lost, consistent, outcome, agreeing}

-- byte position j of a state
abbrev pub state_at : ℕ → State → State
state_at j m = record { block = each_byte j m.block; map = m.map; adds = m.adds }

-- ---- one byte position
module _ (s j : ℕ) (h : j < s) where
  -- the start
  pub zeros-each : (map : List ℕ) (b : List (List ℕ)) → zero_lost 1 map (each_byte j b) ≡ each_byte j (zero_lost s map b)
  zeros-each [] b = refl
  zeros-each (l ∷ ls) [] = refl
  zeros-each (l ∷ ls) (p ∷ b) = ap₂ ◌∷◌ (by_bool (eqb l 1) (λ e. rw e (sym (part-zeros j 1 s (omega arith)))) (λ e. rw e)) (zeros-each ls b)

  -- a turn
  pub turn-each : (c : List ℕ) (m : State) → turn 1 c (state_at j m) ≡ state_at j (turn s c m)
  turn-each c m =
      let p = get_or (lost_places m.map c) 0 0 in
      ap (λ b. record { block = b; map = (turn s c m).map; adds = (turn s c m).adds })
      (ap (set (each_byte j m.block) p) (each-sum s j h m.block (minus c (p ∷ []))) ∙ sym (each_set j m.block p _))

  -- all turns
  pub restoring-each : (k : ℕ) (cs : List (List ℕ)) (m : State) → restoring k 1 cs (state_at j m) ≡ state_at j (restoring k s cs m)
  restoring-each zero cs m = refl
  restoring-each (suc k) cs m = by_opt (ready m.map cs)
      (λ c r. rw (r, restoring) (ap (restoring k 1 cs) (turn-each c m) ∙ restoring-each k cs (turn s c m)))
      (λ r. rw (r, restoring))

  -- the checks without a lost place
  pub sums-each : (m : State) {cs : List (List ℕ)} → Sums s cs m → Sums 1 cs (state_at j m)
  sums-each m a = all_map (λ c z e. each-zero s j h m.block c (z e)) a

-- ---- every byte position
pub sums-every : (s : ℕ) (m : State) → Packets s m.block → {cs : List (List ℕ)} → All (λ c. All (λ p. p < length m.block) c) cs
    → ((j : ℕ) → j < s → Sums 1 cs (state_at j m)) → Sums s cs m
sums-every s m sized nil z = nil
sums-every s m sized (cons {x = c} {l = cs} low a) z =
    cons (λ e. every-zero s sized low (λ j h. first (z j h) e)) (sums-every s m sized a (λ j h. rest (z j h)))
  where
    first : {P : List ℕ → Type 0} → All P (c ∷ cs) → P c
    first (cons p b) = p

    rest : {P : List ℕ → Type 0} → All P (c ∷ cs) → All P cs
    rest (cons p b) = b

-- ---- an accepted table and a fitting block
module _ (t b map : List ℕ) (ok : refusal t ≡ 0) (fits : length b ≡ places t * size t) where
  abbrev whole : State
  whole = outcome t b map

  single : size (at_size 1 t) ≡ 1
  single = let l = (limits t ok).long in size-at 1 t (omega arith)

  module _ (j : ℕ) (h : j < size t) where
    abbrev bytes : List ℕ
    bytes = bytes_at (size t) (places t) j b

    pub outcome-each : outcome (at_size 1 t) (bytes_at (size t) (places t) j b) map ≡ state_at j (outcome t b map)
    outcome-each = rw (single, places-at 1 t, checks-at 1 t)
        (ap (λ x. restoring (places t) 1 (checks t) (record { block = x; map = map; adds = 0 }))
        (ap (zero_lost 1 map) (bytes-packets (size t) j h (places t) b fits) ∙ zeros-each (size t) j h map (packets (size t) (places t) b))
        ∙ restoring-each (size t) j h (places t) (checks t) _)

    agreeing-at : agreeing (at_size 1 t) bytes map ≡ consistent 1 (checks t) (state_at j whole)
    agreeing-at = ap₂ (λ (s : ℕ) (cs : List (List ℕ)). consistent s cs (outcome (at_size 1 t) bytes map)) single (checks-at 1 t)
        ∙ ap (consistent 1 (checks t)) outcome-each

    pub agrees-each : agreeing t b map ≡ true → agreeing (at_size 1 t) (bytes_at (size t) (places t) j b) map ≡ true
    agrees-each e = agreeing-at ∙ of-sums 1 (state_at j whole) (sums-each (size t) j h whole (sums-of (size t) whole (checks t) e))

  pub agrees-every : ((j : ℕ) → j < size t → agreeing (at_size 1 t) (bytes_at (size t) (places t) j b) map ≡ true) → agreeing t b map ≡ true
  agrees-every e = of-sums (size t) whole (sums-every (size t) whole (outcome-sized t b map ok fits)
      (subst (λ n. All (λ c. All (λ p. p < n) c) (checks t)) (sym (outcome-length t b map ok fits)) (accepted t ok).low)
      (λ j h. sums-of 1 (state_at j whole) (checks t) (sym (agreeing-at j h) ∙ e j h)))
