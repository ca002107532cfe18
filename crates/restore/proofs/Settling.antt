-- What the core tells and leaves, from what its parts leave.
use mathlib.Core.Path.{◌≡◌, sym, ap, ap₂, ◌∙◌}
use mathlib.Core.List.{List}
use mathlib.Core.Option.{none, some}
use Prim.Native.Nat.{ℕ, ◌-◌, ◌*◌, ◌≤◌}
use lib.ListN.{length}
use Rattle.table.specs.PacketLaws.{packets-length, packets-of}
use Rattle.table.specs.Packets.{packets, joined}
use Rattle.table.specs.Table.{places, size, checks}
use Rattle.table.specs.Accepted.{Accepted}
use Rattle.erasure.proofs.OldBytes.{zero-alike}
use Rattle.erasure.proofs.OutcomeLaws.{start-length, start-sized, outcome-length, outcome-sized, tally-fewer}
use Rattle.erasure.specs.Restoring.{zero_lost, restoring, contradiction, tally, outcome, contradicting}
use Rattle.restore.specs.Mending.{Mends}
use Rattle.faults.specs.Faults.{fault_found}
use Rattle.erasure.specs.States.{Restored, state_of}
use Rattle.erasure.proofs.Values.{received-kept}
use Rattle.std.specs.declared.option.Option.{Option as Found}
use Rattle.std.specs.declared.option.Option.TheVariants.{None, Some}
use Rattle.std.specs.declared.result.Result.TheVariants.{Ok, Err}
use Rattle.refusals.specs.declared.Fault.{Fault as FaultFound}
use Rattle.report.specs.declared.Repaired.{Repaired}

-- ---- the core
module _ (t : List ℕ) (m n s : ℕ) (k : Accepted t m n s) (b l : List ℕ) (lb : length b ≡ n * s) (ll : length l ≡ n) (b₁ : List ℕ) (zeroed : b₁ ≡ joined (zero_lost s l (packets s n b)))
    (b₂ l₂ : List ℕ) (adds : ℕ) (done : Restored n s (checks t) b₁ l b₂ l₂ adds) where
  fits : length b ≡ places t * size t
  fits = lb ∙ ap₂ ◌*◌ k.places-are k.size_is

  -- with the sizes as the definitions have them
  zeroed-then : b₁ ≡ joined (zero_lost (size t) l (packets (size t) (places t) b))
  zeroed-then = zeroed ∙ ap₂ (λ x y. joined (zero_lost y l (packets y x b))) k.places-are k.size_is

  packets-then : packets (size t) (places t) b₁ ≡ zero_lost (size t) l (packets (size t) (places t) b)
  packets-then = ap (packets (size t) (places t)) zeroed-then ∙ packets-of (size t) (places t) (start-length t b l k.accepted fits) (start-sized t b l k.accepted fits)

  state-then : restoring n s (checks t) (state_of s n b₁ l 0) ≡ outcome t b l
  state-then = ap₂ (λ x y. restoring x y (checks t) (state_of y x b₁ l 0)) k.places-are k.size_is
      ∙ ap (λ ps. restoring (places t) (size t) (checks t) (record { block = ps; map = l; adds = 0 })) packets-then

  -- what is there after all turns
  block-then : b₂ ≡ joined (outcome t b l).block
  block-then = done.holds.block-is ∙ ap (λ st. joined st.block) state-then

  map-then : l₂ ≡ (outcome t b l).map
  map-then = done.holds.map_is ∙ ap (λ st. st.map) state-then

  packets-after : packets s n b₂ ≡ (outcome t b l).block
  packets-after = ap₂ (λ x y. packets y x b₂) k.places-are k.size_is ∙ ap (packets (size t) (places t)) block-then
      ∙ packets-of (size t) (places t) (outcome-length t b l k.accepted fits) (outcome-sized t b l k.accepted fits)

  look_then : contradiction s (checks t) (state_of s n b₂ l₂ 0) ≡ contradicting t b l
  look_then = ap₂ (λ ps x. contradiction s (checks t) (record { block = ps; map = x; adds = 0 })) packets-after map-then
      ∙ ap (λ x. contradiction x (checks t) (outcome t b l)) k.size_is

  -- the map has no more lost places than before
  pub fewer : tally 1 l₂ ≤ tally 1 l
  fewer = rw map-then (tally-fewer t b l)

  module _ (look : Found FaultFound) (looked : fault_found look ≡ contradiction s (checks t) (state_of s n b₂ l₂ 0)) where
    told : fault_found look ≡ contradicting t b l
    told = looked ∙ look_then

    -- no contradiction
    pub settled : look ≡ None → (r : Repaired) → r.restored ≡ tally 1 l - tally 1 l₂ → r.lost ≡ tally 1 l₂ → r.additions ≡ adds → Mends t b l (Ok r) b₂ l₂
    settled none-is r e1 e2 e3 =
        let ok : contradicting t b l ≡ none = sym told ∙ ap fault_found none-is in
        let a : adds ≡ (outcome t b l).adds = done.adds-are ∙ ap (λ st. st.adds) state-then in
        record {
          report = rw (ok, e1, e2, e3, map-then, a);
          block-is = rw ok block-then;
          map_is = rw ok map-then;
        }

    -- a contradiction: the map is put back and lost places zeroed again
    pub unsettled : (f : FaultFound) → look ≡ Some f → (l₃ b₃ : List ℕ) → l₃ ≡ l → b₃ ≡ joined (zero_lost s l₃ (packets s n b₂)) → Mends t b l (Err f) b₃ l₃
    unsettled f some-is l₃ b₃ back g =
        let bad : contradicting t b l ≡ some (record { check = f.check; byte = f.byte }) = sym told ∙ ap fault_found some-is in
        let again : zero_lost s l₃ (packets s n b₂) ≡ zero_lost (size t) l (packets (size t) (places t) b) =
        ap₂ (λ x y. zero_lost x y (packets s n b₂)) k.size_is back ∙ ap (zero_lost (size t) l) packets-after
        ∙ zero-alike (size t) l (outcome t b l).block (packets (size t) (places t) b) (outcome-length t b l k.accepted fits ∙ sym (packets-length (size t) (places t) b))
        (λ p h e. received-kept (places t) (size t) (checks t) (packets (size t) (places t) b) l p e) in
        record {
          report = rw bad;
          block-is = rw bad (g ∙ ap joined again);
          map_is = rw bad back;
        }
