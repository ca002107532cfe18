-- A trial: what it says of the place, and the block as it was afterwards.
use mathlib.Core.Path.{◌≡◌, refl, sym, ap, ap₂, ◌∙◌, subst}
use mathlib.Core.Bool.{Bool, true, false, not, ◌&&◌}
use mathlib.Core.List.{List, []}
use Prim.Native.Nat.{ℕ, ◌*◌, ◌<◌}
use lib.Dec.{eqb}
use lib.ListN.{length, get_or, set, take, drop, length-set}
use lib.Seq.{ext_get_or, get_or-set_same, get_or-set_other}
use Rattle.lists.specs.Lists.{written}
use Rattle.lists.specs.ListLaws.{all_get_d}
use Rattle.lists.specs.Tests.{eqb-true, eqb-false, by_bool, and-false}
use Rattle.table.specs.Accepted.{Accepted}
use Rattle.table.specs.BufferLaws.{set-written}
use Rattle.table.specs.PacketLaws.{packets-length, packets-sized, packets-joined, packets-of, packet-at}
use Rattle.table.specs.Packets.{Packets, packets, joined}
use Rattle.table.specs.Table.{places, size, checks}
use Rattle.erasure.proofs.OutcomeLaws.{zero_lost-sized, start-length, start-sized, outcome-length, outcome-sized}
use Rattle.erasure.specs.Restoring.{zero_lost, outcome, agreeing, block_if, map_if, is_lost}
use Rattle.erasure.proofs.Values.{received-kept, zero_lost-length, zero_lost-kept, zero_lost-zero}
use Rattle.std.specs.declared.result.Result.{Result}
use Rattle.std.specs.declared.result.Result.TheVariants.{Ok, Err}
use Rattle.std.specs.Result.{is_ok}
use Rattle.refusals.specs.declared.Fault.{Fault as FaultFound}
use Rattle.report.specs.declared.Repaired.{Repaired}
use Rattle.restore.specs.Mending.{counts_of}
use Rattle.suspects.specs.Blame.{lost_too, suspect}
use Rattle.trials.specs.Cleared.{Cleared}
use Rattle.trials.specs.ClearedLaws.{cleared-packets}

-- ---- what a trial says
-- whether nothing contradicts, as the code asks
agrees-is : (r : Result Repaired FaultFound) → is_ok r ≡ (counts_of r).agrees
agrees-is (Ok x) = refl
agrees-is (Err f) = refl

pub told : (r : Result Repaired FaultFound) (v q : Bool) → v ≡ is_ok r → v ≡ q → (counts_of r).agrees ≡ q
told r v q h e = sym (h ∙ agrees-is r) ∙ e

pub both : (a v : Bool) → v ≡ true → a ≡ (a && v)
both true v e = sym e
both false v e = refl

pub not-received : (t b map : List ℕ) (p : ℕ) → eqb (get_or map p 0) 0 ≡ false → false ≡ suspect t b map p
not-received t b map p e = rw e

pub received-says : (t b map : List ℕ) (p : ℕ) → eqb (get_or map p 0) 0 ≡ true → (v : Bool) → v ≡ agreeing t b (lost_too map p)
    → (l : List ℕ) → l ≡ map_if (agreeing t b (lost_too map p)) t b (lost_too map p) → (not (eqb (get_or l p 0) 1) && v) ≡ suspect t b map p
received-says t b map p e v ev l el = by_bool (agreeing t b (lost_too map p))
    (λ y. let at : l ≡ (outcome t b (lost_too map p)).map = el ∙ ap (λ x. map_if x t b (lost_too map p)) y in rw (e, at, ev))
    (λ n. and-false (not (eqb (get_or l p 0) 1)) v (ev ∙ n) ∙ rw e (sym (and-false (not (is_lost (outcome t b (lost_too map p)).map p)) _ n)))

-- ---- the block afterwards
module _ (t : List ℕ) (m n s : ℕ) (k : Accepted t m n s) (b map : List ℕ) (c : Cleared n s b map) (p : ℕ) (inside : p < n) where
  abbrev ps : List (List ℕ)
  ps = packets s n b

  -- with the sizes as the definitions have them
  sizes : (x : List ℕ) → packets s n x ≡ packets (size t) (places t) x
  sizes x = ap₂ (λ i j. packets j i x) k.places-are k.size_is

  fits : length b ≡ places t * size t
  fits = c.bytes ∙ ap₂ ◌*◌ k.places-are k.size_is

  -- every packet that isn't lost stays
  kept : (v : Bool) (b₂ : List ℕ) → b₂ ≡ block_if v t b (lost_too map p) → (q : ℕ) → is_lost (lost_too map p) q ≡ false → get_or (packets s n b₂) q [] ≡ get_or ps q []
  kept true b₂ e q known =
      ap (λ x. get_or x q []) (sizes b₂ ∙ ap (packets (size t) (places t)) e
      ∙ packets-of (size t) (places t) (outcome-length t b (lost_too map p) k.accepted fits) (outcome-sized t b (lost_too map p) k.accepted fits))
      ∙ received-kept (places t) (size t) (checks t) (packets (size t) (places t) b) (lost_too map p) q known ∙ ap (λ x. get_or x q []) (sym (sizes b))
  kept false b₂ e q known =
      ap (λ x. get_or x q []) (sizes b₂ ∙ ap (packets (size t) (places t)) e
      ∙ packets-of (size t) (places t) (start-length t b (lost_too map p) k.accepted fits) (start-sized t b (lost_too map p) k.accepted fits))
      ∙ zero_lost-kept (size t) (lost_too map p) (packets (size t) (places t) b) q known ∙ ap (λ x. get_or x q []) (sym (sizes b))

  -- place by place: p's packet is put back, lost places are zero again, the others were kept
  back : (qs : List (List ℕ)) → length qs ≡ n → ((q : ℕ) → is_lost (lost_too map p) q ≡ false → get_or qs q [] ≡ get_or ps q []) → set (zero_lost s map qs) p (get_or ps p []) ≡ ps
  back qs long same = ext_get_or [] _ ps (length-set (zero_lost s map qs) p (get_or ps p []) ∙ zero_lost-length s map qs ∙ long ∙ sym (packets-length s n b)) (λ q h. each q (less q h))
    where
      wide : length (zero_lost s map qs) ≡ n
      wide = zero_lost-length s map qs ∙ long

      less : (q : ℕ) → q < length (set (zero_lost s map qs) p (get_or ps p [])) → q < n
      less q h = subst (λ x. q < x) (length-set (zero_lost s map qs) p (get_or ps p []) ∙ wide) h

      other : (q : ℕ) → q < n → (q ≡ p → ⊥) → get_or (zero_lost s map qs) q [] ≡ get_or ps q []
      other q h ne = by_bool (is_lost map q)
          (λ y. zero_lost-zero s map qs q (subst (λ x. q < x) (sym long) h) y
          ∙ sym (ap (λ x. get_or x q []) (cleared-packets n s b map c) ∙ zero_lost-zero s map ps q (subst (λ x. q < x) (sym (packets-length s n b)) h) y))
          (λ y. zero_lost-kept s map qs q y ∙ same q (ap (λ x. eqb x 1) (get_or-set_other map p q 1 0 ne) ∙ y))

      each : (q : ℕ) → q < n → get_or (set (zero_lost s map qs) p (get_or ps p [])) q [] ≡ get_or ps q []
      each q h = by_bool (eqb q p)
          (λ y. let z : q ≡ p = eqb-true q p y in rw z (get_or-set_same (zero_lost s map qs) p (get_or ps p []) [] (subst (λ x. p < x) (sym wide) inside)))
          (λ y. let ne = eqb-false q p y in get_or-set_other (zero_lost s map qs) p q (get_or ps p []) [] ne ∙ other q h ne)

  pub block_back : (v : Bool) (b₂ : List ℕ) → length b₂ ≡ n * s → b₂ ≡ block_if v t b (lost_too map p) → (l : List ℕ) → l ≡ map → (b₃ : List ℕ) → b₃ ≡ joined (zero_lost s l (packets s n b₂))
      → (w : List ℕ) → w ≡ take s (drop (p * s) b) → (b₄ : List ℕ) → b₄ ≡ written b₃ (p * s) w → b₄ ≡ b
  block_back v b₂ long e₂ l el b₃ e₃ w ew b₄ e₄ =
      let sized : Packets s (zero_lost s map (packets s n b₂)) = zero_lost-sized s map (packets-sized s n b₂ long) in
      let many : length (zero_lost s map (packets s n b₂)) ≡ n = zero_lost-length s map (packets s n b₂) ∙ packets-length s n b₂ in
      let packet : length (get_or ps p []) ≡ s = all_get_d (packets-sized s n b c.bytes) p (subst (λ x. p < x) (sym (packets-length s n b)) inside) in
      e₄ ∙ ap₂ (λ x y. written x (p * s) y) (e₃ ∙ ap (λ x. joined (zero_lost s x (packets s n b₂))) el) (ew ∙ sym (packet-at s n b p inside))
      ∙ sym (set-written s sized p (get_or ps p []) (subst (λ x. p < x) (sym many) inside) packet)
      ∙ ap joined (back (packets s n b₂) (packets-length s n b₂) (kept v b₂ e₂)) ∙ packets-joined s n b c.bytes
