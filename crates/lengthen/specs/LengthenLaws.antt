-- The call by cases: what is offered, when it is refused, and what block and map are afterwards.
use Rattle.std.proofs.Math.Path.{◌≡◌}
use Rattle.std.specs.Prelude.{refl, Bool, true, false, cond, not, List, [], ◌∷◌, ◌++◌, ◌≢◌, ℕ, zero, suc, ◌*◌, ◌<◌, eqb, length, get_or}
use Rattle.std.proofs.Common.{sym, ap, ◌∙◌, true≢false, ⊎_elim}
use Rattle.std.proofs.lemmas.Bool.{false≢true, not-false}
use Rattle.std.proofs.Math.Option.{Option}
use native.Mathlib.Omega.{arith}
use Rattle.entering.specs.EnteredLaws.{parts-long, marks-length, mark-at, entered-length, entered-part, entered-zero}
use Rattle.entering.specs.Entering.{carried_mark}
use Rattle.entering.specs.EntryLaws.{carried-old, carried-new, entered-word}
use Rattle.erasure.specs.LostLaws.{is_lost_lem}
use Rattle.erasure.specs.Offered.{Held, wrong_lengths, handed_on, Agree}
use Rattle.erasure.proofs.OfferedLaws.{lengths-right, lengths-fit}
use Rattle.erasure.proofs.OldRepair.{cleared-kept, cleared-zero}
use Rattle.erasure.proofs.OutcomeLaws.{start-length, start-sized}
use Rattle.erasure.specs.Restoring.{State, AgreeThere, block_if, is_lost}
use Rattle.faults.specs.Faults.{Fault}
use Rattle.lengthen.specs.Lengthen.{lengthen_answer_at, start, lengthen_outcome, lengthen_fault, wrong_either, own_causes, offer_causes, lengthen_refusal, lengthen_answer, lengthen_after, calm, LengthenFitting}
use Rattle.lists.specs.Lists.{has, All.nil, All.cons}
use Rattle.lists.specs.Tests.{eqb-true, eqb-false, by_bool, or-false-l, or-false-r, or-neither, side}
use Rattle.longer.specs.Longer.{lengthens}
use Rattle.table.specs.FirstCause.{first_cause, NoneHolds, cause_numbers}
use Rattle.table.specs.FirstCauseLaws.{none-holds, none_of, one_of, first-decides, rest-decides, quiet}
use Rattle.table.specs.PacketCall.{part_at}
use Rattle.table.specs.PacketLaws.{joined_length, same-packets}
use Rattle.table.specs.Packets.{joined}
use Rattle.table.specs.Table.{places, size, table_causes, refusal}

module _ (old new : List ℕ) (carried arrivals : Held) where
  abbrev last : List (Bool × ℕ)
  last = (not (calm old new carried arrivals), 8) ∷ []

  -- ---- the causes in their order
  -- some cause before 8 holds
  pub offer-refused : first_cause (offer_causes old new carried arrivals) ≢ 0 → lengthen_refusal old new carried arrivals ≡ first_cause (offer_causes old new carried arrivals)
  unfolding lengthen_refusal
  offer-refused ne = first-decides (offer_causes old new carried arrivals) last ne

  -- both tables are accepted
  pub at_own : refusal old ≡ 0 → refusal new ≡ 0 → first_cause (offer_causes old new carried arrivals) ≡ first_cause (own_causes old new carried arrivals)
  at_own ok good = rest-decides (none-holds (table_causes old) refl ok) (table_causes new ++ own_causes old new carried arrivals) ∙ rest-decides (none-holds (table_causes new) refl good) (own_causes old new carried arrivals)

  pub old-refused : refusal old ≢ 0 → first_cause (offer_causes old new carried arrivals) ≡ refusal old
  old-refused ne = first-decides (table_causes old) (table_causes new ++ own_causes old new carried arrivals) ne

  pub new-refused : refusal old ≡ 0 → refusal new ≢ 0 → first_cause (offer_causes old new carried arrivals) ≡ refusal new
  new-refused ok ne = rest-decides (none-holds (table_causes old) refl ok) (table_causes new ++ own_causes old new carried arrivals) ∙ first-decides (table_causes new) (own_causes old new carried arrivals) ne

  -- no cause before 8 holds
  none_then : first_cause (offer_causes old new carried arrivals) ≡ 0 → NoneHolds (offer_causes old new carried arrivals)
  none_then h = none_of (offer_causes old new carried arrivals) refl h

  pub offer-fits : first_cause (offer_causes old new carried arrivals) ≡ 0 → LengthenFitting old new carried arrivals
  offer-fits h = go (none_then h)
    where
      go : NoneHolds (offer_causes old new carried arrivals) → LengthenFitting old new carried arrivals
      go (cons a1 (cons a2 (cons a3 (cons a4 (cons b1 (cons b2 (cons b3 (cons b4 (cons w (cons l (cons c (cons a n)))))))))))) =
          let x = lengths-fit new carried.block carried.map (or-false-l (wrong_lengths new carried.block carried.map) _ w) in
          let y = lengths-fit new arrivals.block arrivals.map (or-false-r (wrong_lengths new carried.block carried.map) _ w) in
          record {
            old-table = quiet (cons a1 (cons a2 (cons a3 (cons a4 nil))));
            new-table = quiet (cons b1 (cons b2 (cons b3 (cons b4 nil))));
            block-length = x.0;
            map-length = x.1;
            arrivals-length = y.0;
            arrived-length = y.1;
            longer = not-false (lengthens old new) l;
            carried-bytes = c;
            arrived-bytes = a;
          }

  fits-offer : LengthenFitting old new carried arrivals → first_cause (offer_causes old new carried arrivals) ≡ 0
  fits-offer f = at_own f.old-table f.new-table ∙ rw (none-wrong, f.longer, f.carried-bytes, f.arrived-bytes)
    where
      none-wrong : wrong_either old new carried arrivals ≡ false
      none-wrong = or-neither (wrong_lengths new carried.block carried.map) (wrong_lengths new arrivals.block arrivals.map)
          (lengths-right new carried.block carried.map f.block-length f.map-length) (lengths-right new arrivals.block arrivals.map f.arrivals-length f.arrived-length)

  -- a call that fits: what is left is 8 or nothing
  fitting-refusal : LengthenFitting old new carried arrivals → lengthen_refusal old new carried arrivals ≡ cond (not (calm old new carried arrivals)) 8 0
  unfolding lengthen_refusal
  fitting-refusal f = rest-decides (none_then (fits-offer f)) last

  pub agreed-refusal : LengthenFitting old new carried arrivals → calm old new carried arrivals ≡ true → lengthen_refusal old new carried arrivals ≡ 0
  agreed-refusal f e = fitting-refusal f ∙ rw e

  pub contradicted-refusal : LengthenFitting old new carried arrivals → calm old new carried arrivals ≡ false → lengthen_refusal old new carried arrivals ≡ 8
  contradicted-refusal f e = fitting-refusal f ∙ rw e

  -- 8 is no other cause's number
  pub not_eight : first_cause (offer_causes old new carried arrivals) ≢ 8
  not_eight e = false≢true (ap (λ k. has k (0 ∷ cause_numbers (offer_causes old new carried arrivals))) (sym e) ∙ one_of (offer_causes old new carried arrivals))

  -- an accepted call, and what was tested
  pub accepted-fits : lengthen_refusal old new carried arrivals ≡ 0 → LengthenFitting old new carried arrivals × (calm old new carried arrivals ≡ true)
  unfolding lengthen_refusal
  accepted-fits h = by_bool (eqb (first_cause (offer_causes old new carried arrivals)) 0)
      (λ e. let z = eqb-true _ 0 e in let f = offer-fits z in (f, by_bool (calm old new carried arrivals) (λ t. t) (λ t. absurd (eight (sym (rest-decides (none_then z) last ∙ rw t) ∙ h)))))
      (λ e. absurd (eqb-false _ 0 e (sym (first-decides (offer_causes old new carried arrivals) last (eqb-false _ 0 e)) ∙ h)))
    where
      eight : ◌≡◌ {A = ℕ} 8 0 → ⊥
      eight e = omega arith

  -- a contradicted one
  pub contradicted-fits : lengthen_refusal old new carried arrivals ≡ 8 → LengthenFitting old new carried arrivals × (calm old new carried arrivals ≡ false)
  unfolding lengthen_refusal
  contradicted-fits h = by_bool (eqb (first_cause (offer_causes old new carried arrivals)) 0)
      (λ e. let z = eqb-true _ 0 e in let f = offer-fits z in (f, by_bool (calm old new carried arrivals) (λ t. absurd (eight (sym (rest-decides (none_then z) last ∙ rw t) ∙ h))) (λ t. t)))
      (λ e. absurd (not_eight (sym (first-decides (offer_causes old new carried arrivals) last (eqb-false _ 0 e)) ∙ h)))
    where
      eight : ◌≡◌ {A = ℕ} 0 8 → ⊥
      eight e = omega arith

  -- ---- the refusal is told
  pub refusal-told : (lengthen_answer old new carried arrivals).refusal ≡ lengthen_refusal old new carried arrivals
  refusal-told = at (lengthen_refusal old new carried arrivals) (start old new carried arrivals).map (lengthen_outcome old new carried arrivals) (handed_on (lengthen_refusal old new carried arrivals) (lengthen_fault old new carried arrivals))
    where
      at : (r : ℕ) (map : List ℕ) (m : State) (f : Option Fault) → (lengthen_answer_at r map m f).refusal ≡ r
      at zero map m f = refl
      at (suc r) map m f = refl

  -- ---- block and map by the refusal
  pub after-accepted : lengthen_refusal old new carried arrivals ≡ 0
      → lengthen_after old new carried arrivals ≡ record { block = joined (lengthen_outcome old new carried arrivals).block; map = (lengthen_outcome old new carried arrivals).map }
  after-accepted h = rw (h, lengthen_after)

  pub after-contradicted : lengthen_refusal old new carried arrivals ≡ 8 → lengthen_after old new carried arrivals ≡ start old new carried arrivals
  after-contradicted h = rw (h, lengthen_after, h)

  pub after-refused : (r : ℕ) → lengthen_refusal old new carried arrivals ≡ r → eqb r 0 ≡ false → eqb r 8 ≡ false → lengthen_after old new carried arrivals ≡ carried
  after-refused r h e0 e8 = rw (h, lengthen_after, e0, h, e8)

  -- ---- block and map as entered fit the old repair
  module _ (f : LengthenFitting old new carried arrivals) where
    pub start-block : length (start old new carried arrivals).block ≡ places new * size new
    start-block = entered-length (size new) (places old) (places new) carried arrivals (parts-long (size new) (places old) (places new) carried f.block-length) f.arrivals-length

    pub start-map : length (start old new carried arrivals).map ≡ places new
    start-map = marks-length (size new) (places old) (places new) carried arrivals

    -- lost places are zero already
    pub zeroed-already : block_if false new (start old new carried arrivals).block (start old new carried arrivals).map ≡ (start old new carried arrivals).block
    zeroed-already = same-packets (size new) (places new) (block_if false new b map) b
        (joined_length (size new) (start-sized new b map f.new-table start-block) ∙ ap (λ k. k * size new) (start-length new b map f.new-table start-block)) start-block
        (λ p h. by_bool (is_lost map p)
        (λ e. cleared-zero new b map f.new-table start-block p h e ∙ sym (entered-zero (size new) (places old) (places new) carried arrivals (parts-long (size new) (places old) (places new) carried f.block-length) f.arrivals-length p h e))
        (λ e. cleared-kept new b map f.new-table start-block p h e))
      where
        b : List ℕ
        b = (start old new carried arrivals).block

        map : List ℕ
        map = (start old new carried arrivals).map

    -- where what is carried as known and what has arrived are a word's, so is all that is known as entered
    pub entered-there : (w : List ℕ) → ((p : ℕ) → p < places old → is_lost carried.map p ≡ false → part_at (size new) p carried.block ≡ part_at (size new) p w)
        → Agree new arrivals.block arrivals.map w → AgreeThere new (start old new carried arrivals).block (start old new carried arrivals).map w
    entered-there w right arrive p h e =
        entered-part (size new) (places old) (places new) carried arrivals (parts-long (size new) (places old) (places new) carried f.block-length) f.arrivals-length p h
        ∙ entered-word (carried_mark (places old) carried.map p) (get_or arrivals.map p 0) (part_at (size new) p carried.block) (part_at (size new) p arrivals.block) (part_at (size new) p w)
        known (arrive p h) (size new)
        (λ z. true≢false (sym (is_lost_lem (start old new carried arrivals).map p (mark-at (size new) (places old) (places new) carried arrivals p h ∙ z)) ∙ e))
      where
        known : carried_mark (places old) carried.map p ≢ 1 → part_at (size new) p carried.block ≡ part_at (size new) p w
        known n = ⊎_elim
            (λ i. right p i (by_bool (is_lost carried.map p) (λ z. absurd (n (carried-old (places old) carried.map p i ∙ eqb-true _ 1 z))) (λ z. z)))
            (λ i. absurd (n (carried-new (places old) carried.map p i)))
            (side p (places old))
