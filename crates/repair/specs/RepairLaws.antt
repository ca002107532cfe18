-- The call of repair by cases: what is offered, when it is refused, and what block and map are afterwards.
use Rattle.std.specs.Prelude.{◌≡◌, Bool, cond, ◌≢◌, ◌⊎◌, ℕ, ◌*◌, eqb, ltb, length}
use Rattle.std.proofs.Math.Path.{refl}
use Rattle.std.proofs.Common.{sym, ap, ◌∙◌, true≢false, eq-eqb, ne_eqb}
use Rattle.std.proofs.Math.Bool.{true, false, not}
use mathlib.Core.List.{List, [], ◌∷◌, ◌++◌}
use Rattle.std.proofs.Math.Logic.{inl, inr}
use Rattle.std.proofs.Math.Option.{Option, none, some}
use Rattle.std.proofs.lemmas.Bool.{not-true}
use Rattle.suspects.specs.Blame.{blamed, nobody}
use Rattle.erasure.specs.Offered.{wrong_lengths, byte_over, Fitting}
use Rattle.erasure.proofs.OfferedLaws.{offer-fits}
use Rattle.erasure.specs.Restoring.{zero_lost, agreeing}
use Rattle.lists.specs.Lists.{any_of, All.nil, All.cons}
use Rattle.lists.specs.Tests.{by_bool, by_opt, and-false, and_l, and_r, and_both}
use Rattle.repair.specs.Repair.{marked, repair_outcome, contradicts, repair_causes, repair_refusal, repair_block_after, repair_map_after}
use Rattle.table.specs.FirstCause.{first_cause, NoneHolds}
use Rattle.table.specs.FirstCauseLaws.{none-holds, none-refuses, first-decides, rest-decides, quiet, refused-by}
use Rattle.table.specs.Packets.{packets, joined}
use Rattle.table.specs.Table.{places, size, table_causes, refusal}

module _ (t b map : List ℕ) where
  -- ---- the causes in their order
  -- those beyond the table's
  abbrev own : List (Bool × ℕ)
  own = (wrong_lengths t b map, 5) ∷ (byte_over map, 7) ∷ (contradicts t b map, 8) ∷ []

  pub table-refused : refusal t ≢ 0 → repair_refusal t b map ≡ refusal t
  unfolding repair_refusal
  table-refused ne = first-decides (table_causes t) own ne

  -- once the table is accepted
  at_own : refusal t ≡ 0 → repair_refusal t b map ≡ first_cause own
  unfolding repair_refusal
  at_own ok = rest-decides (none-holds (table_causes t) refl ok) own

  pub lengths-wrong : refusal t ≡ 0 → wrong_lengths t b map ≡ true → repair_refusal t b map ≡ 5
  lengths-wrong ok w = at_own ok ∙ rw w

  pub block-short : refusal t ≡ 0 → length b ≢ places t * size t → repair_refusal t b map ≡ 5
  block-short ok ne = at_own ok ∙ rw (ne_eqb (length b) (places t * size t) ne)

  pub map-short : refusal t ≡ 0 → length b ≡ places t * size t → length map ≢ places t → repair_refusal t b map ≡ 5
  map-short ok lb ne = at_own ok ∙ rw (eq-eqb (length b) (places t * size t) lb, ne_eqb (length map) (places t) ne)

  pub byte-over : refusal t ≡ 0 → length b ≡ places t * size t → length map ≡ places t → any_of (ltb 1) map ≡ true → repair_refusal t b map ≡ 7
  byte-over ok lb lm over = at_own ok ∙ rw (eq-eqb (length b) (places t * size t) lb, eq-eqb (length map) (places t) lm, over)

  -- what is left then is 8 or nothing
  fitting-refusal : Fitting t b map → repair_refusal t b map ≡ cond (contradicts t b map) 8 0
  fitting-refusal f = at_own f.table ∙ rw (eq-eqb (length b) (places t * size t) f.block, eq-eqb (length map) (places t) f.map-length, f.map-bytes)

  -- the old repair accepts; a place is blamed; neither
  pub agreed-refusal : Fitting t b map → agreeing t b map ≡ true → repair_refusal t b map ≡ 0
  agreed-refusal f agrees = fitting-refusal f ∙ rw agrees

  pub blamed-refusal : Fitting t b map → (p : ℕ) → blamed t b map ≡ some p → repair_refusal t b map ≡ 0
  blamed-refusal f p e = fitting-refusal f ∙ ap (λ v. cond v 8 0) (and-false (not (agreeing t b map)) (nobody (blamed t b map)) (ap nobody e))

  pub contradicted-refusal : Fitting t b map → agreeing t b map ≡ false → blamed t b map ≡ none → repair_refusal t b map ≡ 8
  contradicted-refusal f contrary e = fitting-refusal f ∙ rw (contrary, e)

  -- the other way: no cause up to 7
  pub fits : NoneHolds ((wrong_lengths t b map, 5) ∷ (byte_over map, 7) ∷ []) → refusal t ≡ 0 → Fitting t b map
  fits (cons w (cons o n)) ok = offer-fits t b map ok w o

  -- an accepted call: the old repair accepts, or a place is blamed
  pub accepted-fits : repair_refusal t b map ≡ 0 → Fitting t b map × ((agreeing t b map ≡ true) ⊎ ((p : ℕ) × (blamed t b map ≡ some p)))
  unfolding repair_refusal
  accepted-fits h = let r = none-refuses (table_causes t) refl own h in go r.0 (none-holds own refl r.1)
    where
      either : contradicts t b map ≡ false → (agreeing t b map ≡ true) ⊎ ((p : ℕ) × (blamed t b map ≡ some p))
      either a = by_bool (agreeing t b map)
          (λ y. inl y)
          (λ n. by_opt (blamed t b map)
          (λ p e. inr (p, e))
          (λ e. absurd (true≢false (sym (and_both (not (agreeing t b map)) (nobody (blamed t b map)) (ap not n) (ap nobody e)) ∙ a))))

      go : refusal t ≡ 0 → NoneHolds own → Fitting t b map × ((agreeing t b map ≡ true) ⊎ ((p : ℕ) × (blamed t b map ≡ some p)))
      go ok (cons w (cons o (cons a n))) = (fits (cons w (cons o nil)) ok, either a)

  -- a contradicted one: it doesn't, and none is
  pub contradicted-fits : repair_refusal t b map ≡ 8 → Fitting t b map × ((agreeing t b map ≡ false) × (blamed t b map ≡ none))
  unfolding repair_refusal
  contradicted-fits h = let r = ((refused-by (repair_causes t b map) refl).each (table_causes t ++ ((wrong_lengths t b map, 5) ∷ (byte_over map, 7) ∷ [])) [] (contradicts t b map) 8 refl).0 h in go r.0 r.1
    where
      nobody-is : (o : Option ℕ) → nobody o ≡ true → o ≡ none
      nobody-is none e = refl
      nobody-is (some p) e = absurd (true≢false (sym e))

      go : NoneHolds (table_causes t ++ ((wrong_lengths t b map, 5) ∷ (byte_over map, 7) ∷ [])) → contradicts t b map ≡ true
          → Fitting t b map × ((agreeing t b map ≡ false) × (blamed t b map ≡ none))
      go (cons c1 (cons c2 (cons c3 (cons c4 n)))) a = (
        fits n (quiet (cons c1 (cons c2 (cons c3 (cons c4 nil))))),
        (not-true (agreeing t b map) (and_l (not (agreeing t b map)) (nobody (blamed t b map)) a), nobody-is (blamed t b map) (and_r (not (agreeing t b map)) (nobody (blamed t b map)) a)),
      )

-- ---- block and map by the refusal
pub block-accepted : (t b map : List ℕ) → repair_refusal t b map ≡ 0 → repair_block_after t b map ≡ joined (repair_outcome t b map).block
block-accepted t b map h = rw (h, repair_block_after)

pub block-contradicted : (t b map : List ℕ) → repair_refusal t b map ≡ 8 → repair_block_after t b map ≡ joined (zero_lost (size t) map (packets (size t) (places t) b))
block-contradicted t b map h = rw (h, repair_block_after, h)

pub block_refused : (t b map : List ℕ) (r : ℕ) → repair_refusal t b map ≡ r → eqb r 0 ≡ false → eqb r 8 ≡ false → repair_block_after t b map ≡ b
block_refused t b map r h e0 e8 = rw (h, repair_block_after, e0, h, e8)

pub map-accepted : (t b map : List ℕ) → repair_refusal t b map ≡ 0 → repair_map_after t b map ≡ marked (blamed t b map) (repair_outcome t b map).map
map-accepted t b map h = rw (h, repair_map_after)

pub map-refused : (t b map : List ℕ) (r : ℕ) → repair_refusal t b map ≡ r → eqb r 0 ≡ false → repair_map_after t b map ≡ map
map-refused t b map r h e = rw (h, repair_map_after, e)
