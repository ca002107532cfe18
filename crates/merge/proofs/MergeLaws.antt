-- The call of merging by cases: what is offered, when it is refused, and what the third block and map are afterwards.
use Rattle.std.specs.Prelude.{◌≡◌, Bool, false, cond, ◌≢◌, ℕ, zero, suc, ◌*◌, eqb, get_or}
use Rattle.std.proofs.Math.Path.{refl}
use Rattle.std.proofs.Common.{sym, ap, ◌∙◌}
use Rattle.std.proofs.Math.Bool.{true, not}
use mathlib.Core.List.{List, [], ◌∷◌, ◌++◌}
use Rattle.std.proofs.Math.Option.{Option}
use borrow.Author.Tests.{not-true, not-false}
use Rattle.aerials.specs.Aerials.{heard_at, kinds}
use Rattle.aerials.specs.HeardLaws.{lost-zero}
use Rattle.aerials.proofs.MergedLaws.{marks-length, marks-low, mark-at, merged-length, merged-part}
use Rattle.erasure.specs.Offered.{Held, wrong_lengths, byte_over, handed_on, Fitting}
use Rattle.erasure.proofs.OfferedLaws.{lengths-right, lengths-fit, offer-fits}
use Rattle.erasure.proofs.OldRepair.{cleared-kept, cleared-zero}
use Rattle.erasure.proofs.OutcomeLaws.{start-length, start-sized}
use Rattle.erasure.specs.Restoring.{State, agreeing, block_if, is_lost}
use Rattle.faults.specs.Faults.{Fault}
use Rattle.lists.specs.Lists.{All.nil, All.cons}
use Rattle.lists.specs.Tests.{eqb-true, by_bool, or-false-l, or-false-r, or-neither}
use Rattle.merge.specs.Merge.{third, merge_outcome, merge_fault, wrong_any, over_either, own_causes, merge_causes, merge_refusal, merge_answer_at, merge_answer, merge_after, FittingThree}
use Rattle.table.specs.FirstCause.{first_cause, NoneHolds}
use Rattle.table.specs.FirstCauseLaws.{none-holds, none-refuses, first-decides, rest-decides, quiet, refused-by}
use Rattle.table.specs.PacketLaws.{joined_length, same-packets}
use Rattle.table.specs.Packets.{joined}
use Rattle.table.specs.Table.{places, size, table_causes, refusal}

module _ (t : List ℕ) (one two out : Held) where
  -- nothing contradicts
  abbrev pub calm : Bool
  calm = agreeing t (third t one two).block (third t one two).map

  -- ---- the causes in their order
  pub table-refused : refusal t ≢ 0 → merge_refusal t one two out ≡ refusal t
  unfolding merge_refusal
  table-refused ne = first-decides (table_causes t) (own_causes t one two out) ne

  -- once the table is accepted
  at_own : refusal t ≡ 0 → merge_refusal t one two out ≡ first_cause (own_causes t one two out)
  unfolding merge_refusal
  at_own ok = rest-decides (none-holds (table_causes t) refl ok) (own_causes t one two out)

  pub length-refused : refusal t ≡ 0 → wrong_any t one two out ≡ true → merge_refusal t one two out ≡ 5
  length-refused ok w = at_own ok ∙ rw w

  pub byte-refused : refusal t ≡ 0 → wrong_any t one two out ≡ false → over_either one two ≡ true → merge_refusal t one two out ≡ 7
  byte-refused ok w o = at_own ok ∙ rw (w, o)

  -- a call that fits: what is left is 8 or nothing
  none-wrong : FittingThree t one two out → wrong_any t one two out ≡ false
  none-wrong f = or-neither (wrong_lengths t one.block one.map) _ (lengths-right t one.block one.map f.first.block f.first.map-length)
      (or-neither (wrong_lengths t two.block two.map) _ (lengths-right t two.block two.map f.second.block f.second.map-length) (lengths-right t out.block out.map f.block-length f.map-length))

  none_over : FittingThree t one two out → over_either one two ≡ false
  none_over f = or-neither (byte_over one.map) (byte_over two.map) f.first.map-bytes f.second.map-bytes

  fitting-refusal : FittingThree t one two out → merge_refusal t one two out ≡ cond (not calm) 8 0
  fitting-refusal f = at_own f.first.table ∙ rw (none-wrong f, none_over f)

  pub agreed-refusal : FittingThree t one two out → calm ≡ true → merge_refusal t one two out ≡ 0
  agreed-refusal f e = fitting-refusal f ∙ rw e

  pub contradicted-refusal : FittingThree t one two out → calm ≡ false → merge_refusal t one two out ≡ 8
  contradicted-refusal f e = fitting-refusal f ∙ rw e

  -- the other way: no cause up to 7
  pub fits : refusal t ≡ 0 → wrong_any t one two out ≡ false → over_either one two ≡ false → FittingThree t one two out
  fits ok w o =
      let rest = or-false-r (wrong_lengths t one.block one.map) _ w in
      let l = lengths-fit t out.block out.map (or-false-r (wrong_lengths t two.block two.map) _ rest) in
      record {
        first = offer-fits t one.block one.map ok (or-false-l (wrong_lengths t one.block one.map) _ w) (or-false-l (byte_over one.map) (byte_over two.map) o);
        second = offer-fits t two.block two.map ok (or-false-l (wrong_lengths t two.block two.map) _ rest) (or-false-r (byte_over one.map) (byte_over two.map) o);
        block-length = l.0;
        map-length = l.1;
      }

  -- an accepted call, and what was tested
  pub accepted-fits : merge_refusal t one two out ≡ 0 → FittingThree t one two out × (calm ≡ true)
  unfolding merge_refusal
  accepted-fits h = let r = none-refuses (table_causes t) refl (own_causes t one two out) h in go r.0 (none-holds (own_causes t one two out) refl r.1)
    where
      go : refusal t ≡ 0 → NoneHolds (own_causes t one two out) → FittingThree t one two out × (calm ≡ true)
      go ok (cons w (cons o (cons a n))) = (fits ok w o, not-false calm a)

  -- a contradicted one
  pub contradicted-fits : merge_refusal t one two out ≡ 8 → FittingThree t one two out × (calm ≡ false)
  unfolding merge_refusal
  contradicted-fits h = let r = ((refused-by (merge_causes t one two out) refl).each (table_causes t ++ ((wrong_any t one two out, 5) ∷ (over_either one two, 7) ∷ [])) [] (not calm) 8 refl).0 h in go r.0 r.1
    where
      go : NoneHolds (table_causes t ++ ((wrong_any t one two out, 5) ∷ (over_either one two, 7) ∷ [])) → not calm ≡ true → FittingThree t one two out × (calm ≡ false)
      go (cons c1 (cons c2 (cons c3 (cons c4 (cons w (cons o n)))))) a = (fits (quiet (cons c1 (cons c2 (cons c3 (cons c4 nil))))) w o, not-true calm a)

  -- ---- the refusal is told
  pub refusal-told : (merge_answer t one two out).refusal ≡ merge_refusal t one two out
  refusal-told = at (merge_refusal t one two out) (kinds (size t) one two (places t)) (merge_outcome t one two) (handed_on (merge_refusal t one two out) (merge_fault t one two))
    where
      at : (r : ℕ) (k : List ℕ) (m : State) (f : Option Fault) → (merge_answer_at r k m f).refusal ≡ r
      at zero k m f = refl
      at (suc r) k m f = refl

  -- ---- the third block and map by the refusal
  pub after-accepted : merge_refusal t one two out ≡ 0 → merge_after t one two out ≡ record { block = joined (merge_outcome t one two).block; map = (merge_outcome t one two).map }
  after-accepted h = rw (h, merge_after)

  pub after-contradicted : merge_refusal t one two out ≡ 8 → merge_after t one two out ≡ third t one two
  after-contradicted h = rw (h, merge_after, h)

  pub after-refused : (r : ℕ) → merge_refusal t one two out ≡ r → eqb r 0 ≡ false → eqb r 8 ≡ false → merge_after t one two out ≡ out
  after-refused r h e0 e8 = rw (h, merge_after, e0, h, e8)

-- ---- the merged block and map fit the old repair
pub third-fits : (t : List ℕ) (one two out : Held) → FittingThree t one two out → Fitting t (third t one two).block (third t one two).map
third-fits t one two out f = record {
  table = f.first.table;
  block = merged-length (places t) (size t) one two f.first.block f.second.block;
  map-length = marks-length (places t) (size t) one two;
  map-bytes = marks-low (places t) (size t) one two;
}

-- its lost places are zero already
pub zeroed-already : (t : List ℕ) (one two out : Held) → FittingThree t one two out → block_if false t (third t one two).block (third t one two).map ≡ (third t one two).block
zeroed-already t one two out f = same-packets (size t) (places t) (block_if false t b map) b
    (joined_length (size t) (start-sized t b map ok g.block) ∙ ap (λ k. k * size t) (start-length t b map ok g.block)) g.block
    (λ p h. by_bool (is_lost map p)
    (λ e. cleared-zero t b map ok g.block p h e
    ∙ sym (merged-part (places t) (size t) one two f.first.block f.second.block p h
    ∙ lost-zero (size t) (heard_at (size t) one two p) (sym (mark-at (places t) (size t) one two p h) ∙ eqb-true (get_or map p 0) 1 e)))
    (λ e. cleared-kept t b map ok g.block p h e))
  where
    b : List ℕ
    b = (third t one two).block

    map : List ℕ
    map = (third t one two).map

    g : Fitting t b map
    g = third-fits t one two out f

    ok : refusal t ≡ 0
    ok = f.first.table
