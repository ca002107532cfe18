-- What the call of merging answers, from what its parts leave.
use mathlib.Core.Path.{◌≡◌, refl, sym, ap, ap₂, ◌∙◌, subst}
use mathlib.Core.Bool.{Bool, true, false, cond, true≢false, ◌||◌}
use mathlib.Core.List.{List, map as each}
use mathlib.Core.Option.{Option, none, some}
use Prim.Native.Nat.{ℕ, zero, suc, ◌*◌}
use native.Mathlib.Omega.{arith}
use borrow.Author.Tests.{ne_eqb}
use lib.Dec.{eqb, ltb}
use lib.ListN.{length}
use Rattle.aerials.specs.Aerials.{kinds, merged}
use Rattle.aerials.proofs.MergedLaws.{marks-of-kinds}
use Rattle.packets.specs.Filling.{Sized}
use Rattle.erasure.specs.Offered.{Held, wrong_lengths, byte_over, handed_on}
use Rattle.erasure.proofs.OfferedLaws.{bytes-all, none-handed}
use Rattle.erasure.proofs.OutcomeLaws.{tally-two}
use Rattle.erasure.specs.Restoring.{Counts, tally, agreeing, counts_if, block_if, map_if}
use Rattle.faults.proofs.FaultLaws.{no-fault, some-fault, nothing-told}
use Rattle.faults.specs.Faults.{Fault}
use Rattle.lists.specs.Tests.{or_l, or_r, or-neither}
use Rattle.merge.specs.Merge.{third, merge_outcome, merge_fault, wrong_any, over_either, merge_refusal, MergeAnswer, merged_with, refused_with, merge_answer_of, Answers, FittingThree}
use Rattle.merge.proofs.MergeLaws.{zeroed-already, table-refused, length-refused, byte-refused, agreed-refusal, contradicted-refusal, fits, after-accepted, after-contradicted, after-refused, third-fits}
use Rattle.std.specs.declared.result.Result.{Result}
use Rattle.std.specs.declared.result.Result.TheVariants.{Err}
use Rattle.refusals.proofs.Numbers.{number-some, nothing-on}
use Rattle.refusals.specs.Refusals.{number_of}
use Rattle.refusals.specs.declared.Fault.{Fault as FaultFound}
use Rattle.refusals.specs.declared.Refusal.{Refusal}
use Rattle.refusals.specs.declared.Refusal.TheVariants.{Buffer, Map}
use Rattle.report.specs.Report.{told_by}
use Rattle.report.specs.declared.Repaired.{Repaired}
use Rattle.merge.specs.declared.Merged.{Merged}
use Rattle.restore.specs.Mending.{counts_of, Mends}
use Rattle.restore.specs.MendsLaws.{agrees-told, check-told, byte-told}
use Rattle.table.specs.Accepted.{Accepted}
use Rattle.table.specs.FirstCause.{wrong_length}
use Rattle.table.specs.Table.{places, size, refusal}
use Rattle.table.specs.TableLaws.{refusal-small}

-- ---- none of 1 to 7 refuses: what the core tells and leaves of the merged block and map
module _ (t : List ℕ) (one two out : Held) (f : FittingThree t one two out) (d : Result Repaired FaultFound) (b₃ map₃ b' map' : List ℕ)
    (block-is : b₃ ≡ (third t one two).block) (marks-are : map₃ ≡ (third t one two).map) (core : Mends t b₃ map₃ d b' map') where
  done : Mends t (third t one two).block (third t one two).map d b' map'
  done = subst (λ m. Mends t (third t one two).block m d b' map') marks-are (subst (λ b. Mends t b map₃ d b' map') block-is core)

  told : (counts_of d).agrees ≡ agreeing t (third t one two).block (third t one two).map
  told = agrees-told t (third t one two).block (third t one two).map d b' map' done

  pub answer-merged : (counts_of d).agrees ≡ true → (r : Result Merged Refusal) → merge_answer_of r ≡ merged_with (kinds (size t) one two (places t)) (counts_of d).restored (counts_of d).lost (counts_of d).additions
      → told_by r ≡ none → Answers t one two out r b' map'
  answer-merged pass r e h =
      let yes = sym told ∙ pass in
      let ok : merge_refusal t one two out ≡ 0 = agreed-refusal t one two out f yes in
      let k = kinds (size t) one two (places t) in
      let all : counts_of d ≡ counts_if none (third t one two).map (merge_outcome t one two) = done.report ∙ ap (λ x. counts_if x (third t one two).map (merge_outcome t one two)) (no-fault (merge_fault t one two) yes) in
      let d2 : (counts_of d).restored ≡ tally 2 (merge_outcome t one two).map = ap (λ (x : Counts). x.restored) all
      ∙ tally-two t (third t one two).block (third t one two).map (bytes-all (third t one two).map (third-fits t one two out f).map-bytes) in
      let d3 : (counts_of d).lost ≡ tally 1 (merge_outcome t one two).map = ap (λ (x : Counts). x.lost) all in
      let d4 : (counts_of d).additions ≡ (merge_outcome t one two).adds = ap (λ (x : Counts). x.additions) all in
      record {
        report = e ∙ ap (λ x. merged_with k x (counts_of d).lost (counts_of d).additions) d2 ∙ ap₂ (merged_with k (tally 2 (merge_outcome t one two).map)) d3 d4 ∙ rw ok;
        told = h ∙ sym (ap (λ x. handed_on x (merge_fault t one two)) ok);
        block-is = done.block-is ∙ ap (λ v. block_if v t (third t one two).block (third t one two).map) yes ∙ sym (ap (λ (x : Held). x.block) (after-accepted t one two out ok));
        map_is = done.map_is ∙ ap (λ v. map_if v t (third t one two).block (third t one two).map) yes ∙ sym (ap (λ (x : Held). x.map) (after-accepted t one two out ok));
      }

  pub answer-contradicted : (counts_of d).agrees ≡ false → (r : Result Merged Refusal) → merge_answer_of r ≡ refused_with 8 (counts_of d).check (counts_of d).byte
      → told_by r ≡ some (record { check = (counts_of d).check; byte = (counts_of d).byte }) → Answers t one two out r b' map'
  answer-contradicted fail r e h =
      let no = sym told ∙ fail in
      let bad : merge_refusal t one two out ≡ 8 = contradicted-refusal t one two out f no in
      let check-is = check-told t (third t one two).block (third t one two).map d b' map' done in
      let byte-is = byte-told t (third t one two).block (third t one two).map d b' map' done in
      record {
        report = e ∙ rw bad (ap₂ (refused_with 8) check-is byte-is);
        told = h ∙ ap₂ (λ x y. some (record { check = x; byte = y })) check-is byte-is ∙ sym (some-fault (merge_fault t one two) no) ∙ sym (ap (λ x. handed_on x (merge_fault t one two)) bad);
        block-is = done.block-is ∙ ap (λ v. block_if v t (third t one two).block (third t one two).map) no ∙ cleared-same ∙ sym (ap (λ (x : Held). x.block) (after-contradicted t one two out bad));
        map_is = done.map_is ∙ ap (λ v. map_if v t (third t one two).block (third t one two).map) no ∙ sym (ap (λ (x : Held). x.map) (after-contradicted t one two out bad));
      }
    where
      cleared-same : block_if false t (third t one two).block (third t one two).map ≡ (third t one two).block
      cleared-same = zeroed-already t one two out f

-- ---- a call that is refused before
pub answer-refused : (t : List ℕ) (one two out : Held) (c : ℕ) → merge_refusal t one two out ≡ c → eqb c 0 ≡ false → eqb c 8 ≡ false
    → (r : Result Merged Refusal) → merge_answer_of r ≡ refused_with c 0 0 → told_by r ≡ none → Answers t one two out r out.block out.map
answer-refused t one two out zero h e0 e8 r e n = absurd (true≢false e0)
answer-refused t one two out (suc c) h e0 e8 r e n = record {
  report = e ∙ rw (h, none-handed (suc c) (merge_fault t one two) e8);
  told = n ∙ sym (ap (λ x. handed_on x (merge_fault t one two)) h ∙ none-handed (suc c) (merge_fault t one two) e8);
  block-is = sym (ap (λ (x : Held). x.block) (after-refused t one two out (suc c) h e0 e8));
  map_is = sym (ap (λ (x : Held). x.map) (after-refused t one two out (suc c) h e0 e8));
}

-- the causes in order, each with what the code found before it
pub answer-table : (t : List ℕ) (one two out : Held) (q : Refusal) → number_of q ≡ refusal t → Answers t one two out (Err q) out.block out.map
answer-table t one two out q e =
    let z = refusal-small t in
    let ne : refusal t ≡ 0 → ⊥ = λ w. number-some q (e ∙ w) in
    let on = nothing-on q (λ w. omega (arith, e, w)) in
    answer-refused t one two out (refusal t) (table-refused t one two out ne) (ne_eqb (refusal t) 0 ne) (ne_eqb (refusal t) 8 (λ w. omega arith)) (Err q) (rw (on.0, on.1, e)) (nothing-told q (λ w. omega (arith, e, w)))

module _ (t : List ℕ) (one two out : Held) (m n s : ℕ) (k : Accepted t m n s) where
  -- v is what the code finds of the lengths of h
  abbrev Compared : Held → Bool → Type 0
  Compared h v = v ≡ (wrong_length (length h.block) (n * s) || wrong_length (length h.map) n)

  wrong-is : (h : Held) (v : Bool) → Compared h v → wrong_lengths t h.block h.map ≡ v
  wrong-is h v e = sym (e ∙ ap₂ (λ x y. wrong_length (length h.block) (x * y) || wrong_length (length h.map) x) k.places-are k.size_is)

  -- 5 by any of the three
  five : wrong_any t one two out ≡ true → Answers t one two out (Err Buffer) out.block out.map
  five w = answer-refused t one two out 5 (length-refused t one two out k.accepted w) refl refl (Err Buffer) refl refl

  pub answer-first : (v : Bool) → Compared one v → v ≡ true → Answers t one two out (Err Buffer) out.block out.map
  answer-first v e y = five (or_l (wrong_lengths t one.block one.map) _ (wrong-is one v e ∙ y))

  pub answer-second : (v : Bool) → Compared two v → v ≡ true → Answers t one two out (Err Buffer) out.block out.map
  answer-second v e y = five (or_r (wrong_lengths t one.block one.map) _ (or_l (wrong_lengths t two.block two.map) _ (wrong-is two v e ∙ y)))

  pub answer-third : (v : Bool) → Compared out v → v ≡ true → Answers t one two out (Err Buffer) out.block out.map
  answer-third v e y = five (or_r (wrong_lengths t one.block one.map) _ (or_r (wrong_lengths t two.block two.map) _ (wrong-is out v e ∙ y)))

  module _ (u v w : Bool) (e₁ : Compared one u) (e₂ : Compared two v) (e₃ : Compared out w) (y₁ : u ≡ false) (y₂ : v ≡ false) (y₃ : w ≡ false) where
    none-wrong : wrong_any t one two out ≡ false
    none-wrong = or-neither (wrong_lengths t one.block one.map) _ (wrong-is one u e₁ ∙ y₁)
        (or-neither (wrong_lengths t two.block two.map) _ (wrong-is two v e₂ ∙ y₂) (wrong-is out w e₃ ∙ y₃))

    -- 7 by either map
    seven : over_either one two ≡ true → Answers t one two out (Err Map) out.block out.map
    seven o = answer-refused t one two out 7 (byte-refused t one two out k.accepted none-wrong o) refl refl (Err Map) refl refl

    pub answer-byte-first : (o : Bool) → o ≡ byte_over one.map → o ≡ true → Answers t one two out (Err Map) out.block out.map
    answer-byte-first o e y = seven (or_l (byte_over one.map) (byte_over two.map) (sym e ∙ y))

    pub answer-byte-second : (o : Bool) → o ≡ byte_over two.map → o ≡ true → Answers t one two out (Err Map) out.block out.map
    answer-byte-second o e y = seven (or_r (byte_over one.map) (byte_over two.map) (sym e ∙ y))

    -- and a call that none of them refuses
    pub fitting : (o p : Bool) → o ≡ byte_over one.map → p ≡ byte_over two.map → o ≡ false → p ≡ false → FittingThree t one two out
    fitting o p e f y z = fits t one two out k.accepted none-wrong (or-neither (byte_over one.map) (byte_over two.map) (sym e ∙ y) (sym f ∙ z))

-- ---- what such a call has
module _ (t : List ℕ) (m n s : ℕ) (a : Accepted t m n s) where
  pub lent : (b map : List ℕ) → length b ≡ places t * size t → length map ≡ places t → Sized n s b map
  lent b map lb lm = record { bytes = lb ∙ sym (ap₂ ◌*◌ a.places-are a.size_is); marks = lm ∙ sym a.places-are }

  -- the parts leave the merged block and map, and the kinds
  module _ (one two : Held) where
    pub block-third : (b : List ℕ) → b ≡ (merged s one two n).block → b ≡ (third t one two).block
    block-third b e = e ∙ ap₂ (λ k l. (merged l one two k).block) a.places-are a.size_is

    pub kinds-all : (k : List ℕ) → k ≡ kinds s one two n → k ≡ kinds (size t) one two (places t)
    kinds-all k e = e ∙ ap₂ (λ x l. kinds l one two x) a.places-are a.size_is

    pub marks-third : (k map : List ℕ) → k ≡ kinds s one two n → map ≡ each (λ x. cond (ltb 1 x) 1 0) k → map ≡ (third t one two).map
    marks-third k map e f = f ∙ ap (each (λ x. cond (ltb 1 x) 1 0)) e ∙ marks-of-kinds n s one two ∙ ap₂ (λ x l. (merged l one two x).map) a.places-are a.size_is

-- the kinds as they were counted
pub counted : (k l : List ℕ) → k ≡ l → (a b c d x y z : ℕ) → a ≡ tally 0 k → b ≡ tally 1 k → c ≡ tally 2 k → d ≡ tally 3 k
    → ◌≡◌ {A = MergeAnswer} (record { refusal = 0; agreed = a; single = b; silent = c; clash = d; restored = x; lost = y; additions = z; check = 0; byte = 0 }) (merged_with l x y z)
counted k l e a b c d x y z p q r s = rw (p, q, r, s) (ap (λ v. merged_with v x y z) e)
