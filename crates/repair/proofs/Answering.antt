-- What the call of repair answers, from what its parts leave.
use mathlib.Core.Path.{◌≡◌, refl, sym, ap, ap₂, ◌∙◌, subst}
use mathlib.Core.Bool.{Bool, true, false, true≢false, ◌||◌}
use mathlib.Core.List.{List}
use mathlib.Core.Option.{Option, none, some}
use Prim.Native.Nat.{ℕ, zero, suc, ◌*◌, ◌<◌}
use native.Mathlib.Omega.{arith}
use borrow.Author.Tests.{ne_eqb}
use lib.Dec.{eqb, ltb}
use lib.ListN.{length, set, length-set}
use Rattle.lists.specs.Lists.{any_of}
use Rattle.table.specs.PacketCall.{part_at}
use Rattle.table.specs.Packets.{packets, joined}
use Rattle.table.specs.Table.{places, size, checks, refusal}
use Rattle.table.specs.TableLaws.{refusal-small}
use Rattle.table.specs.Accepted.{Accepted}
use Rattle.erasure.proofs.OfferedLaws.{lengths-fit, offer-fits, none-handed, bytes-all, sized, low}
use Rattle.erasure.specs.Offered.{Fitting, wrong_lengths, handed_on}
use Rattle.erasure.proofs.OldBytes.{old-bytes, old-bytes-cleared}
use Rattle.erasure.proofs.OldRepair.{cleared-kept}
use Rattle.erasure.proofs.OutcomeLaws.{tally-two}
use Rattle.erasure.specs.Restoring.{none_lost, zero_lost, tally, outcome, contradicting, agreeing, Counts, counts_if, block_if, map_if, is_lost}
use Rattle.suspects.specs.Blame.{lost_too, only_suspect, blamed}
use Rattle.suspects.proofs.BlameLaws.{agreed-none, contradicted-only, only-is, only-alike, lost_too-known, lost_too-bytes}
use Rattle.trials.specs.Cleared.{Cleared}
use Rattle.faults.proofs.FaultLaws.{no-fault, some-fault, first-fault, nothing-told}
use Rattle.faults.specs.Faults.{Fault}
use Rattle.restore.specs.Mending.{counts_of, Mends}
use Rattle.restore.specs.MendsLaws.{agrees-told, check-told, byte-told}
use Rattle.std.specs.declared.result.Result.{Result}
use Rattle.std.specs.declared.result.Result.TheVariants.{Err}
use Rattle.refusals.proofs.Numbers.{number-some, nothing-on}
use Rattle.refusals.specs.Refusals.{number_of}
use Rattle.refusals.specs.declared.Fault.{Fault as FaultFound}
use Rattle.refusals.specs.declared.Refusal.{Refusal}
use Rattle.refusals.specs.declared.Refusal.TheVariants.{Buffer, Map}
use Rattle.table.specs.FirstCause.{wrong_length}
use Rattle.repair.specs.Parts.{Without}
use Rattle.repair.specs.Repair.{believed, marked, repair_refusal, Answers}
use Rattle.repair.specs.RepairLaws.{agreed-refusal, blamed-refusal, contradicted-refusal, table-refused, lengths-wrong, byte-over, block-accepted, block-contradicted, block_refused, map-accepted, map-refused}
use Rattle.report.specs.Report.{repair_answer_of, told_by, accepted_with, refused_with}
use Rattle.report.specs.declared.Repaired.{Repaired}

-- ---- what the core tells and leaves
module _ (t b l : List ℕ) (f : Fitting t b l) (d : Result Repaired FaultFound) (b₂ l₂ : List ℕ) (done : Mends t b l d b₂ l₂) where
  -- no contradiction
  module _ (yes : agreeing t b l ≡ true) where
    pub counts-then : accepted_with (counts_of d).restored (counts_of d).lost (counts_of d).additions ≡ accepted_with (tally 2 (outcome t b l).map) (tally 1 (outcome t b l).map) (outcome t b l).adds
    counts-then =
        let all : counts_of d ≡ counts_if none l (outcome t b l) = done.report ∙ ap (λ x. counts_if x l (outcome t b l)) (no-fault (contradicting t b l) yes) in
        let d2 : (counts_of d).restored ≡ tally 2 (outcome t b l).map = ap (λ (x : Counts). x.restored) all ∙ tally-two t b l (bytes-all l f.map-bytes) in
        let d3 : (counts_of d).lost ≡ tally 1 (outcome t b l).map = ap (λ (x : Counts). x.lost) all in
        let d4 : (counts_of d).additions ≡ (outcome t b l).adds = ap (λ (x : Counts). x.additions) all in
        rw (d2, d3, d4)

    pub block-then : b₂ ≡ joined (outcome t b l).block
    block-then = done.block-is ∙ ap (λ v. block_if v t b l) yes

    pub map-then : l₂ ≡ (outcome t b l).map
    map-then = done.map_is ∙ ap (λ v. map_if v t b l) yes

  pub answer-accepted : (counts_of d).agrees ≡ true → (r : Result Repaired Refusal) → repair_answer_of r ≡ accepted_with (counts_of d).restored (counts_of d).lost (counts_of d).additions → told_by r ≡ none → Answers t b l r b₂ l₂
  answer-accepted pass r e h =
      let yes : agreeing t b l ≡ true = sym (agrees-told t b l d b₂ l₂ done) ∙ pass in
      let ok : repair_refusal t b l ≡ 0 = agreed-refusal t b l f yes in
      let is : blamed t b l ≡ none = agreed-none t b l yes in
      record {
        report = e ∙ counts-then yes ∙ rw (ok, is);
        told = h ∙ sym (ap (λ k. handed_on k (contradicting t b l)) ok);
        block-is = block-then yes ∙ sym (block-accepted t b l ok ∙ ap (λ w. joined (outcome t b (believed w l)).block) is);
        map_is = map-then yes ∙ sym (map-accepted t b l ok ∙ ap (λ w. marked w (outcome t b (believed w l)).map) is);
      }

  -- a contradiction: the map is as it was, and lost places are zero
  module _ (fail : (counts_of d).agrees ≡ false) where
    contrary : agreeing t b l ≡ false
    contrary = sym (agrees-told t b l d b₂ l₂ done) ∙ fail

    cleared-then : b₂ ≡ joined (zero_lost (size t) l (packets (size t) (places t) b))
    cleared-then = done.block-is ∙ ap (λ v. block_if v t b l) contrary

    map-kept : l₂ ≡ l
    map-kept = done.map_is ∙ ap (λ v. map_if v t b l) contrary

    same : (p : ℕ) → p < places t → is_lost l p ≡ false → part_at (size t) p b ≡ part_at (size t) p b₂
    same p h e = sym (ap (part_at (size t) p) cleared-then ∙ cleared-kept t b l f.table f.block p h e)

    pub fits-then : length b₂ ≡ length b → Fitting t b₂ l₂
    fits-then long = record { table = f.table; block = long ∙ f.block; map-length = ap length map-kept ∙ f.map-length; map-bytes = ap (any_of (ltb 1)) map-kept ∙ f.map-bytes }

    pub cleared : (m n s : ℕ) → Accepted t m n s → length b₂ ≡ length b → Cleared n s b₂ l₂
    cleared m n s k long = record {
      bytes = long ∙ f.block ∙ sym (ap₂ ◌*◌ k.places-are k.size_is);
      marks = ap length map-kept ∙ f.map-length ∙ sym k.places-are;
      zero = cleared-then ∙ ap joined (old-bytes-cleared t b b₂ l same) ∙ ap (λ x. joined (zero_lost (size t) x (packets (size t) (places t) b₂))) (sym map-kept)
          ∙ sym (ap₂ (λ x y. joined (zero_lost y l₂ (packets y x b₂))) k.places-are k.size_is);
    }

    -- the byte that is told is one of a packet
    pub byte_inside : (counts_of d).byte < size t
    byte_inside = subst (λ x. x < size t) (sym (byte-told t b l d b₂ l₂ done))
        (first-fault (none_lost (outcome t b l).map) (size t) (outcome t b l).block (sized t b l f) (checks t) (low t b l f) _ (some-fault (contradicting t b l) contrary)).below

    -- the suspects are those of the block as it came
    only_then : blamed t b l ≡ only_suspect t b₂ l₂
    only_then = contradicted-only t b l contrary ∙ only-alike t b b₂ l same ∙ ap (only_suspect t b₂) (sym map-kept)

    -- the fault that is told is the contradiction
    fault-then : ◌≡◌ {A = Option Fault} (some (record { check = (counts_of d).check; byte = (counts_of d).byte })) (contradicting t b l)
    fault-then = ap₂ (λ x y. some (record { check = x; byte = y })) (check-told t b l d b₂ l₂ done) (byte-told t b l d b₂ l₂ done) ∙ sym (some-fault (contradicting t b l) contrary)

    -- nobody is blamed
    pub answer-contradicted : none ≡ only_suspect t b₂ l₂ → (b₃ l₃ : List ℕ) → b₃ ≡ b₂ → l₃ ≡ l₂
        → (r : Result Repaired Refusal) → repair_answer_of r ≡ refused_with 8 (counts_of d).check (counts_of d).byte
        → told_by r ≡ some (record { check = (counts_of d).check; byte = (counts_of d).byte }) → Answers t b l r b₃ l₃
    answer-contradicted is b₃ l₃ eb el r e h =
        let bad : repair_refusal t b l ≡ 8 = contradicted-refusal t b l f contrary (only_then ∙ sym is) in
        record {
          report = e ∙ rw bad (ap₂ (refused_with 8) (check-told t b l d b₂ l₂ done) (byte-told t b l d b₂ l₂ done));
          told = h ∙ fault-then ∙ sym (ap (λ k. handed_on k (contradicting t b l)) bad);
          block-is = eb ∙ cleared-then ∙ sym (block-contradicted t b l bad);
          map_is = el ∙ map-kept ∙ sym (map-refused t b l 8 bad refl);
        }

    -- place p is: what the repair without it asks for
    pub without-asks : (m n s : ℕ) → Accepted t m n s → length b₂ ≡ length b → (p : ℕ) → some p ≡ only_suspect t b₂ l₂ → (b₃ l₃ : List ℕ) → b₃ ≡ b₂ → l₃ ≡ l₂
        → Fitting t b₃ l₃ × ((p < n) × (agreeing t b₃ (lost_too l₃ p) ≡ true))
    without-asks m n s k long p is b₃ l₃ eb el =
        let it = (only-is t b₂ l₂ p (sym is)).it-is in
        let inside : p < n = subst (λ x. p < x) (sym k.places-are) it.inside in
        rw (eb, el) (fits-then long, (inside, it.agrees))

    pub answer-blamed : (p : ℕ) → some p ≡ only_suspect t b₂ l₂ → (b₃ l₃ : List ℕ) → b₃ ≡ b₂ → l₃ ≡ l₂
        → (r : Result Repaired Refusal) (b₄ l₄ : List ℕ) → Without t b₃ l₃ p r b₄ l₄ → Answers t b l r b₄ l₄
    answer-blamed p is b₃ l₃ eb el r b₄ l₄ w =
        let it : blamed t b l ≡ some p = only_then ∙ sym is in
        let ok : repair_refusal t b l ≡ 0 = blamed-refusal t b l f p it in
        let out : outcome t b₃ (lost_too l₃ p) ≡ outcome t b (lost_too l p) =
        ap₂ (λ x y. outcome t x (lost_too y p)) eb (el ∙ map-kept) ∙ sym (old-bytes t b b₂ (lost_too l p) (λ q h e. same q h (lost_too-known l p q e))) in
        record {
          report = w.report ∙ ap (λ x. accepted_with (tally 2 x.map) (tally 1 x.map) x.adds) out ∙ rw (ok, it);
          told = w.told ∙ sym (ap (λ k. handed_on k (contradicting t b l)) ok);
          block-is = w.block-is ∙ ap (λ x. joined x.block) out ∙ sym (block-accepted t b l ok ∙ ap (λ x. joined (outcome t b (believed x l)).block) it);
          map_is = w.map_is ∙ ap (λ x. set x.map p 3) out ∙ sym (map-accepted t b l ok ∙ ap (λ x. marked x (outcome t b (believed x l)).map) it);
        }

-- ---- the repair with place p marked lost too
pub without-fits : (t b l : List ℕ) (p : ℕ) → Fitting t b l → Fitting t b (lost_too l p)
without-fits t b l p f = record { table = f.table; block = f.block; map-length = length-set l p 1 ∙ f.map-length; map-bytes = lost_too-bytes l p f.map-bytes }

pub answer-without : (t b l : List ℕ) (p : ℕ) → Fitting t b l → agreeing t b (lost_too l p) ≡ true → (d : Result Repaired FaultFound) (b₂ l₂ : List ℕ) → Mends t b (lost_too l p) d b₂ l₂
    → (r : Result Repaired Refusal) → repair_answer_of r ≡ accepted_with (counts_of d).restored (counts_of d).lost (counts_of d).additions → told_by r ≡ none → Without t b l p r b₂ (set l₂ p 3)
answer-without t b l p f agrees d b₂ l₂ done r e h =
    let g = without-fits t b l p f in
    record {
      report = e ∙ counts-then t b (lost_too l p) g d b₂ l₂ done agrees;
      told = h;
      block-is = block-then t b (lost_too l p) g d b₂ l₂ done agrees;
      map_is = ap (λ x. set x p 3) (map-then t b (lost_too l p) g d b₂ l₂ done agrees);
    }

-- ---- a call that is refused before
pub answer-refused : (t b l : List ℕ) (c : ℕ) → repair_refusal t b l ≡ c → eqb c 0 ≡ false → eqb c 8 ≡ false
    → (r : Result Repaired Refusal) → repair_answer_of r ≡ refused_with c 0 0 → told_by r ≡ none → Answers t b l r b l
answer-refused t b l zero h e0 e8 r e n = absurd (true≢false e0)
answer-refused t b l (suc c) h e0 e8 r e n = record {
  report = e ∙ rw (h, none-handed (suc c) (contradicting t b l) e8);
  told = n ∙ sym (ap (λ k. handed_on k (contradicting t b l)) h ∙ none-handed (suc c) (contradicting t b l) e8);
  block-is = sym (block_refused t b l (suc c) h e0 e8);
  map_is = sym (map-refused t b l (suc c) h e0);
}

-- the causes in order
module _ (t b l : List ℕ) where
  pub answer-table : (q : Refusal) → number_of q ≡ refusal t → Answers t b l (Err q) b l
  answer-table q e =
      let z = refusal-small t in
      let ne : refusal t ≡ 0 → ⊥ = λ w. number-some q (e ∙ w) in
      let on = nothing-on q (λ w. omega (arith, e, w)) in
      answer-refused t b l (refusal t) (table-refused t b l ne) (ne_eqb (refusal t) 0 ne) (ne_eqb (refusal t) 8 (λ w. omega arith)) (Err q) (rw (on.0, on.1, e)) (nothing-told q (λ w. omega (arith, e, w)))

  module _ (m n s : ℕ) (k : Accepted t m n s) (w : Bool) (found : w ≡ (wrong_length (length b) (n * s) || wrong_length (length l) n)) where
    wrong-is : wrong_lengths t b l ≡ w
    wrong-is = sym (found ∙ ap₂ (λ x y. wrong_length (length b) (x * y) || wrong_length (length l) x) k.places-are k.size_is)

    pub answer-lengths : w ≡ true → Answers t b l (Err Buffer) b l
    answer-lengths y = answer-refused t b l 5 (lengths-wrong t b l k.accepted (wrong-is ∙ y)) refl refl (Err Buffer) refl refl

    module _ (fit : w ≡ false) (over : Bool) (is : over ≡ any_of (ltb 1) l) where
      pub answer-byte : over ≡ true → Answers t b l (Err Map) b l
      answer-byte y =
          let long = lengths-fit t b l (wrong-is ∙ fit) in
          answer-refused t b l 7 (byte-over t b l k.accepted long.0 long.1 (sym is ∙ y)) refl refl (Err Map) refl refl

      -- and a call that none of them refuses
      pub fitting : over ≡ false → Fitting t b l
      fitting y = offer-fits t b l k.accepted (wrong-is ∙ fit) (sym is ∙ y)

-- what such a call has
pub fit-bytes : (t : List ℕ) (m n s : ℕ) (b l : List ℕ) → Accepted t m n s → Fitting t b l → length b ≡ n * s
fit-bytes t m n s b l k f = f.block ∙ sym (ap₂ ◌*◌ k.places-are k.size_is)

pub fit-places : (t : List ℕ) (m n s : ℕ) (b l : List ℕ) → Accepted t m n s → Fitting t b l → length l ≡ n
fit-places t m n s b l k f = f.map-length ∙ sym k.places-are
