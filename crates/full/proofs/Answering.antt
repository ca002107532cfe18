-- What the call of full repair answers, from what its parts leave.
use mathlib.Core.Path.{◌≡◌, refl, sym, ap, ap₂, ◌∙◌, subst}
use mathlib.Core.Bool.{Bool, true, false, cond, ◌||◌, true≢false}
use mathlib.Core.List.{List}
use mathlib.Core.Option.{none}
use Prim.Native.Nat.{ℕ, zero, suc, ◌*◌, ◌<◌, ◌≤◌}
use native.Mathlib.Omega.{arith}
use borrow.Author.Tests.{ne_eqb}
use lib.Dec.{eqb, ltb}
use lib.ListN.{length, replicate}
use Rattle.erasure.proofs.OldBytes.{zero-alike}
use Rattle.erasure.specs.Restoring.{zero_lost}
use Rattle.full.specs.Deciding.{Decides}
use Rattle.full.specs.Full.{FittingAll, clashing, full_refusal, full_answer_of, full_answer_at, full_refused, Answers}
use Rattle.full.specs.FullLaws.{fitting-refusal, table-refused, block-short, map-short, work-wrong, byte-over, answer-accepted, answer-refused, block-accepted, block-clashing, block_refused, map-accepted, map-refused, work-accepted, work-clashing, work-refused}
use Rattle.std.specs.declared.result.Result.{Result}
use Rattle.std.specs.declared.result.Result.TheVariants.{Err}
use Rattle.std.proofs.lemmas.Bool.{not-false}
use Rattle.refusals.specs.Refusals.{number_of}
use Rattle.refusals.specs.declared.Refusal.{Refusal}
use Rattle.refusals.specs.declared.Refusal.TheVariants.{Buffer, Map}
use Rattle.refusals.proofs.Numbers.{number-some, nothing-on}
use Rattle.faults.proofs.FaultLaws.{nothing-told}
use Rattle.full.specs.declared.FullyRepaired.{FullyRepaired}
use Rattle.lists.specs.Lists.{any_of}
use Rattle.report.specs.Report.{told_by}
use Rattle.lists.specs.Tests.{not_same, by_bool, eqb-true, eqb-false, or-false-l, or-false-r}
use Rattle.table.specs.FirstCause.{wrong_length}
use Rattle.table.specs.Accepted.{Accepted, few-checks}
use Rattle.table.specs.PacketLaws.{packets-length}
use Rattle.table.specs.Packets.{packets, joined}
use Rattle.table.specs.Table.{places, size, refusal, work_words}
use Rattle.table.specs.TableLaws.{refusal-small}

-- ---- the call, from what was decided
module _ (t b l w : List ℕ) (f : FittingAll t b l w) (d : Bool) (b₂ l₂ : List ℕ) (done : Decides t b l d b₂ l₂) where
  -- some codeword agrees
  pub answer-decided : d ≡ true → (r : Result FullyRepaired Refusal) → full_answer_of r ≡ full_answer_at 0 l₂ → told_by r ≡ none
      → (w₂ : List ℕ) → w₂ ≡ replicate (length w) 0 → Answers t b l w r b₂ l₂ w₂
  answer-decided holds r e h w₂ z =
      let calm : clashing t b l ≡ false = not_same (clashing t b l) false (sym done.agrees ∙ holds) in
      let ok : full_refusal t b l w ≡ 0 = fitting-refusal t b l w f ∙ ap (λ (v : Bool). cond v 8 0) calm in
      record {
        report = e ∙ ap (full_answer_at 0) (done.map_is holds) ∙ sym (answer-accepted t b l w ok);
        told = h;
        block-is = done.block-is holds ∙ sym (block-accepted t b l w ok);
        map_is = done.map_is holds ∙ sym (map-accepted t b l w ok);
        work-is = z ∙ ap (λ (k : ℕ). replicate k 0) f.room ∙ sym (work-accepted t b l w ok);
      }

  -- none does
  pub answer-clashing : (m n s : ℕ) → Accepted t m n s → d ≡ false → (r : Result FullyRepaired Refusal) → full_answer_of r ≡ full_refused 8 → told_by r ≡ none → (w₂ : List ℕ) → w₂ ≡ replicate (length w) 0
      → (l₃ b₃ : List ℕ) → l₃ ≡ l → b₃ ≡ joined (zero_lost s l₃ (packets s n b₂)) → Answers t b l w r b₃ l₃ w₂
  answer-clashing m n s k fails r e h w₂ z l₃ b₃ back g =
      let clash : clashing t b l ≡ true = not_same (clashing t b l) true (sym done.agrees ∙ fails) in
      let bad : full_refusal t b l w ≡ 8 = fitting-refusal t b l w f ∙ ap (λ (v : Bool). cond v 8 0) clash in
      let len = packets-length (size t) (places t) b₂ in
      let again : zero_lost s l₃ (packets s n b₂) ≡ zero_lost (size t) l (packets (size t) (places t) b) =
      ap₂ (λ x y. zero_lost x l₃ (packets x y b₂)) k.size_is k.places-are ∙ ap (λ x. zero_lost (size t) x (packets (size t) (places t) b₂)) back
      ∙ zero-alike (size t) l (packets (size t) (places t) b₂) (packets (size t) (places t) b) (len ∙ sym (packets-length (size t) (places t) b))
      (λ p h q. done.received p (subst (λ (x : ℕ). p < x) len h) q) in
      record {
        report = e ∙ sym (answer-refused t b l w 7 bad);
        told = h;
        block-is = g ∙ ap joined again ∙ sym (block-clashing t b l w bad);
        map_is = back ∙ sym (map-refused t b l w 8 bad refl);
        work-is = z ∙ ap (λ (k : ℕ). replicate k 0) f.room ∙ sym (work-clashing t b l w bad);
      }

-- ---- a call that is refused before
pub answer-before : (t b l w : List ℕ) (c : ℕ) → full_refusal t b l w ≡ c → eqb c 0 ≡ false → eqb c 8 ≡ false
    → (r : Result FullyRepaired Refusal) → full_answer_of r ≡ full_refused c → told_by r ≡ none → Answers t b l w r b l w
answer-before t b l w zero h e0 e8 r e n = absurd (true≢false e0)
answer-before t b l w (suc c) h e0 e8 r e n = record {
  report = e ∙ sym (answer-refused t b l w c h);
  told = n;
  block-is = sym (block_refused t b l w (suc c) h e0 e8);
  map_is = sym (map-refused t b l w (suc c) h e0);
  work-is = sym (work-refused t b l w (suc c) h e0 e8);
}

-- the causes in order, each with what the code found before it
pub answer-table : (t b l w : List ℕ) (q : Refusal) → number_of q ≡ refusal t → Answers t b l w (Err q) b l w
answer-table t b l w q e =
    let small = refusal-small t in
    let ne : refusal t ≡ 0 → ⊥ = λ z. number-some q (e ∙ z) in
    let other : number_of q ≡ 8 → ⊥ = λ z. omega (arith, e, z, small) in
    let on = nothing-on q other in
    answer-before t b l w (refusal t) (table-refused t b l w ne) (ne_eqb (refusal t) 0 ne) (ne_eqb (refusal t) 8 (λ z. omega arith)) (Err q) (rw (e, on.0, on.1) refl) (nothing-told q other)

module _ (t : List ℕ) (m n s : ℕ) (k : Accepted t m n s) (b l w : List ℕ) where
  pub answer-lengths : (wrong_length (length b) (n * s) || wrong_length (length l) n) ≡ true → Answers t b l w (Err Buffer) b l w
  answer-lengths h = answer-before t b l w 5 (by_bool (eqb (length b) (n * s))
      (λ e. by_bool (eqb (length l) n)
      (λ f. absurd (true≢false (sym h ∙ rw (e, f) refl)))
      (λ f. map-short t b l w k.accepted (eqb-true (length b) (n * s) e ∙ ap₂ ◌*◌ k.places-are k.size_is) (λ q. eqb-false (length l) n f (q ∙ sym k.places-are))))
      (λ e. block-short t b l w k.accepted (λ q. eqb-false (length b) (n * s) e (q ∙ sym (ap₂ ◌*◌ k.places-are k.size_is))))) refl refl (Err Buffer) refl refl

  module _ (right : (wrong_length (length b) (n * s) || wrong_length (length l) n) ≡ false) where
    block-right : length b ≡ places t * size t
    block-right = eqb-true (length b) (n * s) (not-false (eqb (length b) (n * s)) (or-false-l (wrong_length (length b) (n * s)) (wrong_length (length l) n) right)) ∙ ap₂ ◌*◌ k.places-are k.size_is

    map-right : length l ≡ places t
    map-right = eqb-true (length l) n (not-false (eqb (length l) n) (or-false-r (wrong_length (length b) (n * s)) (wrong_length (length l) n) right)) ∙ k.places-are

    pub answer-work : (length w ≡ work_words → ⊥) → Answers t b l w (Err Buffer) b l w
    answer-work ne = answer-before t b l w 5 (work-wrong t b l w k.accepted block-right map-right ne) refl refl (Err Buffer) refl refl

    module _ (lw : length w ≡ work_words) where
      pub answer-byte : any_of (ltb 1) l ≡ true → Answers t b l w (Err Map) b l w
      answer-byte over = answer-before t b l w 7 (byte-over t b l w k.accepted block-right map-right lw over) refl refl (Err Map) refl refl

      -- and a call that none of them refuses
      pub fitting : any_of (ltb 1) l ≡ false → FittingAll t b l w
      fitting low = record { old = record { table = k.accepted; block = block-right; map-length = map-right; map-bytes = low }; room = lw }

-- ---- what such a call has
module _ (t : List ℕ) (m n s : ℕ) (k : Accepted t m n s) (b l w : List ℕ) (f : FittingAll t b l w) where
  pub fit-bytes : length b ≡ n * s
  fit-bytes = f.old.block ∙ sym (ap₂ ◌*◌ k.places-are k.size_is)

  pub fit-places : length l ≡ n
  fit-places = f.old.map-length ∙ sym k.places-are

  pub fit-rows : m * 16 ≤ length w
  fit-rows = omega (arith, f.room, few-checks t m n s k)
