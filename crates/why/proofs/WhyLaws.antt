-- The call by cases: when it is refused, and what each buffer holds then.
use Rattle.std.specs.Prelude.{◌≡◌, Bool, false, cond, not, List, [], ◌∷◌, ◌++◌, ◌≢◌, ℕ, zero, suc, ◌-◌, ◌*◌, ◌<◌, eqb, length, replicate}
use Rattle.std.proofs.Math.Path.{refl, sym}
use Rattle.std.proofs.Common.{ap, ◌∙◌, true≢false, arith}
use Rattle.std.proofs.Math.Bool.{true}
use borrow.Author.Tests.{eq-eqb, ne_eqb, not-false, ltb-true, ltb-false}
use Rattle.std.proofs.Math.Dec.{ltb}
use Rattle.erasure.specs.Offered.{byte_over}
use Rattle.full.specs.Full.{wrong_buffers, clashing, full_refusal, full_block_after, full_map_after, full_work_after, FittingAll}
use Rattle.full.specs.FullLaws.{fits, fitting-refusal, block_refused, map-refused, work-refused}
use Rattle.lists.specs.Lists.{All, All.nil, All.cons}
use Rattle.lists.specs.Tests.{by_bool, eqb-true, or-false-l, or-false-r}
use Rattle.table.specs.FirstCause.{first_cause, wrong_length, NoneHolds}
use Rattle.table.specs.FirstCauseLaws.{none-holds, none-refuses, first-decides, rest-decides}
use Rattle.reasons.specs.Reasons.{kind_of}
use Rattle.table.specs.Table.{places, size, checks, table_causes, refusal, work_words}
use Rattle.why.specs.Why.{not_below, own_causes, early_causes, why_refusal, why_answer_at, why_answer, as_full, why_block_after, why_map_after, why_work_after, reason_after, reason_numbers}

-- a refusal by causes of which none has the number k isn't k
other-number : (k : ℕ) → eqb 0 k ≡ false → {cs : List (Bool × ℕ)} → All (λ c. eqb c.1 k ≡ false) cs → eqb (first_cause cs) k ≡ false
other-number k z nil = z
other-number k z (cons {x = c} e a) = by_bool c.0 (λ h. rw h e) (λ h. rw h (other-number k z a))

module _ (t b map work : List ℕ) (p : ℕ) (reason : List ℕ) where
  -- the first of 1 to 5, 7 and 14
  abbrev pub early : ℕ
  early = first_cause (early_causes t b map work p reason)

  -- the causes beyond the table's
  abbrev own : List (Bool × ℕ)
  own = own_causes t b map work p reason

  pub early-table : refusal t ≢ 0 → early ≡ refusal t
  early-table ne = first-decides (table_causes t) own ne

  at_own : refusal t ≡ 0 → early ≡ first_cause own
  at_own ok = rest-decides (none-holds (table_causes t) refl ok) own

  module _ (ok : refusal t ≡ 0) where
    pub early-block : length b ≢ places t * size t → early ≡ 5
    early-block ne = at_own ok ∙ rw (ne_eqb (length b) (places t * size t) ne)

    module _ (lb : length b ≡ places t * size t) where
      pub early-map : length map ≢ places t → early ≡ 5
      early-map ne = at_own ok ∙ rw (eq-eqb (length b) (places t * size t) lb, ne_eqb (length map) (places t) ne)

      module _ (lm : length map ≡ places t) where
        pub early-work : length work ≢ work_words → early ≡ 5
        early-work ne = at_own ok ∙ rw (eq-eqb (length b) (places t * size t) lb, eq-eqb (length map) (places t) lm, ne_eqb (length work) work_words ne)

        module _ (lw : length work ≡ work_words) where
          pub early-reason : length reason ≢ reason_numbers → early ≡ 5
          early-reason ne = at_own ok ∙ rw (eq-eqb (length b) (places t * size t) lb, eq-eqb (length map) (places t) lm, eq-eqb (length work) work_words lw, ne_eqb (length reason) reason_numbers ne)

          module _ (lr : length reason ≡ reason_numbers) where
            pub early-byte : byte_over map ≡ true → early ≡ 7
            early-byte o = at_own ok ∙ rw (eq-eqb (length b) (places t * size t) lb, eq-eqb (length map) (places t) lm, eq-eqb (length work) work_words lw, eq-eqb (length reason) reason_numbers lr, o)

            pub early-place : byte_over map ≡ false → early ≡ cond (not_below p (places t)) 14 0
            early-place o = at_own ok ∙ rw (eq-eqb (length b) (places t * size t) lb, eq-eqb (length map) (places t) lm, eq-eqb (length work) work_words lw, eq-eqb (length reason) reason_numbers lr, o)

  -- the other way: none of them holds
  pub record Fits : Type 0 where
    pub full : FittingAll t b map work
    pub room : length reason ≡ reason_numbers
    pub below : p < places t

  pub early-fits : early ≡ 0 → Fits
  early-fits h = let r = none-refuses (table_causes t) refl own h in go r.0 (none-holds own refl r.1)
    where
      go : refusal t ≡ 0 → NoneHolds own → Fits
      go ok (cons w (cons o (cons n e))) = record {
        full = fits t b map work (cons (or-false-l (wrong_buffers t b map work) (wrong_length (length reason) reason_numbers) w) (cons o nil)) ok;
        room = eqb-true (length reason) reason_numbers (not-false (eqb (length reason) reason_numbers) (or-false-r (wrong_buffers t b map work) (wrong_length (length reason) reason_numbers) w));
        below = ltb-true p (places t) (not-false (ltb p (places t)) n);
      }

  -- ---- the refusal
  pub refused-early : early ≢ 0 → why_refusal t b map work p reason ≡ early
  unfolding why_refusal
  refused-early ne = first-decides (early_causes t b map work p reason) ((clashing t b map, 8) ∷ []) ne

  -- accepted: none of them holds
  pub accepted-fits : why_refusal t b map work p reason ≡ 0 → Fits
  unfolding why_refusal
  accepted-fits h = early-fits (none-refuses (early_causes t b map work p reason) refl ((clashing t b map, 8) ∷ []) h).0

  not_eight : eqb early 8 ≡ false
  not_eight = other-number 8 refl {cs = early_causes t b map work p reason} (cons refl (cons refl (cons refl (cons refl (cons refl (cons refl (cons refl nil)))))))

  pub early-other : early ≡ 8 → ⊥
  early-other h = true≢false (sym (eq-eqb early 8 h) ∙ not_eight)

  -- none of 1 to 7 and 14 refuses: full repair's
  pub refused_full : Fits → why_refusal t b map work p reason ≡ full_refusal t b map work
  unfolding why_refusal
  refused_full f = rest-decides {cs = early_causes t b map work p reason} none ((clashing t b map, 8) ∷ []) ∙ sym (fitting-refusal t b map work f.full)
    where
      none : NoneHolds (early_causes t b map work p reason)
      none = none-holds (early_causes t b map work p reason) refl (early-place f.full.old.table f.full.old.block f.full.old.map-length f.full.room f.room f.full.old.map-bytes ∙ below-quiet (ltb p (places t)) is_below)
        where
          is_below : ltb p (places t) ≡ true
          is_below = by_bool (ltb p (places t)) (λ e. e) (λ e. let k = ltb-false p (places t) e in let h = f.below in absurd (omega arith))

          below-quiet : (v : Bool) → v ≡ true → ◌≡◌ {A = ℕ} (cond (not v) 14 0) 0
          below-quiet true e = refl
          below-quiet false e = absurd (true≢false (sym e))

  -- ---- the buffers
  -- refused before the repair: kept
  module _ (ne : early ≢ 0) where
    kept_by : {A : Type 0} (x y : A) → (full_refusal t b map work ≡ early → x ≡ y) → elim (as_full t b map work p reason) [ true ↦ x | false ↦ y ] ≡ y
    kept_by x y same = by_bool (as_full t b map work p reason)
        (λ e. rw e (same (sym (eqb-true (why_refusal t b map work p reason) (full_refusal t b map work) e) ∙ refused-early ne)))
        (λ e. rw e)

    pub block-kept : why_block_after t b map work p reason ≡ b
    block-kept = kept_by (full_block_after t b map work) b (λ h. block_refused t b map work early h (ne_eqb early 0 ne) not_eight)

    pub map-kept : why_map_after t b map work p reason ≡ map
    map-kept = kept_by (full_map_after t b map work) map (λ h. map-refused t b map work early h (ne_eqb early 0 ne))

    pub work-kept : why_work_after t b map work p reason ≡ work
    work-kept = kept_by (full_work_after t b map work) work (λ h. work-refused t b map work early h (ne_eqb early 0 ne) not_eight)

  -- the repair ran: as it leaves them
  module _ (f : Fits) where
    ran : as_full t b map work p reason ≡ true
    ran = eq-eqb (why_refusal t b map work p reason) (full_refusal t b map work) (refused_full f)

    pub block-ran : why_block_after t b map work p reason ≡ full_block_after t b map work
    block-ran = rw (ran, why_block_after)

    pub map-ran : why_map_after t b map work p reason ≡ full_map_after t b map work
    map-ran = rw (ran, why_map_after)

    pub work-ran : why_work_after t b map work p reason ≡ full_work_after t b map work
    work-ran = rw (ran, why_work_after)

  -- ---- the answer
  answer-told : (r kind : ℕ) (list after : List ℕ) → (why_answer_at r kind list after).refusal ≡ r
  answer-told zero kind list after = refl
  answer-told (suc r) kind list after = refl

  pub refusal-told : (list : List ℕ) → (why_answer t b map work p reason list).refusal ≡ why_refusal t b map work p reason
  refusal-told list = answer-told (why_refusal t b map work p reason) (kind_of map (checks t) p) list (why_map_after t b map work p reason)

  -- accepted: by the kind and the list
  pub answer-accepted : why_refusal t b map work p reason ≡ 0 → (list : List ℕ) → why_answer t b map work p reason list ≡ why_answer_at 0 (kind_of map (checks t) p) list (why_map_after t b map work p reason)
  answer-accepted h list = ap (λ r. why_answer_at r (kind_of map (checks t) p) list (why_map_after t b map work p reason)) h

  pub buffer-accepted : why_refusal t b map work p reason ≡ 0 → (list : List ℕ) → reason_after t b map work p reason list ≡ list ++ replicate (reason_numbers - length list) 0
  buffer-accepted h list = rw (h, reason_after)
