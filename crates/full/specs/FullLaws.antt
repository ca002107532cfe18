-- The call of full repair by cases: when it is refused, and what block, map and work are afterwards.
use Rattle.std.specs.Prelude.{◌≡◌, Bool, false, cond, ◌≢◌, ℕ, suc, ◌*◌, eqb, ltb, length, replicate}
use Rattle.std.proofs.Math.Path.{refl}
use Rattle.std.proofs.Common.{ap, ap₂, ◌∙◌, eq-eqb, ne_eqb}
use Rattle.std.proofs.Math.Bool.{true}
use mathlib.Core.List.{List, [], ◌∷◌, ◌++◌}
use Rattle.std.proofs.lemmas.Bool.{not-false}
use Rattle.decided.specs.Decided.{solved_block, solved_map}
use Rattle.erasure.specs.Offered.{wrong_lengths, byte_over}
use Rattle.erasure.specs.Restoring.{zero_lost}
use Rattle.full.specs.Full.{wrong_buffers, clashing, full_causes, full_refusal, full_refused, full_answer_at, full_answer, full_block_after, full_map_after, full_work_after, FittingAll}
use Rattle.lists.specs.Lists.{any_of, All.nil, All.cons}
use Rattle.lists.specs.Tests.{eqb-true, or-false-l, or-false-r}
use Rattle.repair.specs.RepairLaws as old
use Rattle.table.specs.FirstCause.{first_cause, wrong_length, NoneHolds}
use Rattle.table.specs.FirstCauseLaws.{none-holds, none-refuses, first-decides, rest-decides, quiet, refused-by}
use Rattle.table.specs.Packets.{packets, joined}
use Rattle.table.specs.Table.{places, size, checks, table_causes, refusal, work_words}

module _ (t b map work : List ℕ) where
  -- ---- the causes in their order
  -- those beyond the table's
  abbrev own : List (Bool × ℕ)
  own = (wrong_buffers t b map work, 5) ∷ (byte_over map, 7) ∷ (clashing t b map, 8) ∷ []

  pub table-refused : refusal t ≢ 0 → full_refusal t b map work ≡ refusal t
  unfolding full_refusal
  table-refused ne = first-decides (table_causes t) own ne

  -- once the table is accepted
  at_own : refusal t ≡ 0 → full_refusal t b map work ≡ first_cause own
  unfolding full_refusal
  at_own ok = rest-decides (none-holds (table_causes t) refl ok) own

  pub block-short : refusal t ≡ 0 → length b ≢ places t * size t → full_refusal t b map work ≡ 5
  block-short ok ne = at_own ok ∙ rw (ne_eqb (length b) (places t * size t) ne)

  pub map-short : refusal t ≡ 0 → length b ≡ places t * size t → length map ≢ places t → full_refusal t b map work ≡ 5
  map-short ok lb ne = at_own ok ∙ rw (eq-eqb (length b) (places t * size t) lb, ne_eqb (length map) (places t) ne)

  pub work-wrong : refusal t ≡ 0 → length b ≡ places t * size t → length map ≡ places t → length work ≢ work_words → full_refusal t b map work ≡ 5
  work-wrong ok lb lm ne = at_own ok ∙ rw (eq-eqb (length b) (places t * size t) lb, eq-eqb (length map) (places t) lm, ne_eqb (length work) work_words ne)

  pub byte-over : refusal t ≡ 0 → length b ≡ places t * size t → length map ≡ places t → length work ≡ work_words → any_of (ltb 1) map ≡ true → full_refusal t b map work ≡ 7
  byte-over ok lb lm lw over = at_own ok ∙ rw (eq-eqb (length b) (places t * size t) lb, eq-eqb (length map) (places t) lm, eq-eqb (length work) work_words lw, over)

  -- what is left then is 8 or nothing
  pub fitting-refusal : FittingAll t b map work → full_refusal t b map work ≡ cond (clashing t b map) 8 0
  fitting-refusal f = at_own f.old.table ∙ rw (eq-eqb (length b) (places t * size t) f.old.block, eq-eqb (length map) (places t) f.old.map-length, eq-eqb (length work) work_words f.room, f.old.map-bytes)

  -- the other way: no cause up to 7
  pub fits : NoneHolds ((wrong_buffers t b map work, 5) ∷ (byte_over map, 7) ∷ []) → refusal t ≡ 0 → FittingAll t b map work
  fits (cons w (cons o n)) ok = record {
    old = old.fits t b map (cons (or-false-l (wrong_lengths t b map) (wrong_length (length work) work_words) w) (cons o nil)) ok;
    room = eqb-true (length work) work_words (not-false (eqb (length work) work_words) (or-false-r (wrong_lengths t b map) (wrong_length (length work) work_words) w));
  }

  -- an accepted call, and what was tested
  pub accepted-fits : full_refusal t b map work ≡ 0 → FittingAll t b map work × (clashing t b map ≡ false)
  unfolding full_refusal
  accepted-fits h = let r = none-refuses (table_causes t) refl own h in go r.0 (none-holds own refl r.1)
    where
      go : refusal t ≡ 0 → NoneHolds own → FittingAll t b map work × (clashing t b map ≡ false)
      go ok (cons w (cons o (cons a n))) = (fits (cons w (cons o nil)) ok, a)

  -- one where no codeword agrees
  pub clashing-fits : full_refusal t b map work ≡ 8 → FittingAll t b map work × (clashing t b map ≡ true)
  unfolding full_refusal
  clashing-fits h = let r = ((refused-by (full_causes t b map work) refl).each (table_causes t ++ ((wrong_buffers t b map work, 5) ∷ (byte_over map, 7) ∷ [])) [] (clashing t b map) 8 refl).0 h in go r.0 r.1
    where
      go : NoneHolds (table_causes t ++ ((wrong_buffers t b map work, 5) ∷ (byte_over map, 7) ∷ [])) → clashing t b map ≡ true → FittingAll t b map work × (clashing t b map ≡ true)
      go (cons c1 (cons c2 (cons c3 (cons c4 n)))) a = (fits n (quiet (cons c1 (cons c2 (cons c3 (cons c4 nil))))), a)

  -- ---- block, map and work by the refusal
  pub block-accepted : full_refusal t b map work ≡ 0 → full_block_after t b map work ≡ joined (solved_block (places t) (size t) (checks t) (packets (size t) (places t) b) map)
  block-accepted h = rw (h, full_block_after)

  pub block-clashing : full_refusal t b map work ≡ 8 → full_block_after t b map work ≡ joined (zero_lost (size t) map (packets (size t) (places t) b))
  block-clashing h = rw (h, full_block_after, h)

  pub block_refused : (r : ℕ) → full_refusal t b map work ≡ r → eqb r 0 ≡ false → eqb r 8 ≡ false → full_block_after t b map work ≡ b
  block_refused r h e0 e8 = rw (h, full_block_after, e0, h, e8)

  pub map-accepted : full_refusal t b map work ≡ 0 → full_map_after t b map work ≡ solved_map (places t) (checks t) map
  map-accepted h = rw (h, full_map_after)

  pub map-refused : (r : ℕ) → full_refusal t b map work ≡ r → eqb r 0 ≡ false → full_map_after t b map work ≡ map
  map-refused r h e = rw (h, full_map_after, e)

  pub answer-accepted : full_refusal t b map work ≡ 0 → full_answer t b map work ≡ full_answer_at 0 (solved_map (places t) (checks t) map)
  answer-accepted h = ap₂ full_answer_at h (map-accepted h)

  pub answer-refused : (r : ℕ) → full_refusal t b map work ≡ suc r → full_answer t b map work ≡ full_refused (suc r)
  answer-refused r h = ap (λ k. full_answer_at k (full_map_after t b map work)) h

  pub work-accepted : full_refusal t b map work ≡ 0 → full_work_after t b map work ≡ replicate work_words 0
  work-accepted h = rw (h, full_work_after)

  pub work-clashing : full_refusal t b map work ≡ 8 → full_work_after t b map work ≡ replicate work_words 0
  work-clashing h = rw (h, full_work_after, h)

  pub work-refused : (r : ℕ) → full_refusal t b map work ≡ r → eqb r 0 ≡ false → eqb r 8 ≡ false → full_work_after t b map work ≡ work
  work-refused r h e0 e8 = rw (h, full_work_after, e0, h, e8)
