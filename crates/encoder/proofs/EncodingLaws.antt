-- What is said of every encoding: its refusals, what a refused one leaves, and its count.
use Rattle.std.specs.Prelude.{◌≡◌, refl, Bool, true, false, cond, ◌||◌, List, [], ◌∷◌, ◌++◌, ℕ, zero, suc, ◌*◌, ◌≤◌, min, eqb, take, drop}
use Rattle.std.proofs.Common.{sym, ap, ◌∙◌, ⊎_elim, arith, eq-eqb, ne_eqb, eqb-true, take_all}
use Rattle.std.proofs.Math.Nat.{min-eq_left, min-eq_right}
use Rattle.std.proofs.lemmas.Bool.{not-false}
use Rattle.lists.specs.Lists.{All.cons}
use Rattle.lists.specs.Tests.{by_bool, side, or-false-l, or-false-r}
use Rattle.table.specs.FirstCause.{first_cause, wrong_length, NoneHolds}
use Rattle.table.specs.FirstCauseLaws.{none-holds, none-refuses, first-decides, rest-decides}
use Rattle.table.specs.Packets.{joined}
use Rattle.plan.specs.Layout.{plan_places, plan_gap, info_count, step_count, steps_of, plan_causes, plan_refusal}
use Rattle.plan.specs.LayoutLaws.{well, steps-length}
use Rattle.plan.specs.Step.{add_steps}
use Rattle.encoder.specs.Encoding.{steps_within, slots_after, wrong_size, wrong_lengths, encode_refusal_at, EncodeAnswer, refused_by, encode_answer_at, encode_refusal, encode_answer, encode_block_after, encode_scratch_after}

-- ---- the refusal
-- an encoding at s bytes a packet, of information, block and scratch of i, b and c bytes, that is not refused
pub record AcceptedEncoding (w : List ℕ) (s i b c : ℕ) : Type 0 where
  pub size : wrong_size s ≡ false
  pub plan : plan_refusal w ≡ 0
  pub information : i ≡ info_count w * s
  pub block : b ≡ plan_places w * s
  pub scratch : c ≡ plan_gap w * s

module _ (w : List ℕ) (s i b c : ℕ) where
  -- the causes beyond the plan's
  abbrev own : List (Bool × ℕ)
  own = (wrong_lengths w s i b c, 5) ∷ []

  pub refused-size : wrong_size s ≡ true → encode_refusal_at w s i b c ≡ 2
  unfolding encode_refusal_at
  refused-size h = rw h

  -- once the size is right
  at-plan : wrong_size s ≡ false → encode_refusal_at w s i b c ≡ first_cause (plan_causes w ++ own)
  unfolding encode_refusal_at
  at-plan h = rw h

  pub refused-plan : wrong_size s ≡ false → (plan_refusal w ≡ 0 → ⊥) → encode_refusal_at w s i b c ≡ plan_refusal w
  refused-plan z h = at-plan z ∙ first-decides (plan_causes w) own h

  -- once the plan is accepted
  at-lengths : wrong_size s ≡ false → plan_refusal w ≡ 0 → encode_refusal_at w s i b c ≡ first_cause own
  at-lengths z p = at-plan z ∙ rest-decides (none-holds (plan_causes w) refl p) own

  pub refused-lengths : wrong_size s ≡ false → plan_refusal w ≡ 0 → wrong_lengths w s i b c ≡ true → encode_refusal_at w s i b c ≡ 5
  refused-lengths z p h = at-lengths z p ∙ ap (λ (x : Bool). cond x 5 0) h

  pub not-refused-at : AcceptedEncoding w s i b c → encode_refusal_at w s i b c ≡ 0
  not-refused-at a = at-lengths a.size a.plan ∙ rw (
    eq-eqb i (info_count w * s) a.information,
    eq-eqb b (plan_places w * s) a.block,
    eq-eqb c (plan_gap w * s) a.scratch,
  )

  -- no wrong length
  pub right-lengths : wrong_size s ≡ false → plan_refusal w ≡ 0 → wrong_lengths w s i b c ≡ false → AcceptedEncoding w s i b c
  right-lengths z p h =
      let u = wrong_length i (info_count w * s) in let v = wrong_length b (plan_places w * s) in let x = wrong_length c (plan_gap w * s) in
      let r = or-false-r u (v || x) h in
      record { size = z; plan = p; information = same (or-false-l u (v || x) h); block = same (or-false-l v x r); scratch = same (or-false-r v x r) }
    where
      same : {x y : ℕ} → wrong_length x y ≡ false → x ≡ y
      same {x} {y} e = eqb-true x y (not-false (eqb x y) e)

  -- 0 says accepted
  pub accepted : encode_refusal_at w s i b c ≡ 0 → AcceptedEncoding w s i b c
  accepted h = by_bool (wrong_size s)
      (λ z. absurd (two (sym (refused-size z) ∙ h)))
      (λ z. let r = none-refuses (plan_causes w) refl own (sym (at-plan z) ∙ h) in go z r.0 (none-holds own refl r.1))
    where
      two : ◌≡◌ {A = ℕ} 2 0 → ⊥
      two e = omega arith

      go : wrong_size s ≡ false → plan_refusal w ≡ 0 → NoneHolds own → AcceptedEncoding w s i b c
      go z p (cons e n) = right-lengths z p e

-- ---- the answer and the buffers
module _ (w : List ℕ) (s : ℕ) (information block scratch : List ℕ) (limit : ℕ) where
  abbrev cause : ℕ
  cause = encode_refusal w s information block scratch

  -- refused: the buffers as they were, count 0
  pub refused-answer : (cause ≡ 0 → ⊥) → encode_answer w s information block scratch limit ≡ refused_by cause
  refused-answer h = go cause h
    where
      go : (r : ℕ) → (r ≡ 0 → ⊥) → encode_answer_at r (add_steps (steps_within w limit)) ≡ refused_by r
      go zero k = absurd (k refl)
      go (suc r) k = refl

  pub refused-keeps-block : (cause ≡ 0 → ⊥) → encode_block_after w s information block scratch limit ≡ block
  refused-keeps-block h = rw (ne_eqb cause 0 h, encode_block_after)

  pub refused-keeps-scratch : (cause ≡ 0 → ⊥) → encode_scratch_after w s information block scratch limit ≡ scratch
  refused-keeps-scratch h = rw (ne_eqb cause 0 h, encode_scratch_after)

  -- accepted: what the steps within the limit give
  pub accepted-answer : cause ≡ 0 → encode_answer w s information block scratch limit ≡ record { refusal = 0; additions = add_steps (steps_within w limit) }
  accepted-answer h = ap (λ (r : ℕ). encode_answer_at r (add_steps (steps_within w limit))) h

  pub accepted-block : cause ≡ 0 → encode_block_after w s information block scratch limit ≡ joined (take (plan_places w) (slots_after w s information limit))
  accepted-block h = rw (eq-eqb cause 0 h, encode_block_after)

  pub accepted-scratch : cause ≡ 0 → encode_scratch_after w s information block scratch limit ≡ joined (drop (plan_places w) (slots_after w s information limit))
  accepted-scratch h = rw (eq-eqb cause 0 h, encode_scratch_after)

  -- the count reported under a limit is the number of add steps among the first so many
  pub count-within : cause ≡ 0 → (encode_answer w s information block scratch limit).additions ≡ add_steps (take limit (steps_of w))
  count-within h = ap (λ (a : EncodeAnswer). a.additions) (accepted-answer h)

-- plan and limit alone decide it
pub count-alike : (w : List ℕ) (limit s : ℕ) (i b c : List ℕ) (s' : ℕ) (i' b' c' : List ℕ) → encode_refusal w s i b c ≡ 0 → encode_refusal w s' i' b' c' ≡ 0
    → (encode_answer w s i b c limit).additions ≡ (encode_answer w s' i' b' c' limit).additions
count-alike w limit s i b c s' i' b' c' h k = count-within w s i b c limit h ∙ sym (count-within w s' i' b' c' limit k)

-- a limit at or above the plan's count means all
pub limit-all : (w : List ℕ) (limit : ℕ) → plan_refusal w ≡ 0 → step_count w ≤ limit → steps_within w limit ≡ steps_of w
limit-all w limit h l = take_all limit (steps_of w) (let e = steps-length w (well w h) in omega arith)

-- the smaller of limit and count says as much as the limit
pub limit-least : (w : List ℕ) (limit : ℕ) → plan_refusal w ≡ 0 → take (min limit (step_count w)) (steps_of w) ≡ steps_within w limit
limit-least w limit h =
    let e = steps-length w (well w h) in
    ⊎_elim (λ l. let m : limit ≤ step_count w = omega arith in ap (λ (k : ℕ). take k (steps_of w)) (min-eq_left m))
    (λ l. ap (λ (k : ℕ). take k (steps_of w)) (min-eq_right l) ∙ take_all (step_count w) (steps_of w) (omega arith) ∙ sym (limit-all w limit h l))
    (side limit (step_count w))
