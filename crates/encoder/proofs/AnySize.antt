-- An encoding at any size (document 02, C-16: "the block at any size is the single-byte encoding done for each byte position"), for every
-- plan, size, buffers and limit that are accepted: the planner's plans and others, to the last step and before.
use Rattle.std.specs.Prelude.{◌≡◌, refl, List, ℕ, ◌+◌, ◌*◌, ◌<◌, length, take, drop, replicate}
use Rattle.std.proofs.Common.{sym, ap, ◌∙◌, arith, length-drop, length-take-le}
use Rattle.std.proofs.lemmas.List.{length-replicate}
use Rattle.lists.specs.ListLaws.{all_take, all_drop, all_replicate}
use Rattle.table.specs.ByteLaws.{each_byte, bytes-length, bytes-decide, each_take, each-drop, bytes-joined, bytes-packets}
use Rattle.table.specs.PacketLaws.{packets-sized, joined_length}
use Rattle.table.specs.Packets.{Packets, packets, joined, bytes_at}
use Rattle.plan.specs.AtStart.{put-packets}
use Rattle.plan.specs.ByteByByte.{runs-length, runs-packets}
use Rattle.plan.proofs.Bytes.{byte-by-byte, steps-below}
use Rattle.plan.specs.Layout.{plan_places, plan_gap, info_count, info_in, slots}
use Rattle.plan.specs.LayoutLaws.{well}
use Rattle.plan.specs.Steps.{carry_out_all, at_start}
use Rattle.start.specs.StartLaws.{start-length}
use Rattle.encoder.specs.Encoding.{steps_within, slots_after, EncodeAnswer, encode_refusal, encode_answer, encode_block_after, encode_scratch_after}
use Rattle.encoder.proofs.EncodingLaws.{AcceptedEncoding, accepted, not-refused-at, accepted-answer, accepted-block, accepted-scratch}

-- ---- the single-byte encoding of byte position j
module _ (w : List ℕ) (s : ℕ) (information block scratch : List ℕ) (limit j : ℕ) where
  abbrev pub answer_alone : EncodeAnswer
  answer_alone = encode_answer w 1 (bytes_at s (info_count w) j information) (bytes_at s (plan_places w) j block) (bytes_at s (plan_gap w) j scratch) limit

  abbrev pub block_alone : List ℕ
  block_alone = encode_block_after w 1 (bytes_at s (info_count w) j information) (bytes_at s (plan_places w) j block) (bytes_at s (plan_gap w) j scratch) limit

  abbrev pub scratch_alone : List ℕ
  scratch_alone = encode_scratch_after w 1 (bytes_at s (info_count w) j information) (bytes_at s (plan_places w) j block) (bytes_at s (plan_gap w) j scratch) limit

-- the encoding at s bytes is, at each byte position, the single-byte encoding, which decides its block and its scratch
pub record EachByteAlone (w : List ℕ) (s : ℕ) (information block scratch : List ℕ) (limit : ℕ) : Type 0 where
  pub answer : (j : ℕ) → j < s → answer_alone w s information block scratch limit j ≡ encode_answer w s information block scratch limit
  pub block-bytes : (j : ℕ) → j < s
      → bytes_at s (plan_places w) j (encode_block_after w s information block scratch limit) ≡ block_alone w s information block scratch limit j
  pub scratch-bytes : (j : ℕ) → j < s
      → bytes_at s (plan_gap w) j (encode_scratch_after w s information block scratch limit) ≡ scratch_alone w s information block scratch limit j
  pub block-only : (b : List ℕ) → length b ≡ plan_places w * s
      → ((j : ℕ) → j < s → bytes_at s (plan_places w) j b ≡ block_alone w s information block scratch limit j)
      → b ≡ encode_block_after w s information block scratch limit
  pub scratch-only : (c : List ℕ) → length c ≡ plan_gap w * s
      → ((j : ℕ) → j < s → bytes_at s (plan_gap w) j c ≡ scratch_alone w s information block scratch limit j)
      → c ≡ encode_scratch_after w s information block scratch limit

module _ (w : List ℕ) (s : ℕ) (information block scratch : List ℕ) (limit : ℕ) (ok : encode_refusal w s information block scratch ≡ 0) where
  lent : AcceptedEncoding w s (length information) (length block) (length scratch)
  lent = accepted w s (length information) (length block) (length scratch) ok

  -- ---- the slots after the steps
  abbrev start : List (List ℕ)
  start = at_start (slots w) s (info_in w) (packets s (info_count w) information)

  abbrev after : List (List ℕ)
  after = slots_after w s information limit

  after-length : length after ≡ plan_places w + plan_gap w
  after-length = runs-length s (steps_within w limit) start ∙ start-length w s information

  after-sized : Packets s after
  after-sized = runs-packets s (slots w) (all_take limit (steps-below w (well w lent.plan))) start (start-length w s information)
      (put-packets s (info_in w) (all_replicate (slots w) (replicate s 0) (length-replicate s 0)) (packets-sized s (info_count w) information lent.information))

  front_length : length (take (plan_places w) after) ≡ plan_places w
  front_length = length-take-le (plan_places w) after (omega (arith, after-length))

  back-length : length (drop (plan_places w) after) ≡ plan_gap w
  back-length = length-drop (plan_places w) after ∙ omega (arith, after-length)

  -- ---- block and scratch keep their lengths
  pub block-length : length (encode_block_after w s information block scratch limit) ≡ plan_places w * s
  block-length = ap length (accepted-block w s information block scratch limit ok)
      ∙ joined_length s (all_take (plan_places w) after-sized) ∙ ap (λ n. n * s) front_length

  pub scratch-length : length (encode_scratch_after w s information block scratch limit) ≡ plan_gap w * s
  scratch-length = ap length (accepted-scratch w s information block scratch limit ok)
      ∙ joined_length s (all_drop (plan_places w) after-sized) ∙ ap (λ n. n * s) back-length

  -- ---- one byte position
  module _ (j : ℕ) (h : j < s) where
    abbrev info₁ : List ℕ
    info₁ = bytes_at s (info_count w) j information

    abbrev block₁ : List ℕ
    block₁ = bytes_at s (plan_places w) j block

    abbrev scratch₁ : List ℕ
    scratch₁ = bytes_at s (plan_gap w) j scratch

    alone-ok : encode_refusal w 1 info₁ block₁ scratch₁ ≡ 0
    alone-ok = not-refused-at w 1 (length info₁) (length block₁) (length scratch₁) (record {
      size = refl;
      plan = lent.plan;
      information = bytes-length s (info_count w) j information ∙ (omega arith);
      block = bytes-length s (plan_places w) j block ∙ (omega arith);
      scratch = bytes-length s (plan_gap w) j scratch ∙ (omega arith);
    })

    slots-alone : each_byte j after ≡ slots_after w 1 info₁ limit
    slots-alone = byte-by-byte s j h (slots w) (info_in w) (packets s (info_count w) information) (steps_within w limit)
        ∙ ap (λ ps. carry_out_all 1 (at_start (slots w) 1 (info_in w) ps) (steps_within w limit)) (sym (bytes-packets s j h (info_count w) information lent.information))

    same_answer : answer_alone w s information block scratch limit j ≡ encode_answer w s information block scratch limit
    same_answer = accepted-answer w 1 info₁ block₁ scratch₁ limit alone-ok ∙ sym (accepted-answer w s information block scratch limit ok)

    same_block : bytes_at s (plan_places w) j (encode_block_after w s information block scratch limit) ≡ block_alone w s information block scratch limit j
    same_block = ap (bytes_at s (plan_places w) j) (accepted-block w s information block scratch limit ok)
        ∙ bytes-joined s j h (plan_places w) front_length (all_take (plan_places w) after-sized)
        ∙ ap joined (each_take j (plan_places w) after ∙ ap (take (plan_places w)) slots-alone)
        ∙ sym (accepted-block w 1 info₁ block₁ scratch₁ limit alone-ok)

    same-scratch : bytes_at s (plan_gap w) j (encode_scratch_after w s information block scratch limit) ≡ scratch_alone w s information block scratch limit j
    same-scratch = ap (bytes_at s (plan_gap w) j) (accepted-scratch w s information block scratch limit ok)
        ∙ bytes-joined s j h (plan_gap w) back-length (all_drop (plan_places w) after-sized)
        ∙ ap joined (each-drop j (plan_places w) after ∙ ap (drop (plan_places w)) slots-alone)
        ∙ sym (accepted-scratch w 1 info₁ block₁ scratch₁ limit alone-ok)

  pub each-byte-alone : EachByteAlone w s information block scratch limit
  each-byte-alone = record {
    answer = same_answer;
    block-bytes = same_block;
    scratch-bytes = same-scratch;
    block-only = λ b l e. bytes-decide s (plan_places w) b _ l block-length (λ j h. e j h ∙ sym (same_block j h));
    scratch-only = λ c l e. bytes-decide s (plan_gap w) c _ l scratch-length (λ j h. e j h ∙ sym (same-scratch j h));
  }
