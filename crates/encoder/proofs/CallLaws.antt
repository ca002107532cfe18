-- The lengths of the lent buffers, and the ways out of the call.
use mathlib.Core.Path.{◌≡◌, sym, ap, ◌∙◌}
use mathlib.Core.Bool.{true, not}
use mathlib.Core.List.{List}
use Prim.Native.Nat.{ℕ, ◌*◌, ◌≤◌, min}
use native.Mathlib.Nat.{mul-le-mul}
use borrow.Author.Tests.{eq-eqb, ne_eqb}
use lib.Dec.{eqb}
use lib.ListN.{length, take, drop}
use Rattle.table.specs.Packets.{joined}
use Rattle.table.specs.Table.{most_places, most_bytes}
use Rattle.plan.specs.Layout.{plan_places, plan_gap, info_count, step_count, steps_of}
use Rattle.plan.specs.Step.{add_steps}
use Rattle.plan.specs.Steps.{carry_out_all}
use Rattle.start.specs.Start.{Lent, start_of, slots_in, PreparedFor}
use Rattle.start.specs.StartLaws.{slots_length, slots-held, start-alike}
use Rattle.encoder.specs.Encoding.{slots_after, wrong_lengths, EncodeAnswer, refused_by, encode_refusal, encode_answer, encode_block_after, encode_scratch_after}
use Rattle.encoder.proofs.EncodingLaws.{AcceptedEncoding, not-refused-at, refused-answer, refused-keeps-block, refused-keeps-scratch, accepted-answer, accepted-block, accepted-scratch, limit-least}
use Rattle.running.specs.Running.{Ran}

-- packets are few and short
pub product_small : (a b : ℕ) → a ≤ most_places → b ≤ most_bytes → a * b ≤ most_places * most_bytes
product_small a b h k = mul-le-mul h k

module _ (w : List ℕ) (s i b c : ℕ) where
  pub lengths-information : (i ≡ info_count w * s → ⊥) → true ≡ wrong_lengths w s i b c
  lengths-information h = rw (ne_eqb i (info_count w * s) h)

  pub lengths-block : i ≡ info_count w * s → (b ≡ plan_places w * s → ⊥) → true ≡ wrong_lengths w s i b c
  lengths-block h k = rw (eq-eqb i (info_count w * s) h, ne_eqb b (plan_places w * s) k)

  pub lengths-scratch : i ≡ info_count w * s → b ≡ plan_places w * s → not (eqb c (plan_gap w * s)) ≡ wrong_lengths w s i b c
  lengths-scratch h k = rw (eq-eqb i (info_count w * s) h, eq-eqb b (plan_places w * s) k)

-- the buffers are then lent as they should be
pub lent : {w : List ℕ} {s i b c b' c' : ℕ} → AcceptedEncoding w s i b c → b' ≡ b → c' ≡ c → Lent w s b' c'
lent a h k = record { formed = a.plan; block = h ∙ a.block; scratch = k ∙ a.scratch }

-- ---- the ways out
module _ (w : List ℕ) (s : ℕ) (information block scratch : List ℕ) (limit : ℕ) where
  -- what the call ensures, of an answer and buffers after
  abbrev pub Ensured : EncodeAnswer → List ℕ → List ℕ → Type 0
  Ensured a b c =
      (a ≡ encode_answer w s information block scratch limit)
      × ((b ≡ encode_block_after w s information block scratch limit) × (c ≡ encode_scratch_after w s information block scratch limit))

  pub refused-call : (r : ℕ) {a : EncodeAnswer} → a ≡ refused_by r → encode_refusal w s information block scratch ≡ r → (r ≡ 0 → ⊥) → Ensured a block scratch
  refused-call r same e h =
      let no : encode_refusal w s information block scratch ≡ 0 → ⊥ = λ z. h (sym e ∙ z) in (
        same ∙ ap refused_by (sym e) ∙ sym (refused-answer w s information block scratch limit no),
        (sym (refused-keeps-block w s information block scratch limit no), sym (refused-keeps-scratch w s information block scratch limit no)),
      )

  pub accepted-call : (r : ℕ) (b c b' c' : List ℕ) → AcceptedEncoding w s (length information) (length block) (length scratch)
      → Lent w s (length b) (length c) → PreparedFor w s (take (min limit (step_count w)) (steps_of w)) information b c
      → Ran w s (min limit (step_count w)) r b c b' c' → Ensured (record { refusal = 0; additions = r }) b' c'
  accepted-call r b c b' c' a l h p =
      let z = not-refused-at w s (length information) (length block) (length scratch) a in
      let xs = take (min limit (step_count w)) (steps_of w) in
      let q = p.slots (slots_in w s b c) (slots-held w s b c l.block l.scratch) (slots_length w s b c l.block l.scratch) in
      let same : carry_out_all s (slots_in w s b c) xs ≡ slots_after w s information limit =
      start-alike w s xs information b c l.block l.scratch h ∙ ap (carry_out_all s (start_of w s information)) (limit-least w limit a.plan) in (
        ap (λ (x : ℕ). record { refusal = 0; additions = x }) (p.count ∙ ap add_steps (limit-least w limit a.plan)) ∙ sym (accepted-answer w s information block scratch limit z),
        (
          q.block-is ∙ ap (λ st. joined (take (plan_places w) st)) same ∙ sym (accepted-block w s information block scratch limit z),
          q.scratch-is ∙ ap (λ st. joined (drop (plan_places w) st)) same ∙ sym (accepted-scratch w s information block scratch limit z),
        ),
      )
