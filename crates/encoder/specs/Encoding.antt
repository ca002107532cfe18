-- The encoder's call (document 01, "The plan" and "What the steps give, written out"; document 02, C-16: "the size is given with each
-- encoding"): plan w, size s, information, block, scratch and step limit of any length and content.
use Rattle.std.specs.Prelude.{Bool, true, false, ◌||◌, List, [], ◌∷◌, ◌++◌, ℕ, zero, suc, ◌*◌, eqb, length, take, drop}
use Rattle.table.specs.FirstCause.{first_cause, wrong_length}
use Rattle.table.specs.Packets.{packets, joined}
use Rattle.table.specs.Table.{most_bytes, outside}
use Rattle.plan.specs.declared.Step.{Step}
use Rattle.plan.specs.Step.{add_steps}
use Rattle.plan.specs.Steps.{carry_out_all, at_start}
use Rattle.plan.specs.Layout.{plan_places, plan_gap, info_count, info_in, slots, steps_of, plan_causes}

-- "only the first so many steps are carried out and counted"
abbrev pub steps_within : List ℕ → ℕ → List Step
steps_within w limit = take limit (steps_of w)

-- the slots after the steps within the limit
abbrev pub slots_after : List ℕ → ℕ → List ℕ → ℕ → List (List ℕ)
slots_after w s information limit = carry_out_all s (at_start (slots w) s (info_in w) (packets s (info_count w) information)) (steps_within w limit)

-- 2: "A size outside 1 to 1,024"
abbrev pub wrong_size : ℕ → Bool
wrong_size s = outside most_bytes s

-- 5: information, block or scratch of wrong length, at s bytes a packet
abbrev pub wrong_lengths : List ℕ → ℕ → ℕ → ℕ → ℕ → Bool
wrong_lengths w s information block scratch =
    wrong_length information (info_count w * s) || (wrong_length block (plan_places w * s) || wrong_length scratch (plan_gap w * s))

-- the causes in their order: "2, before 9", and "9 comes before 5"
abbrev pub encode_causes : List ℕ → ℕ → ℕ → ℕ → ℕ → List (Bool × ℕ)
encode_causes w s information block scratch = (wrong_size s, 2) ∷ (plan_causes w ++ ((wrong_lengths w s information block scratch, 5) ∷ []))

unfoldable pub encode_refusal_at : List ℕ → ℕ → ℕ → ℕ → ℕ → ℕ
encode_refusal_at w s information block scratch = first_cause (encode_causes w s information block scratch)

-- what is answered: the refusal, 0 for none, and the number of add steps carried out, 0 on refusal
pub record EncodeAnswer : Type 0 where
  pub refusal : ℕ
  pub additions : ℕ

abbrev pub refused_by : ℕ → EncodeAnswer
refused_by r = record { refusal = r; additions = 0 }

abbrev pub encode_answer_at : ℕ → ℕ → EncodeAnswer
encode_answer_at zero additions = record { refusal = 0; additions = additions }
encode_answer_at (suc r) additions = refused_by (suc r)

-- of the lent buffers
abbrev pub encode_refusal : List ℕ → ℕ → List ℕ → List ℕ → List ℕ → ℕ
encode_refusal w s information block scratch = encode_refusal_at w s (length information) (length block) (length scratch)

module _ (w : List ℕ) (s : ℕ) (information block scratch : List ℕ) (limit : ℕ) where
  abbrev pub encode_answer : EncodeAnswer
  encode_answer = encode_answer_at (encode_refusal w s information block scratch) (add_steps (steps_within w limit))

  -- "slots 0 to n − 1 in a row are the block, the others the scratch"; on refusal as they were
  abbrev pub encode_block_after : List ℕ
  encode_block_after = elim (eqb (encode_refusal w s information block scratch) 0) [ true ↦ joined (take (plan_places w) (slots_after w s information limit)) | false ↦ block ]

  abbrev pub encode_scratch_after : List ℕ
  encode_scratch_after = elim (eqb (encode_refusal w s information block scratch) 0) [ true ↦ joined (drop (plan_places w) (slots_after w s information limit)) | false ↦ scratch ]
