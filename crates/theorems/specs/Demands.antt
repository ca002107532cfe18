-- The demands on planning and then encoding, over the definitions of the calls, for every table that the planner accepts and every packet
-- size, the table's own or another (document 02, C-16): "the encoder gets the plan as the planner wrote it, nobody having changed it since".
use Rattle.std.specs.Prelude.{◌≡◌, refl, List, [], ◌∷◌, ℕ, zero, suc, ◌+◌, ◌-◌, ◌*◌, ◌<◌, ◌≤◌, length, take, drop}
use Rattle.std.proofs.Math.Path.{sym, ap, ap₂, subst}
use Rattle.std.proofs.Common.{◌∙◌, arith, take_all, take_at}
use Rattle.std.proofs.Math.ListN.{get_or}
use Rattle.lists.specs.ListLaws.{all_in, get_d-has}
use Rattle.table.specs.AnySize.{codeword-at}
use Rattle.table.specs.Codewords.{IsCodeword}
use Rattle.table.specs.Table.{most_bytes, places, at_size, checks, refusal}
use Rattle.table.specs.TableLaws.{Good, accepted, within}
use Rattle.table.specs.Packets.{Packets, packets, joined, Codeword}
use Rattle.table.specs.PacketLaws.{packets-length, packets-sized, packets-joined, packets-of, joined_length, packet-at}
use Rattle.table.specs.PacketCall.{part_at}
use Rattle.plan.specs.declared.Step.{Step}
use Rattle.plan.specs.declared.Step.TheVariants.{Clear, Add}
use Rattle.plan.specs.Step.{add_steps}
use Rattle.plan.specs.Steps.{carry_out_all, at_start}
use Rattle.plan.specs.Layout.{steps_of, most_aside, plan_kept, plan_gap, info_in, info_count, step_count}
use Rattle.rule.specs.Choices.{Chooses, by_rule}
use Rattle.rule.specs.Rule.{Plan}
use Rattle.rule.specs.Encoded.{encode}
use Rattle.rule.proofs.OneBlock.{Encodes, block, block-encodes, one_block}
use Rattle.rule.proofs.Info.{info-number, kept-few}
use Rattle.rule.proofs.Bound.{adds-most, kept-ones, adds-bound, fitted-number}
use Rattle.rule.proofs.WellFormed.{info-low}
use Rattle.planning.specs.Planning.{plan_of, numbers_of, planning_refusal, planning_answer, planning_plan_after, planning_answer_at, numbers_by, plan_of_by}
use Rattle.planning.specs.PlanningLaws.{accepted-planning}
use Rattle.encoder.specs.Encoding.{steps_within, slots_after, encode_refusal, encode_answer, encode_answer_at, encode_block_after}
use Rattle.encoder.proofs.EncodingLaws.{accepted as accepted-encoding, not-refused-at, count-within, limit-all}
use Rattle.theorems.specs.OwnPlan.{own-info, own-steps, own-places, own-accepted, own-count}

-- the plan as the planner wrote it
abbrev pub handed : List ℕ → List ℕ → List ℕ → List ℕ
handed t plan_buffer work = take (planning_answer t plan_buffer work).length (planning_plan_after t plan_buffer work)

-- ---- demand 2
-- what the block must be: n·s bytes, the k-th information packet at the k-th information place of the plan p, every check sums to zero
pub record Carries (t p : List ℕ) (s : ℕ) (information b : List ℕ) : Type 0 where
  pub long : length b ≡ places t * s
  pub carries : (k : ℕ) → k < info_count p → part_at s (get_or (info_in p) k 0) b ≡ part_at s k information
  pub codeword : Codeword s (checks t) (packets s (places t) b)

-- a size within its limits, lent buffers of the right lengths for the plan p, (n − M)·s, n·s and g·s, and a limit that means all its steps
pub record ToTheLastStep (t p : List ℕ) (s : ℕ) (information block_buffer scratch_buffer : List ℕ) (limit : ℕ) : Type 0 where
  pub some_bytes : 1 ≤ s
  pub few_bytes : s ≤ most_bytes
  pub info-long : length information ≡ (places t - plan_kept p) * s
  pub block-long : length block_buffer ≡ places t * s
  pub scratch-long : length scratch_buffer ≡ plan_gap p * s
  pub all-steps : step_count p ≤ limit

-- the encoding by the plan p at s bytes a packet is accepted, its block is as it must be, and no other block is
pub record TheOneBlock (t p : List ℕ) (s : ℕ) (information block_buffer scratch_buffer : List ℕ) (limit : ℕ) : Type 0 where
  pub not-refused : encode_refusal p s information block_buffer scratch_buffer ≡ 0
  pub carries : Carries t p s information (encode_block_after p s information block_buffer scratch_buffer limit)
  pub only : (b : List ℕ) → Carries t p s information b → b ≡ encode_block_after p s information block_buffer scratch_buffer limit

-- ---- demand 3
-- "After the last step of the planner's plan it counts every add step of that plan, and demand 2's block stands."
pub record LastStep (t plan_buffer work : List ℕ) (s : ℕ) (information block_buffer scratch_buffer : List ℕ) (limit : ℕ) : Type 0 where
  pub counted : (encode_answer (handed t plan_buffer work) s information block_buffer scratch_buffer limit).additions ≡ add_steps (steps_of (handed t plan_buffer work))
  pub reported : (encode_answer (handed t plan_buffer work) s information block_buffer scratch_buffer limit).additions ≡ (planning_answer t plan_buffer work).additions
  pub block : TheOneBlock t (handed t plan_buffer work) s information block_buffer scratch_buffer limit

-- W ones in the M kept checks, g set aside: the additions of planning and then encoding, whatever the size, the buffers and the limit
pub record AdditionBound (t p : List ℕ) : Type 0 where
  -- no kept check is empty, so that W − M is a number
  pub some-ones : (plan_of t).M ≤ (plan_of t).W
  pub always : (s : ℕ) (information block_buffer scratch_buffer : List ℕ) (limit : ℕ)
      → (encode_answer p s information block_buffer scratch_buffer limit).additions ≤ 2 * ((plan_of t).W - (plan_of t).M) + (plan_of t).g * ((plan_of t).g + 1)
  pub four : (plan_of t).g * ((plan_of t).g + 1) ≤ 2 * ((plan_of t).W - (plan_of t).M) → (s : ℕ) (information block_buffer scratch_buffer : List ℕ) (limit : ℕ)
      → (encode_answer p s information block_buffer scratch_buffer limit).additions ≤ 4 * ((plan_of t).W - (plan_of t).M)

-- the numbers of the rule
pub record RuleNumbers (t : List ℕ) : Type 0 where
  pub fitted : length (plan_of t).fitted ≡ (plan_of t).g
  pub information : length (plan_of t).info ≡ places t - (plan_of t).M
  pub few-kept : (plan_of t).M ≤ places t
  pub some-ones : (plan_of t).M ≤ (plan_of t).W

-- ---- proofs
-- fewer steps, no more additions
fewer : (limit : ℕ) (xs : List Step) → add_steps (take limit xs) ≤ add_steps xs
fewer zero xs = omega arith
fewer (suc k) [] = omega arith
fewer (suc k) (Clear to ∷ xs) = fewer k xs
fewer (suc k) (Add to from ∷ xs) = let h = fewer k xs in omega arith

answered : (r a : ℕ) → (encode_answer_at r a).additions ≤ a
answered zero a = omega arith
answered (suc r) a = omega arith

-- after the last step every add step is counted
pub last-counted : (p : List ℕ) (s : ℕ) (i b c : List ℕ) (limit : ℕ) → encode_refusal p s i b c ≡ 0 → step_count p ≤ limit → (encode_answer p s i b c limit).additions ≡ add_steps (steps_of p)
last-counted p s i b c limit ok all = count-within p s i b c limit ok
    ∙ ap add_steps (limit-all p limit (accepted-encoding p s (length i) (length b) (length c) ok).plan all)

-- the rule's numbers, and the bound
module _ (t : List ℕ) (ok : refusal t ≡ 0) where
  good : Good t
  good = accepted t ok

  pub rule-numbers : RuleNumbers t
  unfolding plan_of_by
  rule-numbers = record {
    fitted = fitted-number by_rule (places t) (checks t) good.distinct good.low;
    information = info-number by_rule (places t) (checks t) good.distinct good.low;
    few-kept = kept-few by_rule (places t) (checks t) good.distinct good.low;
    some-ones = kept-ones by_rule (places t) (checks t) good.distinct good.low;
  }

  module _ (few : (plan_of t).g ≤ most_aside) where
    counted : (s : ℕ) (information b c : List ℕ) (limit : ℕ) → (encode_answer (numbers_of t) s information b c limit).additions ≤ add_steps (plan_of t).steps
    counted s information b c limit =
        let p = answered (encode_refusal (numbers_of t) s information b c) (add_steps (steps_within (numbers_of t) limit)) in
        let q : add_steps (steps_within (numbers_of t) limit) ≤ add_steps (plan_of t).steps =
        subst (λ l. add_steps (take limit l) ≤ add_steps (plan_of t).steps) (sym (own-steps by_rule t ok few)) (fewer limit (plan_of t).steps) in
        omega arith

    -- demand 3, the bound
    pub addition-bound : AdditionBound t (numbers_of t)
    unfolding plan_of_by
    addition-bound = record {
      some-ones = kept-ones by_rule (places t) (checks t) good.distinct good.low;
      always = λ s i b c limit. let p = counted s i b c limit in let q = adds-most by_rule (places t) (checks t) good.distinct good.low in
          let r = kept-ones by_rule (places t) (checks t) good.distinct good.low in omega arith;
      four = λ h s i b c limit. let p = counted s i b c limit in let q = adds-bound by_rule (places t) (checks t) good.distinct good.low h in omega arith;
    }

-- the one block, whatever the choice of checks to set aside
module _ (ch : Chooses) (t : List ℕ) (ok : refusal t ≡ 0) (few : (plan_of_by ch.choice t).g ≤ most_aside) where
  -- short names: the plan, and its numbers
  abbrev P : Plan
  P = plan_of_by ch.choice t

  abbrev p : List ℕ
  p = numbers_by ch.choice t

  module _ (s : ℕ) (information block_buffer scratch_buffer : List ℕ) (limit : ℕ) (lent : ToTheLastStep t p s information block_buffer scratch_buffer limit) where
    abbrev n : ℕ
    n = places t

    abbrev k : ℕ
    k = places t - P.M

    -- the information packets
    abbrev ps : List (List ℕ)
    ps = packets s k information

    fits : encode_refusal p s information block_buffer scratch_buffer ≡ 0
    unfolding plan_of_by numbers_by
    fits = not-refused-at p s (length information) (length block_buffer) (length scratch_buffer) (record {
      size = within most_bytes s lent.some_bytes lent.few_bytes;
      plan = own-accepted ch t ok few;
      information = lent.info-long ∙ ap (λ x. x * s) (sym (own-places ch t ok few));
      block = lent.block-long;
      scratch = lent.scratch-long;
    })

    -- the slots are those of the plan
    slots-are : slots_after p s information limit ≡ encode n s P ps
    unfolding plan_of_by numbers_by
    slots-are = ap₂ (λ I l. carry_out_all s (at_start (n + P.g) s I (packets s (info_count p) information)) (take limit l)) (own-info ch t ok few) (own-steps ch t ok few)
        ∙ ap₂ (λ c l. carry_out_all s (at_start (n + P.g) s P.info (packets s c information)) l) (own-places ch t ok few) (take_all limit P.steps (subst (λ m. m ≤ limit) (own-count ch t ok few) lent.all-steps))

    after : encode_block_after p s information block_buffer scratch_buffer limit ≡ joined (block P n s ps)
    unfolding plan_of_by numbers_by
    after = rw (fits, encode_block_after) (ap (λ st. joined (take n st)) slots-are)

    sized : Packets s ps
    unfolding plan_of_by numbers_by
    sized = packets-sized s k information lent.info-long

    made : Encodes P n s (checks t) ps (block P n s ps)
    unfolding plan_of_by numbers_by
    made = block-encodes ch n s (checks t) (good t ok).distinct (good t ok).low ps sized (packets-length s k information)

    info-below : (j : ℕ) → j < k → get_or P.info j 0 < n
    unfolding plan_of_by numbers_by
    info-below j h = let m = info-number ch n (checks t) (good t ok).distinct (good t ok).low in
        all_in (λ q. q < n) _ (get_d-has P.info j (omega arith)) (info-low ch n (checks t) (good t ok).distinct (good t ok).low)

    -- as many information places are read as the plan has
    own-number : (j : ℕ) → j < info_count p → j < k
    own-number j h = subst (λ m. j < m) (own-places ch t ok few) h

    -- there and back
    back : packets s n (joined (block P n s ps)) ≡ block P n s ps
    unfolding plan_of_by numbers_by
    back = packets-of s n made.long made.sized

    made-carries : Carries t p s information (joined (block P n s ps))
    unfolding plan_of_by numbers_by
    made-carries = record {
      long = joined_length s made.sized ∙ ap (λ m. m * s) made.long;
      carries = λ j l. let h = own-number j l in ap (λ I. part_at s (get_or I j 0) (joined (block P n s ps))) (own-info ch t ok few)
          ∙ sym (packet-at s n (joined (block P n s ps)) (get_or P.info j 0) (info-below j h))
          ∙ ap (λ l. get_or l (get_or P.info j 0) []) back ∙ made.carries j h ∙ packet-at s k information j h;
      codeword = subst (Codeword s (checks t)) (sym back) made.zero-sums;
    }

    taken : (b : List ℕ) → Carries t p s information b → Encodes P n s (checks t) ps (packets s n b)
    unfolding plan_of_by numbers_by
    taken b r = record {
      long = packets-length s n b;
      sized = packets-sized s n b r.long;
      carries = λ j h. packet-at s n b (get_or P.info j 0) (info-below j h) ∙ ap (λ I. part_at s (get_or I j 0) b) (sym (own-info ch t ok few))
          ∙ r.carries j (subst (λ m. j < m) (sym (own-places ch t ok few)) h) ∙ sym (packet-at s k information j h);
      zero-sums = r.codeword;
    }

    -- encoding by the plan gives the one block; of the rule's plan it is demand 2, planning and then encoding
    pub the-one-block : TheOneBlock t p s information block_buffer scratch_buffer limit
    unfolding plan_of_by numbers_by
    the-one-block = record {
      not-refused = fits;
      carries = subst (Carries t p s information) (sym after) made-carries;
      only = λ b r. sym (packets-joined s n b r.long)
          ∙ ap joined (one_block ch n s (checks t) (good t ok).distinct (good t ok).low ps sized (packets-length s k information) (packets s n b) (taken b r)) ∙ sym after;
    }

-- ---- the calls, one after the other
module _ (t plan_buffer work : List ℕ) (ok : planning_refusal t plan_buffer work ≡ 0) where
  -- an accepted planning
  table-ok : refusal t ≡ 0
  table-ok = (accepted-planning t (length plan_buffer) (length work) ok).0

  few-aside : (plan_of t).g ≤ most_aside
  few-aside = (accepted-planning t (length plan_buffer) (length work) ok).1

  pub plan-written : handed t plan_buffer work ≡ numbers_of t
  plan-written = ap₂ take (ap (λ r. (planning_answer_at r t).length) ok) (rw (ok, planning_plan_after)) ∙ take_at (numbers_of t) (drop (length (numbers_of t)) plan_buffer) (length (numbers_of t)) refl

  -- demand 2: planning and then encoding to the last step gives the one block, at any size
  pub planning-then-encoding : (s : ℕ) (information block_buffer scratch_buffer : List ℕ) (limit : ℕ) → ToTheLastStep t (handed t plan_buffer work) s information block_buffer scratch_buffer limit
      → TheOneBlock t (handed t plan_buffer work) s information block_buffer scratch_buffer limit
  planning-then-encoding s i b c limit =
      subst (λ p. ToTheLastStep t p s i b c limit → TheOneBlock t p s i b c limit) (sym plan-written) (the-one-block by_rule t table-ok few-aside s i b c limit)

  -- which is a codeword under the table of that size
  pub encoding-codeword : (s : ℕ) (information block_buffer scratch_buffer : List ℕ) (limit : ℕ) → ToTheLastStep t (handed t plan_buffer work) s information block_buffer scratch_buffer limit
      → IsCodeword (at_size s t) (encode_block_after (handed t plan_buffer work) s information block_buffer scratch_buffer limit)
  encoding-codeword s i b c limit lent = let r = (planning-then-encoding s i b c limit lent).carries in (codeword-at s t table-ok _).1 (r.long, r.codeword)

  -- demand 3: the bound
  pub additions-bounded : AdditionBound t (handed t plan_buffer work)
  additions-bounded = subst (AdditionBound t) (sym plan-written) (addition-bound t table-ok few-aside)

  -- the planner's reported number of add steps is the plan's
  pub additions-reported : (planning_answer t plan_buffer work).additions ≡ add_steps (steps_of (handed t plan_buffer work))
  additions-reported = ap (λ r. (planning_answer_at r t).additions) ok ∙ sym (ap (λ p. add_steps (steps_of p)) plan-written ∙ ap add_steps (own-steps by_rule t table-ok few-aside))

  -- demand 3: the last step
  pub all-counted : (s : ℕ) (information block_buffer scratch_buffer : List ℕ) (limit : ℕ) → ToTheLastStep t (handed t plan_buffer work) s information block_buffer scratch_buffer limit
      → LastStep t plan_buffer work s information block_buffer scratch_buffer limit
  all-counted s i b c limit lent = record { counted = every; reported = every ∙ sym additions-reported; block = one }
    where
      one : TheOneBlock t (handed t plan_buffer work) s i b c limit
      one = planning-then-encoding s i b c limit lent

      every : (encode_answer (handed t plan_buffer work) s i b c limit).additions ≡ add_steps (steps_of (handed t plan_buffer work))
      every = last-counted (handed t plan_buffer work) s i b c limit one.not-refused lent.all-steps
