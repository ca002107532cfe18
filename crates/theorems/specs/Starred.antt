-- The starred cases of document 01, "Worked tables", and the cases of the requests of document 02: one table, proved by one statement
-- about the definitions of the calls.
use Rattle.std.specs.Prelude.{◌≡◌, refl, cond, List, [], ◌∷◌, ◌++◌, map, ℕ, ◌+◌, ◌-◌, ◌*◌, length, take, replicate}
use Rattle.erasure.specs.Offered.{Held, held}
use Rattle.suspects.specs.Blame.{blamed}
use Rattle.erasure.specs.Restoring.{agreeing, block_if, map_if}
use Rattle.faults.specs.Faults.{check_of, byte_of}
use Rattle.lists.specs.Lists.{from}
use Rattle.making.specs.Making.{table_words}
use Rattle.lengthen.specs.Lengthen.{lengthen_refusal, lengthen_answer, lengthen_after}
use Rattle.merge.specs.Merge.{merge_refusal, merge_answer, merge_after}
use Rattle.numerals.specs.Numerals.{digits_within}
use Rattle.numbers.specs.Numbers.{numbers_in}
use Rattle.alist.specs.Alist.{alist_read_refusal_at, alist_table}
use Rattle.alist.specs.AlistText.{alist_text, alist_write_refusal_at}
use Rattle.plan.specs.Layout.{most_steps}
use Rattle.plan.specs.Step.{add_steps}
use Rattle.rule.specs.Buffers.{peeling_by, peeling}
use Rattle.rule.specs.Rule.{heaviest, set_aside_of}
use Rattle.planning.specs.Planning.{plan_of, numbers_of, planning_refusal_at, least_plan, work_words, numbers_by, plan_of_by}
use Rattle.encoder.specs.Encoding.{encode_refusal_at, encode_answer, encode_block_after, encode_scratch_after}
use Rattle.repair.specs.Repair.{repair_refusal, repair_answer, repair_block_after, repair_map_after}
use Rattle.repair.proofs.RepairTheorems.{old_answer}
use Rattle.full.specs.Full.{full_refusal, full_answer, full_block_after, full_map_after}
use Rattle.gf2.specs.Gf2.{down}
use Rattle.gf2.specs.Solving.{solve}
use Rattle.reasons.specs.Echelon.{insert, leads_of}
use Rattle.reasons.proofs.ListedLaws.{list_for}
use Rattle.why.specs.Why.{why_refusal, why_answer, why_block_after, why_map_after, reason_after, reason_numbers}
use Rattle.table.specs.Packets.{lowest_nonzero}
use Rattle.table.specs.Table.{at_size, places, checks}
use Rattle.verify.specs.Verify.{verify_refusal, verify_answer}

-- ---- the tables and the block of P2
abbrev pub table_a : List ℕ
table_a = 2 ∷ 7 ∷ 1 ∷ 3 ∷ 4 ∷ 4 ∷ 4 ∷ 12 ∷ 0 ∷ 2 ∷ 4 ∷ 6 ∷ 1 ∷ 2 ∷ 5 ∷ 6 ∷ 3 ∷ 4 ∷ 5 ∷ 6 ∷ []

abbrev pub table_b : List ℕ
table_b = 2 ∷ 4 ∷ 1 ∷ 3 ∷ 3 ∷ 3 ∷ 3 ∷ 9 ∷ 0 ∷ 1 ∷ 2 ∷ 0 ∷ 1 ∷ 3 ∷ 0 ∷ 2 ∷ 3 ∷ []

-- B's plan behind its first section: place 1 is information; 15 steps, as planlist prints them
abbrev rest_b : List ℕ
rest_b = 1 ∷ 1 ∷ 15 ∷ 12288 ∷ 16789505 ∷ 8192 ∷ 16785411 ∷ 16384 ∷ 16793601 ∷ 16793602 ∷ 0 ∷ 16777220 ∷ 12288 ∷ 16789504 ∷ 16789505 ∷ 8192 ∷ 16785408 ∷ 16785411 ∷ []

abbrev plan_b : List ℕ
plan_b = 3 ∷ 4 ∷ 1 ∷ 3 ∷ rest_b

-- A "with a fourth check 0 1 4 5 added"
abbrev table_a4 : List ℕ
table_a4 = 2 ∷ 7 ∷ 1 ∷ 4 ∷ 4 ∷ 4 ∷ 4 ∷ 4 ∷ 16 ∷ 0 ∷ 2 ∷ 4 ∷ 6 ∷ 1 ∷ 2 ∷ 5 ∷ 6 ∷ 3 ∷ 4 ∷ 5 ∷ 6 ∷ 0 ∷ 1 ∷ 4 ∷ 5 ∷ []

-- checks 1 2 3 4, 0 1 3 4, 0 2 3 4 and 1 2 4: the first of greatest weight frees no place, the next two free place 0
abbrev table_c : List ℕ
table_c = 2 ∷ 5 ∷ 1 ∷ 4 ∷ 4 ∷ 4 ∷ 4 ∷ 3 ∷ 15 ∷ 1 ∷ 2 ∷ 3 ∷ 4 ∷ 0 ∷ 1 ∷ 3 ∷ 4 ∷ 0 ∷ 2 ∷ 3 ∷ 4 ∷ 1 ∷ 2 ∷ 4 ∷ []

-- its plan with one check set aside, and the plan that was made of it before C-18, with two
abbrev plan_c : List ℕ
plan_c = 3 ∷ 5 ∷ 1 ∷ 4 ∷ 1 ∷ 1 ∷ 26 ∷ 16384 ∷ 16793601 ∷ 12288 ∷ 16789505 ∷ 16789508 ∷ 0 ∷ 16777219 ∷ 16777220 ∷ 20480 ∷ 16797696 ∷ 16797697 ∷ 16797699 ∷ 16797700 ∷ 8192 ∷ 16785413 ∷ 16384 ∷ 16793601 ∷ 16793602 ∷ 12288 ∷ 16789505 ∷ 16789506 ∷ 16789508 ∷ 0 ∷ 16777218 ∷ 16777219 ∷ 16777220 ∷ []

abbrev stored_c : List ℕ
stored_c = 3 ∷ 5 ∷ 2 ∷ 4 ∷ 1 ∷ 0 ∷ 23 ∷ 16384 ∷ 12288 ∷ 16789504 ∷ 16789508 ∷ 20480 ∷ 16797699 ∷ 16797700 ∷ 24576 ∷ 16801792 ∷ 16801795 ∷ 16801796 ∷ 4096 ∷ 16781317 ∷ 8192 ∷ 16785413 ∷ 16785414 ∷ 16384 ∷ 16793601 ∷ 16793602 ∷ 12288 ∷ 16789504 ∷ 16789506 ∷ 16789508 ∷ []

-- C-20: plans of 21 places, all of them own or fitted, with g checks set aside and no step
abbrev aside_plan : ℕ → List ℕ
aside_plan g = 3 ∷ 21 ∷ g ∷ 21 ∷ 0 ∷ 0 ∷ []

-- and of one place, with k steps that clear it
abbrev steps_plan : ℕ → List ℕ
steps_plan k = 3 ∷ 1 ∷ 0 ∷ 1 ∷ 0 ∷ k ∷ replicate k 0

abbrev table9 : List ℕ
table9 = 2 ∷ 1 ∷ 1 ∷ 1 ∷ 1 ∷ 1 ∷ 0 ∷ []

abbrev pub table10 : List ℕ
table10 = 2 ∷ 3 ∷ 1 ∷ 0 ∷ 0 ∷ []

-- places 0, 1 and 2 of one byte; the lowest ready check restores place 1, then place 0
abbrev table12 : List ℕ
table12 = 2 ∷ 3 ∷ 1 ∷ 3 ∷ 2 ∷ 2 ∷ 1 ∷ 5 ∷ 0 ∷ 1 ∷ 1 ∷ 2 ∷ 0 ∷ []

-- three places of 100 bytes; checks 0 and 0 1 2
abbrev table100 : List ℕ
table100 = 2 ∷ 3 ∷ 100 ∷ 2 ∷ 1 ∷ 3 ∷ 4 ∷ 0 ∷ 0 ∷ 1 ∷ 2 ∷ []

-- a packet of 100 bytes, one of them not zero
abbrev single : ℕ → ℕ → List ℕ
single at v = replicate at 0 ++ (v ∷ replicate (99 - at) 0)

-- zeros at place 0, 03 at byte k of place 1, 05 at byte i of place 2
abbrev sum_at : ℕ → ℕ → List ℕ
sum_at i k = replicate 100 0 ++ (single k 0x03 ++ single i 0x05)

abbrev block2 : List ℕ
block2 = 0x01 ∷ 0x02 ∷ 0x04 ∷ 0x0e ∷ 0x08 ∷ 0x0b ∷ 0x0d ∷ []

-- ---- C-19: what listeners to P2's block hold, ff where they heard nothing
abbrev hears1 : Held
hears1 = record { block = 0x01 ∷ 0x02 ∷ 0xff ∷ 0x0e ∷ 0xff ∷ 0xff ∷ 0x0d ∷ []; map = 0 ∷ 0 ∷ 1 ∷ 0 ∷ 1 ∷ 1 ∷ 0 ∷ [] }

-- with v at place 3
abbrev hears2 : ℕ → Held
hears2 v = record { block = 0xff ∷ 0xff ∷ 0x04 ∷ v ∷ 0xff ∷ 0x0b ∷ 0xff ∷ []; map = 1 ∷ 1 ∷ 0 ∷ 0 ∷ 1 ∷ 0 ∷ 1 ∷ [] }

-- ---- C-21: three places of one byte, checks [1 2][2]
abbrev table21 : List ℕ
table21 = 2 ∷ 3 ∷ 1 ∷ 2 ∷ 2 ∷ 1 ∷ 3 ∷ 1 ∷ 2 ∷ 2 ∷ []

-- two places of one byte, checks [0 1][0]
abbrev table21b : List ℕ
table21b = 2 ∷ 2 ∷ 1 ∷ 2 ∷ 2 ∷ 1 ∷ 3 ∷ 0 ∷ 1 ∷ 0 ∷ []

-- three places of one byte, check [0 1]
abbrev table21c : List ℕ
table21c = 2 ∷ 3 ∷ 1 ∷ 1 ∷ 2 ∷ 2 ∷ 0 ∷ 1 ∷ []

-- ---- C-22: places of one byte: check [0 1 2], and the longer table with check [2 3] behind it and place 3; the same with check [0 1 3] for the first
abbrev table22 : List ℕ
table22 = 2 ∷ 3 ∷ 1 ∷ 1 ∷ 3 ∷ 3 ∷ 0 ∷ 1 ∷ 2 ∷ []

abbrev longer22 : List ℕ
longer22 = 2 ∷ 4 ∷ 1 ∷ 2 ∷ 3 ∷ 2 ∷ 5 ∷ 0 ∷ 1 ∷ 2 ∷ 2 ∷ 3 ∷ []

abbrev other22 : List ℕ
other22 = 2 ∷ 4 ∷ 1 ∷ 2 ∷ 3 ∷ 2 ∷ 5 ∷ 0 ∷ 1 ∷ 3 ∷ 2 ∷ 3 ∷ []

-- arrivals with 08 where nothing arrives
abbrev nothing22 : Held
nothing22 = held (0x08 ∷ 0x08 ∷ 0x08 ∷ 0x08 ∷ []) (1 ∷ 1 ∷ 1 ∷ 1 ∷ [])

-- P2's block with 2, 4, 5 lost; as it is afterwards, none of them restored
abbrev lost245 : List ℕ
lost245 = 0x01 ∷ 0x02 ∷ 0xff ∷ 0x0e ∷ 0xff ∷ 0xff ∷ 0x0d ∷ []

abbrev zero245 : List ℕ
zero245 = 0x01 ∷ 0x02 ∷ 0x00 ∷ 0x0e ∷ 0x00 ∷ 0x00 ∷ 0x0d ∷ []

abbrev map245 : List ℕ
map245 = 0 ∷ 0 ∷ 1 ∷ 0 ∷ 1 ∷ 1 ∷ 0 ∷ []

-- P2's block with 11 at place 0, nothing lost
abbrev wrong0 : List ℕ
wrong0 = 0x11 ∷ 0x02 ∷ 0x04 ∷ 0x0e ∷ 0x08 ∷ 0x0b ∷ 0x0d ∷ []

abbrev none0 : List ℕ
none0 = replicate 7 0

-- ---- what the calls give, as lists of numbers
-- the planner's refusal, with buffers of the right lengths
abbrev planning : List ℕ → List ℕ
planning t = planning_refusal_at t least_plan work_words ∷ []

-- the planner: refusal, own places in the order of solving, information places, and M, W, g, additions
abbrev pub planned : List ℕ → List (List ℕ)
planned t = planning t ∷ (plan_of t).own ∷ (plan_of t).info ∷ ((plan_of t).M ∷ (plan_of t).W ∷ (plan_of t).g ∷ add_steps (plan_of t).steps ∷ []) ∷ []

-- planning and then encoding to the last step, at s bytes a packet: the planner's refusal, the encoder's and its additions, and the block
abbrev pub encoded : List ℕ → ℕ → List ℕ → List ℕ → List ℕ → List (List ℕ)
encoded t s information buffer scratch = let r = encode_answer (numbers_of t) s information buffer scratch most_steps in
    planning t ∷ (r.refusal ∷ r.additions ∷ []) ∷ encode_block_after (numbers_of t) s information buffer scratch most_steps ∷ []

-- encoding by the plan w: refusal and additions, the block and the scratch
abbrev pub answered : List ℕ → ℕ → List ℕ → List ℕ → List ℕ → List (List ℕ)
answered w s information buffer scratch = let r = encode_answer w s information buffer scratch most_steps in
    (r.refusal ∷ r.additions ∷ []) ∷ encode_block_after w s information buffer scratch most_steps ∷ encode_scratch_after w s information buffer scratch most_steps ∷ []

-- repair: refusal, restored, still lost and additions, the check and its byte, the block and the map
abbrev pub mended : List ℕ → List ℕ → List ℕ → List (List ℕ)
mended t b map = let r = repair_answer t b map in
    (r.refusal ∷ r.restored ∷ r.lost ∷ r.additions ∷ []) ∷ (r.check ∷ r.byte ∷ []) ∷ repair_block_after t b map ∷ repair_map_after t b map ∷ []

-- the reason for place p, with work and reason buffer of the right lengths, the latter full of 9: refusal, kind and length of the list, restored
-- and still lost, the buffer's first four numbers, the block and the map; the list is the one that there is (`list-exists`, and reasons' `listed-one`)
abbrev pub explained : List ℕ → List ℕ → List ℕ → ℕ → List (List ℕ)
explained t b map p = let work : List ℕ = replicate work_words 0 in let reason : List ℕ = replicate reason_numbers 9 in
    let list = list_for (places t) (checks t) map p in let r = why_answer t b map work p reason list in
    (r.refusal ∷ r.kind ∷ r.length ∷ []) ∷ (r.restored ∷ r.lost ∷ []) ∷ take 4 (reason_after t b map work p reason list)
    ∷ why_block_after t b map work p reason ∷ why_map_after t b map work p reason ∷ []

-- the repair without C-17's rule: the same
abbrev old_mended : List ℕ → List ℕ → List ℕ → List (List ℕ)
old_mended t b map = let r = old_answer t b map in
    (r.refusal ∷ r.restored ∷ r.lost ∷ r.additions ∷ []) ∷ (r.check ∷ r.byte ∷ []) ∷ block_if (agreeing t b map) t b map ∷ map_if (agreeing t b map) t b map ∷ []

-- full repair, with work of the right length: refusal, restored and still lost, the check and its byte, the block and the map
abbrev pub fully_mended : List ℕ → List ℕ → List ℕ → List (List ℕ)
fully_mended t b map = let work : List ℕ = replicate work_words 0 in let r = full_answer t b map work in
    (r.refusal ∷ r.restored ∷ r.lost ∷ []) ∷ (r.check ∷ r.byte ∷ []) ∷ full_block_after t b map work ∷ full_map_after t b map work ∷ []

-- merging what two heard, with 9 in the third block and 255 in the third map: refusal and the four counts, restored, still lost and additions, the check
-- and its byte, the third block and map
abbrev pub merged_by : List ℕ → Held → Held → List (List ℕ)
merged_by t one two = let out : Held = record { block = replicate (length one.block) 9; map = replicate (length one.map) 255 } in let r = merge_answer t one two out in
    (r.refusal ∷ r.agreed ∷ r.single ∷ r.silent ∷ r.clash ∷ []) ∷ (r.restored ∷ r.lost ∷ r.additions ∷ []) ∷ (r.check ∷ r.byte ∷ [])
    ∷ (merge_after t one two out).block ∷ (merge_after t one two out).map ∷ []

-- going on under a longer table: refusal, restored, still lost and additions, the check and its byte, the block and the map
abbrev pub lengthened : List ℕ → List ℕ → Held → Held → List (List ℕ)
lengthened old new carried arrivals = let r = lengthen_answer old new carried arrivals in
    (r.refusal ∷ r.restored ∷ r.lost ∷ r.additions ∷ []) ∷ (r.check ∷ r.byte ∷ []) ∷ (lengthen_after old new carried arrivals).block ∷ (lengthen_after old new carried arrivals).map ∷ []

-- verification: refusal, 1 for a codeword and 0 for none, the check and its byte
abbrev pub verified : List ℕ → List ℕ → List (List ℕ)
verified t b = let r = verify_answer t b in
    (r.refusal ∷ cond r.codeword 1 0 ∷ []) ∷ (check_of r.fault ∷ byte_of r.fault ∷ []) ∷ []

-- writing a table of one-byte packets as alist text and reading that again: refusals, the text's length, the text, the table
abbrev texted : List ℕ → List (List ℕ)
texted t = let text : List ℕ = alist_text t in
    (alist_write_refusal_at t (length text) ∷ alist_read_refusal_at text 1 table_words ∷ length text ∷ []) ∷ text ∷ alist_table text 1 ∷ []

-- "bound 0": 2(W − M) + g(g + 1)
abbrev bound : List ℕ → ℕ
bound t = 2 * ((plan_of t).W - (plan_of t).M) + (plan_of t).g * ((plan_of t).g + 1)

-- ---- the table: what the definitions give, and what the paper says
pub record Case : Type 0 where
  pub given : List (List ℕ)
  pub wanted : List (List ℕ)

abbrev pub starred : List Case
starred =
    -- P1: own places solved 6, 5, 3; information 0 1 2 4; g 0; 9 additions
    record { given = planned table_a; wanted = (0 ∷ []) ∷ (6 ∷ 5 ∷ 3 ∷ []) ∷ (0 ∷ 1 ∷ 2 ∷ 4 ∷ []) ∷ (3 ∷ 12 ∷ 0 ∷ 9 ∷ []) ∷ [] }
    -- P2: A with 01 02 04 08
    ∷ record { given = encoded table_a 1 (0x01 ∷ 0x02 ∷ 0x04 ∷ 0x08 ∷ []) (9 ∷ 9 ∷ 9 ∷ 9 ∷ 9 ∷ 9 ∷ 9 ∷ []) []; wanted = (0 ∷ []) ∷ (0 ∷ 9 ∷ []) ∷ block2 ∷ [] }
    -- P3: B with a5
    ∷ record { given = encoded table_b 1 (0xa5 ∷ []) (9 ∷ 9 ∷ 9 ∷ 9 ∷ []) (9 ∷ []); wanted = (0 ∷ []) ∷ (0 ∷ 9 ∷ []) ∷ (0x00 ∷ 0xa5 ∷ 0xa5 ∷ 0xa5 ∷ []) ∷ [] }
    -- P4: lost 3, 5, 6: all restored, 9 additions
    ∷ record { given = mended table_a (0x01 ∷ 0x02 ∷ 0x04 ∷ 0xff ∷ 0x08 ∷ 0xff ∷ 0xff ∷ []) (0 ∷ 0 ∷ 0 ∷ 1 ∷ 0 ∷ 1 ∷ 1 ∷ []); wanted = (0 ∷ 3 ∷ 0 ∷ 9 ∷ []) ∷ (0 ∷ 0 ∷ []) ∷ block2 ∷ (0 ∷ 0 ∷ 0 ∷ 2 ∷ 0 ∷ 2 ∷ 2 ∷ []) ∷ [] }
    -- P5: lost 2, 4, 5: none restored, 0 additions
    ∷ record { given = mended table_a (0x01 ∷ 0x02 ∷ 0xff ∷ 0x0e ∷ 0xff ∷ 0xff ∷ 0x0d ∷ []) (0 ∷ 0 ∷ 1 ∷ 0 ∷ 1 ∷ 1 ∷ 0 ∷ []); wanted = (0 ∷ 0 ∷ 3 ∷ 0 ∷ []) ∷ (0 ∷ 0 ∷ []) ∷ (0x01 ∷ 0x02 ∷ 0x00 ∷ 0x0e ∷ 0x00 ∷ 0x00 ∷ 0x0d ∷ []) ∷ (0 ∷ 0 ∷ 1 ∷ 0 ∷ 1 ∷ 1 ∷ 0 ∷ []) ∷ [] }
    -- P6: lost 2, 4, 6 under A: none restored
    ∷ record { given = mended table_a (0x01 ∷ 0x02 ∷ 0xff ∷ 0x0e ∷ 0xff ∷ 0x0b ∷ 0xff ∷ []) (0 ∷ 0 ∷ 1 ∷ 0 ∷ 1 ∷ 0 ∷ 1 ∷ []); wanted = (0 ∷ 0 ∷ 3 ∷ 0 ∷ []) ∷ (0 ∷ 0 ∷ []) ∷ (0x01 ∷ 0x02 ∷ 0x00 ∷ 0x0e ∷ 0x00 ∷ 0x0b ∷ 0x00 ∷ []) ∷ (0 ∷ 0 ∷ 1 ∷ 0 ∷ 1 ∷ 0 ∷ 1 ∷ []) ∷ [] }
    -- P7: with the fourth check M stays 3, all restored
    ∷ record { given = planning table_a4 ∷ ((plan_of table_a4).M ∷ []) ∷ mended table_a4 (0x01 ∷ 0x02 ∷ 0xff ∷ 0x0e ∷ 0xff ∷ 0x0b ∷ 0xff ∷ []) (0 ∷ 0 ∷ 1 ∷ 0 ∷ 1 ∷ 0 ∷ 1 ∷ []); wanted = (0 ∷ []) ∷ (3 ∷ []) ∷ (0 ∷ 3 ∷ 0 ∷ 9 ∷ []) ∷ (0 ∷ 0 ∷ []) ∷ block2 ∷ (0 ∷ 0 ∷ 2 ∷ 0 ∷ 2 ∷ 0 ∷ 2 ∷ []) ∷ [] }
    -- P8: 11 at place 0, none lost. The repair without C-17's rule: refusal 8, by check 0 at byte 0
    ∷ record { given = old_mended table_a (0x11 ∷ 0x02 ∷ 0x04 ∷ 0x0e ∷ 0x08 ∷ 0x0b ∷ 0x0d ∷ []) (0 ∷ 0 ∷ 0 ∷ 0 ∷ 0 ∷ 0 ∷ 0 ∷ []); wanted = (8 ∷ 0 ∷ 0 ∷ 0 ∷ []) ∷ (0 ∷ 0 ∷ []) ∷ (0x11 ∷ 0x02 ∷ 0x04 ∷ 0x0e ∷ 0x08 ∷ 0x0b ∷ 0x0d ∷ []) ∷ (0 ∷ 0 ∷ 0 ∷ 0 ∷ 0 ∷ 0 ∷ 0 ∷ []) ∷ [] }
    -- C-17: "P8 becomes P2's block with place 0 marked 3"
    ∷ record { given = mended table_a (0x11 ∷ 0x02 ∷ 0x04 ∷ 0x0e ∷ 0x08 ∷ 0x0b ∷ 0x0d ∷ []) (0 ∷ 0 ∷ 0 ∷ 0 ∷ 0 ∷ 0 ∷ 0 ∷ []); wanted = (0 ∷ 1 ∷ 0 ∷ 3 ∷ []) ∷ (0 ∷ 0 ∷ []) ∷ block2 ∷ (3 ∷ 0 ∷ 0 ∷ 0 ∷ 0 ∷ 0 ∷ 0 ∷ []) ∷ [] }
    -- P9: no information, block 00, 0 additions, bound 0
    ∷ record { given = (plan_of table9).info ∷ (bound table9 ∷ []) ∷ encoded table9 1 [] (9 ∷ []) []; wanted = [] ∷ (0 ∷ []) ∷ (0 ∷ []) ∷ (0 ∷ 0 ∷ []) ∷ (0x00 ∷ []) ∷ [] }
    -- P10: three information places, no step
    ∷ record { given = planning table10 ∷ (plan_of table10).info ∷ (length (plan_of table10).steps ∷ []) ∷ []; wanted = (0 ∷ []) ∷ (0 ∷ 1 ∷ 2 ∷ []) ∷ (0 ∷ []) ∷ [] }
    -- C-12: checks 0 1, 1 2 and 0, lost 0 and 1, 01 at place 2. The repair without C-17's rule: refusal 8, by check 2 at byte 0
    ∷ record { given = old_mended table12 (0xff ∷ 0xff ∷ 0x01 ∷ []) (1 ∷ 1 ∷ 0 ∷ []); wanted = (8 ∷ 0 ∷ 0 ∷ 0 ∷ []) ∷ (2 ∷ 0 ∷ []) ∷ (0x00 ∷ 0x00 ∷ 0x01 ∷ []) ∷ (1 ∷ 1 ∷ 0 ∷ []) ∷ [] }
    -- C-17: place 2 is blamed
    ∷ record { given = mended table12 (0xff ∷ 0xff ∷ 0x01 ∷ []) (1 ∷ 1 ∷ 0 ∷ []); wanted = (0 ∷ 3 ∷ 0 ∷ 2 ∷ []) ∷ (0 ∷ 0 ∷ []) ∷ (0x00 ∷ 0x00 ∷ 0x00 ∷ []) ∷ (2 ∷ 2 ∷ 3 ∷ []) ∷ [] }
    -- C-12: packets of 100 bytes, two of which sum to 05 at byte 70 and 03 at byte 80: verification and refusal 8 by check 1 at byte 70. By
    -- C-17 too: each of the two could be the bad one, so "8 stays"
    ∷ record { given = verified table100 (sum_at 70 80); wanted = (0 ∷ 0 ∷ []) ∷ (1 ∷ 70 ∷ []) ∷ [] }
    ∷ record { given = mended table100 (sum_at 70 80) (0 ∷ 0 ∷ 0 ∷ []); wanted = (8 ∷ 0 ∷ 0 ∷ 0 ∷ []) ∷ (1 ∷ 70 ∷ []) ∷ sum_at 70 80 ∷ (0 ∷ 0 ∷ 0 ∷ []) ∷ [] }
    -- C-17: "Otherwise 8 stays", and "check and byte are those of the repair without this rule": two wrong packets, 11 at place 0 and 22 at
    -- place 1 of P2's block: no place will do
    ∷ record { given = mended table_a (0x11 ∷ 0x22 ∷ 0x04 ∷ 0x0e ∷ 0x08 ∷ 0x0b ∷ 0x0d ∷ []) (0 ∷ 0 ∷ 0 ∷ 0 ∷ 0 ∷ 0 ∷ 0 ∷ []); wanted = (8 ∷ 0 ∷ 0 ∷ 0 ∷ []) ∷ (0 ∷ 0 ∷ []) ∷ (0x11 ∷ 0x22 ∷ 0x04 ∷ 0x0e ∷ 0x08 ∷ 0x0b ∷ 0x0d ∷ []) ∷ (0 ∷ 0 ∷ 0 ∷ 0 ∷ 0 ∷ 0 ∷ 0 ∷ []) ∷ [] }
    -- one check over two places: both will do
    ∷ record { given = mended (2 ∷ 2 ∷ 1 ∷ 1 ∷ 2 ∷ 2 ∷ 0 ∷ 1 ∷ []) (0x05 ∷ 0x00 ∷ []) (0 ∷ 0 ∷ []); wanted = (8 ∷ 0 ∷ 0 ∷ 0 ∷ []) ∷ (0 ∷ 0 ∷ []) ∷ (0x05 ∷ 0x00 ∷ []) ∷ (0 ∷ 0 ∷ []) ∷ [] }
    -- C-17: a place in no check is never blamed: checks 0 and 1, and place 2
    ∷ record { given = mended (2 ∷ 3 ∷ 1 ∷ 2 ∷ 1 ∷ 1 ∷ 2 ∷ 0 ∷ 1 ∷ []) (0x05 ∷ 0x00 ∷ 0x07 ∷ []) (0 ∷ 0 ∷ 0 ∷ []); wanted = (0 ∷ 1 ∷ 0 ∷ 0 ∷ []) ∷ (0 ∷ 0 ∷ []) ∷ (0x00 ∷ 0x00 ∷ 0x07 ∷ []) ∷ (3 ∷ 0 ∷ 0 ∷ []) ∷ [] }
    -- C-17: nor is one that is not restored: checks 0 1 and 0 1 2, lost 1; with 0 lost too nothing contradicts, and nothing is restored
    ∷ record { given = mended (2 ∷ 3 ∷ 1 ∷ 2 ∷ 2 ∷ 3 ∷ 5 ∷ 0 ∷ 1 ∷ 0 ∷ 1 ∷ 2 ∷ []) (0x03 ∷ 0xff ∷ 0x05 ∷ []) (0 ∷ 1 ∷ 0 ∷ []); wanted = (0 ∷ 2 ∷ 0 ∷ 3 ∷ []) ∷ (0 ∷ 0 ∷ []) ∷ (0x03 ∷ 0x03 ∷ 0x00 ∷ []) ∷ (0 ∷ 2 ∷ 3 ∷ []) ∷ [] }
    -- C-17: checks 0 1, 0 2, 3 4 and 1 5, lost 3, 4 and 5, place 0 wrong: 3 and 4 stay lost
    ∷ record { given = mended (2 ∷ 6 ∷ 1 ∷ 4 ∷ 2 ∷ 2 ∷ 2 ∷ 2 ∷ 8 ∷ 0 ∷ 1 ∷ 0 ∷ 2 ∷ 3 ∷ 4 ∷ 1 ∷ 5 ∷ []) (0x17 ∷ 0x07 ∷ 0x07 ∷ 0xff ∷ 0xff ∷ 0xff ∷ []) (0 ∷ 0 ∷ 0 ∷ 1 ∷ 1 ∷ 1 ∷ []); wanted = (0 ∷ 2 ∷ 2 ∷ 2 ∷ []) ∷ (0 ∷ 0 ∷ []) ∷ (0x07 ∷ 0x07 ∷ 0x07 ∷ 0x00 ∷ 0x00 ∷ 0x07 ∷ []) ∷ (3 ∷ 0 ∷ 0 ∷ 1 ∷ 1 ∷ 2 ∷ []) ∷ [] }
    -- C-17: it can blame a right packet: checks 1 2, 0 1 2 3 and 2 3, zeros sent, 2 and 3 lost, place 1 wrong: place 0 is blamed
    ∷ record { given = mended (2 ∷ 4 ∷ 1 ∷ 3 ∷ 2 ∷ 4 ∷ 2 ∷ 8 ∷ 1 ∷ 2 ∷ 0 ∷ 1 ∷ 2 ∷ 3 ∷ 2 ∷ 3 ∷ []) (0x00 ∷ 0x01 ∷ 0xff ∷ 0xff ∷ []) (0 ∷ 0 ∷ 1 ∷ 1 ∷ []); wanted = (0 ∷ 3 ∷ 0 ∷ 5 ∷ []) ∷ (0 ∷ 0 ∷ []) ∷ (0x01 ∷ 0x01 ∷ 0x01 ∷ 0x01 ∷ []) ∷ (3 ∷ 0 ∷ 2 ∷ 2 ∷ []) ∷ [] }
    -- C-14: lost 2, 4, 6 of P2's block "comes back as 04 08 0d"
    ∷ record { given = fully_mended table_a (0x01 ∷ 0x02 ∷ 0xff ∷ 0x0e ∷ 0xff ∷ 0x0b ∷ 0xff ∷ []) (0 ∷ 0 ∷ 1 ∷ 0 ∷ 1 ∷ 0 ∷ 1 ∷ []); wanted = (0 ∷ 3 ∷ 0 ∷ []) ∷ (0 ∷ 0 ∷ []) ∷ (0x01 ∷ 0x02 ∷ 0x04 ∷ 0x0e ∷ 0x08 ∷ 0x0b ∷ 0x0d ∷ []) ∷ (0 ∷ 0 ∷ 2 ∷ 0 ∷ 2 ∷ 0 ∷ 2 ∷ []) ∷ [] }
    -- C-14: "lost 2, 4, 5 stays lost"
    ∷ record { given = fully_mended table_a (0x01 ∷ 0x02 ∷ 0xff ∷ 0x0e ∷ 0xff ∷ 0xff ∷ 0x0d ∷ []) (0 ∷ 0 ∷ 1 ∷ 0 ∷ 1 ∷ 1 ∷ 0 ∷ []); wanted = (0 ∷ 0 ∷ 3 ∷ []) ∷ (0 ∷ 0 ∷ []) ∷ (0x01 ∷ 0x02 ∷ 0x00 ∷ 0x0e ∷ 0x00 ∷ 0x00 ∷ 0x0d ∷ []) ∷ (0 ∷ 0 ∷ 1 ∷ 0 ∷ 1 ∷ 1 ∷ 0 ∷ []) ∷ [] }
    -- C-14: P8's block: refusal 8, check and byte 0
    ∷ record { given = fully_mended table_a (0x11 ∷ 0x02 ∷ 0x04 ∷ 0x0e ∷ 0x08 ∷ 0x0b ∷ 0x0d ∷ []) (0 ∷ 0 ∷ 0 ∷ 0 ∷ 0 ∷ 0 ∷ 0 ∷ []); wanted = (8 ∷ 0 ∷ 0 ∷ []) ∷ (0 ∷ 0 ∷ []) ∷ (0x11 ∷ 0x02 ∷ 0x04 ∷ 0x0e ∷ 0x08 ∷ 0x0b ∷ 0x0d ∷ []) ∷ (0 ∷ 0 ∷ 0 ∷ 0 ∷ 0 ∷ 0 ∷ 0 ∷ []) ∷ [] }
    -- C-19: the first heard 0, 1, 3 and 6 of P2's block, the second 2, 3 and 5. Alone neither restores a place; together they agree on 3, have 5 from one
    -- of them, and restore 4. The third map held 255
    ∷ record { given = mended table_a hears1.block hears1.map; wanted = (0 ∷ 0 ∷ 3 ∷ 0 ∷ []) ∷ (0 ∷ 0 ∷ []) ∷ (0x01 ∷ 0x02 ∷ 0x00 ∷ 0x0e ∷ 0x00 ∷ 0x00 ∷ 0x0d ∷ []) ∷ hears1.map ∷ [] }
    ∷ record { given = mended table_a (hears2 0x0e).block (hears2 0x0e).map; wanted = (0 ∷ 0 ∷ 4 ∷ 0 ∷ []) ∷ (0 ∷ 0 ∷ []) ∷ (0x00 ∷ 0x00 ∷ 0x04 ∷ 0x0e ∷ 0x00 ∷ 0x0b ∷ 0x00 ∷ []) ∷ (hears2 0x0e).map ∷ [] }
    ∷ record { given = merged_by table_a hears1 (hears2 0x0e); wanted = (0 ∷ 1 ∷ 5 ∷ 1 ∷ 0 ∷ []) ∷ (1 ∷ 0 ∷ 3 ∷ []) ∷ (0 ∷ 0 ∷ []) ∷ block2 ∷ (0 ∷ 0 ∷ 0 ∷ 0 ∷ 2 ∷ 0 ∷ 0 ∷ []) ∷ [] }
    -- C-19: a clash of one bit at place 3, whichever listener is the first
    ∷ record { given = merged_by table_a hears1 (hears2 0x8e); wanted = (0 ∷ 0 ∷ 5 ∷ 1 ∷ 1 ∷ []) ∷ (2 ∷ 0 ∷ 6 ∷ []) ∷ (0 ∷ 0 ∷ []) ∷ block2 ∷ (0 ∷ 0 ∷ 0 ∷ 2 ∷ 2 ∷ 0 ∷ 0 ∷ []) ∷ [] }
    ∷ record { given = merged_by table_a (hears2 0x8e) hears1; wanted = (0 ∷ 0 ∷ 5 ∷ 1 ∷ 1 ∷ []) ∷ (2 ∷ 0 ∷ 6 ∷ []) ∷ (0 ∷ 0 ∷ []) ∷ block2 ∷ (0 ∷ 0 ∷ 0 ∷ 2 ∷ 2 ∷ 0 ∷ 0 ∷ []) ∷ [] }
    -- C-19: "With 8 all counts are 0, the third map keeps the merged 0 and 1, and lost places of the third block are zero": C-12's case, in clash at
    -- place 0, heard by neither at place 1. Repair of the same blames place 2 (C-17)
    ∷ record { given = merged_by table12 (record { block = 0x05 ∷ 0xff ∷ 0x01 ∷ []; map = 0 ∷ 1 ∷ 0 ∷ [] }) (record { block = 0x04 ∷ 0xff ∷ 0xff ∷ []; map = 0 ∷ 1 ∷ 1 ∷ [] }); wanted = (8 ∷ 0 ∷ 0 ∷ 0 ∷ 0 ∷ []) ∷ (0 ∷ 0 ∷ 0 ∷ []) ∷ (2 ∷ 0 ∷ []) ∷ (0x00 ∷ 0x00 ∷ 0x01 ∷ []) ∷ (1 ∷ 1 ∷ 0 ∷ []) ∷ [] }
    -- C-19: a byte of 2 in a listener's map: refusal 7, third block and map as they were
    ∷ record { given = merged_by table_a hears1 (record { block = block2; map = 0 ∷ 0 ∷ 0 ∷ 0 ∷ 0 ∷ 0 ∷ 2 ∷ [] }); wanted = (7 ∷ 0 ∷ 0 ∷ 0 ∷ 0 ∷ []) ∷ (0 ∷ 0 ∷ 0 ∷ []) ∷ (0 ∷ 0 ∷ []) ∷ replicate 7 9 ∷ replicate 7 255 ∷ [] }
    -- C-22: 02 received at place 1; 03 arrives at the new place 3, and 08 at place 1 once more, which is ignored. What the new place held, 09 and 7, doesn't count
    ∷ record { given = lengthened table22 longer22 (held (0x00 ∷ 0x02 ∷ 0x00 ∷ 0x09 ∷ []) (1 ∷ 0 ∷ 1 ∷ 7 ∷ [])) (held (0x08 ∷ 0x08 ∷ 0x08 ∷ 0x03 ∷ []) (1 ∷ 0 ∷ 1 ∷ 0 ∷ [])); wanted = (0 ∷ 2 ∷ 0 ∷ 3 ∷ []) ∷ (0 ∷ 0 ∷ []) ∷ (0x01 ∷ 0x02 ∷ 0x03 ∷ 0x03 ∷ []) ∷ (2 ∷ 0 ∷ 2 ∷ 0 ∷ []) ∷ [] }
    -- C-22: place 0 restored earlier stays 2 and isn't counted again
    ∷ record { given = lengthened table22 longer22 (held (0x01 ∷ 0x02 ∷ 0x03 ∷ 0x09 ∷ []) (2 ∷ 0 ∷ 0 ∷ 1 ∷ [])) nothing22; wanted = (0 ∷ 1 ∷ 0 ∷ 1 ∷ []) ∷ (0 ∷ 0 ∷ []) ∷ (0x01 ∷ 0x02 ∷ 0x03 ∷ 0x03 ∷ []) ∷ (2 ∷ 0 ∷ 0 ∷ 2 ∷ []) ∷ [] }
    -- C-22: "with 8 the map stays as then entered": 04 arrives at place 3, where 03 would do: check 1 fails; then 04 at place 2: check 0 fails, and place 3 is lost
    ∷ record { given = lengthened table22 longer22 (held (0x01 ∷ 0x02 ∷ 0x03 ∷ 0x09 ∷ []) (2 ∷ 0 ∷ 0 ∷ 7 ∷ [])) (held (0x08 ∷ 0x08 ∷ 0x08 ∷ 0x04 ∷ []) (1 ∷ 1 ∷ 1 ∷ 0 ∷ [])); wanted = (8 ∷ 0 ∷ 0 ∷ 0 ∷ []) ∷ (1 ∷ 0 ∷ []) ∷ (0x01 ∷ 0x02 ∷ 0x03 ∷ 0x04 ∷ []) ∷ (2 ∷ 0 ∷ 0 ∷ 0 ∷ []) ∷ [] }
    ∷ record { given = lengthened table22 longer22 (held (0x01 ∷ 0x02 ∷ 0xff ∷ 0x09 ∷ []) (2 ∷ 0 ∷ 1 ∷ 0 ∷ [])) (held (0x08 ∷ 0x08 ∷ 0x04 ∷ 0x08 ∷ []) (1 ∷ 1 ∷ 0 ∷ 1 ∷ [])); wanted = (8 ∷ 0 ∷ 0 ∷ 0 ∷ []) ∷ (0 ∷ 0 ∷ []) ∷ (0x01 ∷ 0x02 ∷ 0x04 ∷ 0x00 ∷ []) ∷ (2 ∷ 0 ∷ 0 ∷ 1 ∷ []) ∷ [] }
    -- C-22: an unchanged table; a place of a check changed, and the tables exchanged: 15; a carried 3 at an old place: 16, also before 7
    ∷ record { given = lengthened table22 table22 (held (0x01 ∷ 0x02 ∷ 0xff ∷ []) (2 ∷ 0 ∷ 1 ∷ [])) (held (0x08 ∷ 0x08 ∷ 0x03 ∷ []) (1 ∷ 1 ∷ 0 ∷ [])); wanted = (0 ∷ 0 ∷ 0 ∷ 0 ∷ []) ∷ (0 ∷ 0 ∷ []) ∷ (0x01 ∷ 0x02 ∷ 0x03 ∷ []) ∷ (2 ∷ 0 ∷ 0 ∷ []) ∷ [] }
    ∷ record { given = lengthened table22 other22 (held (0x01 ∷ 0x02 ∷ 0x03 ∷ 0x09 ∷ []) (2 ∷ 0 ∷ 3 ∷ 1 ∷ [])) nothing22; wanted = (15 ∷ 0 ∷ 0 ∷ 0 ∷ []) ∷ (0 ∷ 0 ∷ []) ∷ (0x01 ∷ 0x02 ∷ 0x03 ∷ 0x09 ∷ []) ∷ (2 ∷ 0 ∷ 3 ∷ 1 ∷ []) ∷ [] }
    ∷ record { given = lengthened longer22 table22 (held (0x01 ∷ 0x02 ∷ 0xff ∷ []) (2 ∷ 0 ∷ 1 ∷ [])) (held (0x08 ∷ 0x08 ∷ 0x03 ∷ []) (1 ∷ 1 ∷ 0 ∷ [])); wanted = (15 ∷ 0 ∷ 0 ∷ 0 ∷ []) ∷ (0 ∷ 0 ∷ []) ∷ (0x01 ∷ 0x02 ∷ 0xff ∷ []) ∷ (2 ∷ 0 ∷ 1 ∷ []) ∷ [] }
    ∷ record { given = lengthened table22 longer22 (held (0x01 ∷ 0x02 ∷ 0x03 ∷ 0x09 ∷ []) (3 ∷ 0 ∷ 0 ∷ 3 ∷ [])) (held (0x08 ∷ 0x08 ∷ 0x08 ∷ 0x08 ∷ []) (1 ∷ 1 ∷ 1 ∷ 2 ∷ [])); wanted = (16 ∷ 0 ∷ 0 ∷ 0 ∷ []) ∷ (0 ∷ 0 ∷ []) ∷ (0x01 ∷ 0x02 ∷ 0x03 ∷ 0x09 ∷ []) ∷ (3 ∷ 0 ∷ 0 ∷ 3 ∷ []) ∷ [] }
    -- C-15: P10's table, 3 0/0 0/0 0 0///// with / as line end, both ways
    ∷ record { given = texted table10; wanted = (0 ∷ 0 ∷ 18 ∷ []) ∷ (51 ∷ 32 ∷ 48 ∷ 10 ∷ 48 ∷ 32 ∷ 48 ∷ 10 ∷ 48 ∷ 32 ∷ 48 ∷ 32 ∷ 48 ∷ 10 ∷ 10 ∷ 10 ∷ 10 ∷ 10 ∷ []) ∷ table10 ∷ [] }
    -- C-16: A's plan with packets of three bytes; byte position 0 is P2's case
    ∷ record { given = encoded table_a 3 (0x01 ∷ 0x10 ∷ 0xff ∷ 0x02 ∷ 0x20 ∷ 0x00 ∷ 0x04 ∷ 0x40 ∷ 0xa5 ∷ 0x08 ∷ 0x80 ∷ 0x5a ∷ []) (replicate 21 9) []; wanted = (0 ∷ []) ∷ (0 ∷ 9 ∷ []) ∷ (0x01 ∷ 0x10 ∷ 0xff ∷ 0x02 ∷ 0x20 ∷ 0x00 ∷ 0x04 ∷ 0x40 ∷ 0xa5 ∷ 0x0e ∷ 0xe0 ∷ 0xff ∷ 0x08 ∷ 0x80 ∷ 0x5a ∷ 0x0b ∷ 0xb0 ∷ 0xa5 ∷ 0x0d ∷ 0xd0 ∷ 0x00 ∷ []) ∷ [] }
    -- C-16: B's plan with packets of two bytes; byte position 0 is P3's case
    ∷ record { given = encoded table_b 2 (0xa5 ∷ 0x01 ∷ []) (replicate 8 9) (9 ∷ 9 ∷ []); wanted = (0 ∷ []) ∷ (0 ∷ 9 ∷ []) ∷ (0x00 ∷ 0x00 ∷ 0xa5 ∷ 0x01 ∷ 0xa5 ∷ 0x01 ∷ 0xa5 ∷ 0x01 ∷ []) ∷ [] }
    -- C-16: B's plan, number by number, and the same for the table with packets of 64 bytes
    ∷ record { given = numbers_of table_b ∷ numbers_of (at_size 64 table_b) ∷ []; wanted = plan_b ∷ plan_b ∷ [] }
    -- C-16: sizes 0 and 1,025 with an empty plan: refusal 2; size 1,024 with it: refusal 9
    ∷ record { given = answered [] 0 [] (9 ∷ []) (9 ∷ []); wanted = (2 ∷ 0 ∷ []) ∷ (9 ∷ []) ∷ (9 ∷ []) ∷ [] }
    ∷ record { given = answered [] 1025 [] (9 ∷ []) (9 ∷ []); wanted = (2 ∷ 0 ∷ []) ∷ (9 ∷ []) ∷ (9 ∷ []) ∷ [] }
    ∷ record { given = answered [] 1024 [] (9 ∷ []) (9 ∷ []); wanted = (9 ∷ 0 ∷ []) ∷ (9 ∷ []) ∷ (9 ∷ []) ∷ [] }
    -- C-16: B's plan in the old layout, 4, n, s, g, M, and with nothing but 4 for 3: refusal 9
    ∷ record { given = answered (4 ∷ 4 ∷ 1 ∷ 1 ∷ 3 ∷ rest_b) 1 (0xa5 ∷ []) (9 ∷ 9 ∷ 9 ∷ 9 ∷ []) (9 ∷ []); wanted = (9 ∷ 0 ∷ []) ∷ (9 ∷ 9 ∷ 9 ∷ 9 ∷ []) ∷ (9 ∷ []) ∷ [] }
    ∷ record { given = answered (4 ∷ 4 ∷ 1 ∷ 3 ∷ rest_b) 1 (0xa5 ∷ []) (9 ∷ 9 ∷ 9 ∷ 9 ∷ []) (9 ∷ []); wanted = (9 ∷ 0 ∷ []) ∷ (9 ∷ 9 ∷ 9 ∷ 9 ∷ []) ∷ (9 ∷ []) ∷ [] }
    -- C-16: B's plan at size 2 with buffers for packets of one byte: refusal 5
    ∷ record { given = answered plan_b 2 (0xa5 ∷ []) (9 ∷ 9 ∷ 9 ∷ 9 ∷ []) (9 ∷ []); wanted = (5 ∷ 0 ∷ []) ∷ (9 ∷ 9 ∷ 9 ∷ 9 ∷ []) ∷ (9 ∷ []) ∷ [] }
    -- C-18: "Table B keeps its plan": P3 and C-16's row of B's numbers are by the new rule; by the old one they are the same
    ∷ record { given = numbers_by heaviest table_b ∷ []; wanted = plan_b ∷ [] }
    -- C-18: the check that frees the most places, lowest number on a tie, is set aside; by the old rule the heaviest, and then a second one
    ∷ record { given = set_aside_of (peeling table_c); wanted = (0 ∷ 1 ∷ 3 ∷ 4 ∷ []) ∷ [] }
    ∷ record { given = set_aside_of (peeling_by heaviest table_c); wanted = (1 ∷ 2 ∷ 3 ∷ 4 ∷ []) ∷ (0 ∷ 1 ∷ 3 ∷ 4 ∷ []) ∷ [] }
    ∷ record { given = planned table_c; wanted = (0 ∷ []) ∷ (4 ∷ 3 ∷ 0 ∷ []) ∷ (1 ∷ []) ∷ (4 ∷ 15 ∷ 1 ∷ 18 ∷ []) ∷ [] }
    ∷ record { given = numbers_of table_c ∷ numbers_by heaviest table_c ∷ []; wanted = plan_c ∷ stored_c ∷ [] }
    -- C-18: a5 by the new plan, at place 1, and by the stored one, at place 0
    ∷ record { given = answered plan_c 1 (0xa5 ∷ []) (9 ∷ 9 ∷ 9 ∷ 9 ∷ 9 ∷ []) (9 ∷ []); wanted = (0 ∷ 18 ∷ []) ∷ (0xa5 ∷ 0xa5 ∷ 0xa5 ∷ 0x00 ∷ 0x00 ∷ []) ∷ (0xa5 ∷ []) ∷ [] }
    ∷ record { given = answered stored_c 1 (0xa5 ∷ []) (9 ∷ 9 ∷ 9 ∷ 9 ∷ 9 ∷ []) (9 ∷ 9 ∷ []); wanted = (0 ∷ 15 ∷ []) ∷ (0xa5 ∷ 0xa5 ∷ 0xa5 ∷ 0x00 ∷ 0x00 ∷ []) ∷ (0xa5 ∷ 0x00 ∷ []) ∷ [] }
    -- C-20: g 20 is taken, g 21 refused with 9, block and scratch as they were
    ∷ record { given = answered (aside_plan 20) 1 [] (replicate 21 9) (replicate 20 9); wanted = (0 ∷ 0 ∷ []) ∷ replicate 21 0 ∷ replicate 20 0 ∷ [] }
    ∷ record { given = answered (aside_plan 21) 1 [] (replicate 21 9) (replicate 21 9); wanted = (9 ∷ 0 ∷ []) ∷ replicate 21 9 ∷ replicate 21 9 ∷ [] }
    -- C-20: 12,708 steps are taken, 12,709 refused with 9
    ∷ record { given = answered (steps_plan 12708) 1 [] (9 ∷ []) []; wanted = (0 ∷ 0 ∷ []) ∷ (0 ∷ []) ∷ [] ∷ [] }
    ∷ record { given = answered (steps_plan 12709) 1 [] (9 ∷ []) []; wanted = (9 ∷ 0 ∷ []) ∷ (9 ∷ []) ∷ [] ∷ [] }
    ∷ []

pub starred-cases : map (λ c. c.given) starred ≡ map (λ c. c.wanted) starred
unfolding planning_refusal_at encode_refusal_at repair_refusal merge_refusal lengthen_refusal blamed full_refusal verify_refusal lowest_nonzero plan_of_by numbers_by alist_write_refusal_at alist_read_refusal_at alist_text alist_table numbers_in digits_within from
starred-cases = refl

-- C-21's, for themselves: one statement computes so much and no more
abbrev pub starred_reasons : List Case
starred_reasons =
    -- C-21: checks [1 2][2], lost 1 and 2: place 2 by check 1 alone, place 1 by both; checks [0 1][0], lost 0 and 1: place 0 by check 1 alone, though
    -- check 0 fed its row
    record { given = explained table21 (0x05 ∷ 0xff ∷ 0xff ∷ []) (0 ∷ 1 ∷ 1 ∷ []) 2; wanted = (0 ∷ 2 ∷ 1 ∷ []) ∷ (2 ∷ 0 ∷ []) ∷ (1 ∷ 0 ∷ 0 ∷ 0 ∷ []) ∷ (0x05 ∷ 0x00 ∷ 0x00 ∷ []) ∷ (0 ∷ 2 ∷ 2 ∷ []) ∷ [] }
    ∷ record { given = explained table21 (0x05 ∷ 0xff ∷ 0xff ∷ []) (0 ∷ 1 ∷ 1 ∷ []) 1; wanted = (0 ∷ 2 ∷ 2 ∷ []) ∷ (2 ∷ 0 ∷ []) ∷ (0 ∷ 1 ∷ 0 ∷ 0 ∷ []) ∷ (0x05 ∷ 0x00 ∷ 0x00 ∷ []) ∷ (0 ∷ 2 ∷ 2 ∷ []) ∷ [] }
    ∷ record { given = explained table21b (0xff ∷ 0xff ∷ []) (1 ∷ 1 ∷ []) 0; wanted = (0 ∷ 2 ∷ 1 ∷ []) ∷ (2 ∷ 0 ∷ []) ∷ (1 ∷ 0 ∷ 0 ∷ 0 ∷ []) ∷ (0x00 ∷ 0x00 ∷ []) ∷ (2 ∷ 2 ∷ []) ∷ [] }
    -- C-21: table A, lost 2, 4, 5: the set 2 4 5 for each
    ∷ record { given = explained table_a lost245 map245 2; wanted = (0 ∷ 3 ∷ 3 ∷ []) ∷ (0 ∷ 3 ∷ []) ∷ (2 ∷ 4 ∷ 5 ∷ 0 ∷ []) ∷ zero245 ∷ map245 ∷ [] }
    ∷ record { given = explained table_a lost245 map245 4; wanted = (0 ∷ 3 ∷ 3 ∷ []) ∷ (0 ∷ 3 ∷ []) ∷ (2 ∷ 4 ∷ 5 ∷ 0 ∷ []) ∷ zero245 ∷ map245 ∷ [] }
    ∷ record { given = explained table_a lost245 map245 5; wanted = (0 ∷ 3 ∷ 3 ∷ []) ∷ (0 ∷ 3 ∷ []) ∷ (2 ∷ 4 ∷ 5 ∷ 0 ∷ []) ∷ zero245 ∷ map245 ∷ [] }
    -- C-21: a received place; 14 for a place not below n, before 8; 8 leaves the reason buffer, and zeros at a lost place
    ∷ record { given = explained table_a lost245 map245 0; wanted = (0 ∷ 1 ∷ 0 ∷ []) ∷ (0 ∷ 3 ∷ []) ∷ (0 ∷ 0 ∷ 0 ∷ 0 ∷ []) ∷ zero245 ∷ map245 ∷ [] }
    ∷ record { given = explained table_a wrong0 none0 7; wanted = (14 ∷ 0 ∷ 0 ∷ []) ∷ (0 ∷ 0 ∷ []) ∷ (9 ∷ 9 ∷ 9 ∷ 9 ∷ []) ∷ wrong0 ∷ none0 ∷ [] }
    ∷ record { given = explained table21c (0x01 ∷ 0x02 ∷ 0xff ∷ []) (0 ∷ 0 ∷ 1 ∷ []) 2; wanted = (8 ∷ 0 ∷ 0 ∷ []) ∷ (0 ∷ 0 ∷ []) ∷ (9 ∷ 9 ∷ 9 ∷ 9 ∷ []) ∷ (0x01 ∷ 0x02 ∷ 0x00 ∷ []) ∷ (0 ∷ 0 ∷ 1 ∷ []) ∷ [] }
    ∷ record { given = explained table_a wrong0 none0 6; wanted = (8 ∷ 0 ∷ 0 ∷ []) ∷ (0 ∷ 0 ∷ []) ∷ (9 ∷ 9 ∷ 9 ∷ 9 ∷ []) ∷ wrong0 ∷ none0 ∷ [] }
    ∷ []

pub starred-reasons : map (λ c. c.given) starred_reasons ≡ map (λ c. c.wanted) starred_reasons
unfolding full_refusal why_refusal from solve leads_of insert down
starred-reasons = refl
