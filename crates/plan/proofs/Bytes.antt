-- The steps and the start, byte position by byte position (document 02, C-16: "the block at any size is the single-byte encoding done for
-- each byte position"): what they do to packets of s bytes they do, at packets of one byte, to the bytes of each position. For any slots,
-- places and steps.
use Rattle.std.specs.Prelude.{◌≡◌, refl, true, List, [], ◌∷◌, ℕ, zero, suc, ◌<◌, get_or, set, replicate}
use Rattle.std.proofs.Common.{sym, ap, ap₂, ◌∙◌, arith}
use Rattle.std.proofs.lemmas.Bool.{false≢true}
use Rattle.gf2.specs.Gf2.{xor_group, add}
use Rattle.lists.specs.Lists.{All, All.nil, All.cons}
use Rattle.lists.specs.Tests.{by_opt}
use Rattle.table.specs.ByteLaws.{each_byte}
use Rattle.table.specs.EachByteLaws.{each_at, each_set}
use Rattle.table.specs.SumLaws.{part-sum, part-zeros}
use Rattle.plan.specs.declared.Step.{Step}
use Rattle.plan.specs.declared.Step.TheVariants.{Clear, Add}
use Rattle.plan.specs.Layout.{info_in, slots, steps_in, steps_of, good_step}
use Rattle.plan.specs.LayoutLaws.{Formed, sound, all_good, and_left, and_right}
use Rattle.plan.specs.Step.{unpack, unpack_all, SlotsBelow}
use Rattle.plan.specs.Steps.{carry_out, carry_out_all, with_packets, at_start}

-- packets put at places
pub bytes-put : (j : ℕ) (st : List (List ℕ)) (I : List ℕ) (ps : List (List ℕ)) → each_byte j (with_packets st I ps) ≡ with_packets (each_byte j st) I (each_byte j ps)
bytes-put j st [] ps = refl
bytes-put j st (i ∷ I) [] = refl
bytes-put j st (i ∷ I) (p ∷ ps) = bytes-put j (set st i p) I ps ∙ ap (λ l. with_packets l I (each_byte j ps)) (each_set j st i p)

module _ (s j : ℕ) (h : j < s) where
  -- ---- the steps
  byte_step : (st : List (List ℕ)) (x : Step) → each_byte j (carry_out s st x) ≡ carry_out 1 (each_byte j st) x
  byte_step st (Clear to) = each_set j st to _ ∙ ap (set (each_byte j st) to) (part-zeros j 1 s (omega arith))
  byte_step st (Add to from) = each_set j st to _
      ∙ ap (set (each_byte j st) to) (part-sum j 1 (get_or st to []) (get_or st from []) ∙ ap₂ (add xor_group) (sym (each_at j st to)) (sym (each_at j st from)))

  pub bytes_after : (st : List (List ℕ)) (xs : List Step) → each_byte j (carry_out_all s st xs) ≡ carry_out_all 1 (each_byte j st) xs
  bytes_after st [] = refl
  bytes_after st (x ∷ xs) = bytes_after (carry_out s st x) xs ∙ ap (λ l. carry_out_all 1 l xs) (byte_step st x)

  -- ---- the start
  bytes-zeros : (k : ℕ) → each_byte j (replicate k (replicate s 0)) ≡ replicate k (replicate 1 0)
  bytes-zeros zero = refl
  bytes-zeros (suc k) = ap₂ ◌∷◌ (part-zeros j 1 s (omega arith)) (bytes-zeros k)

  pub bytes-start : (k : ℕ) (I : List ℕ) (ps : List (List ℕ)) → each_byte j (at_start k s I ps) ≡ at_start k 1 I (each_byte j ps)
  bytes-start k I ps = bytes-put j (replicate k (replicate s 0)) I ps ∙ ap (λ l. with_packets l I (each_byte j ps)) (bytes-zeros k)

  -- ---- both
  pub byte-by-byte : (k : ℕ) (I : List ℕ) (ps : List (List ℕ)) (xs : List Step)
      → each_byte j (carry_out_all s (at_start k s I ps) xs) ≡ carry_out_all 1 (at_start k 1 I (each_byte j ps)) xs
  byte-by-byte k I ps xs = bytes_after (at_start k s I ps) xs ∙ ap (λ l. carry_out_all 1 l xs) (bytes-start k I ps)

-- ---- the steps of a well-formed plan stay within its slots
module _ (k : ℕ) (I : List ℕ) where
  good-below : (ws : List ℕ) → all_good k I ws ≡ true → All (SlotsBelow k) (unpack_all ws)
  good-below [] h = nil
  good-below (w ∷ ws) h =
      let g = and_left (good_step k I (unpack w)) (all_good k I ws) h in
      let r = good-below ws (and_right (good_step k I (unpack w)) (all_good k I ws) h) in
      by_opt (unpack w)
      (λ x e. rw (e, unpack_all) (cons (sound k I x (rw e at g)).below r))
      (λ e. absurd (false≢true (rw e at g)))

pub steps-below : (w : List ℕ) → Formed w → All (SlotsBelow (slots w)) (steps_of w)
steps-below w f = good-below (slots w) (info_in w) (steps_in w) f.steps
